use Rattle.std.proofs.Common.{◌≡◌, ◌*◌, ◌-◌, length, ap, ◌∙◌, arith}
use Rattle.std.specs.Prelude.{◌^◌}
use Rattle.std.proofs.Math.Nat.{min-le_left}
use Rattle.wrows.specs.Laid.{rows_seen}
use Rattle.wgroup.specs.Table.{alike}
use Rattle.wgroup.proofs.SeenFacts.{agree_equiv}
use Rattle.wgroup.proofs.SightFacts.{numbers_next}
use Rattle.wgroup.proofs.seen.number_rows.Goals as goal

pub loop-row-init : goal.loop-row-init
loop-row-init c =
    let none : length c.args.table.now.firsts.items ≡ 0 = ap length c.requires.held.groups in
    let looks : c.args.table.now.looks ≡ 0 = c.requires.unlooked in
    record {
      held = c.requires.held;
      numbered = c.in_ok-numbers.ensures.items;
      few = omega (arith, none);
      looks = omega (arith, looks);
    }

pub loop-row-preserved : goal.loop-row-preserved
loop-row-preserved c =
    let keyed = c.args.keyed.now in
    record {
      held = c.in_ok-number_guessed.ensures.held;
      numbered = c.in_ok-push.ensures.items
          ∙ numbers_next (alike keyed) (agree_equiv keyed.columns.now (rows_seen keyed.rows.now)) c.loop-row.row
          c.in_ok-number_guessed.field-0 c.loop-row.numbers.items c.loop-row.invariant.numbered c.in_ok-number_guessed.ensures.number;
      few = c.is_slow.ensures.few c.if-is_slow.false;
      looks = omega (arith, c.is_slow.ensures.looks c.if-is_slow.false, min-le_left (length keyed.rows.now * 8) (2 ^ 64 - 1));
    }
