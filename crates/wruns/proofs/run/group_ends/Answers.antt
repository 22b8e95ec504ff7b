use Rattle.std.proofs.Common.{◌≡◌, ◌+◌, ◌*◌, ◌≤◌, length, subst, sym, arith}
use Rattle.std.specs.Prelude.{All}
use Rattle.wruns.specs.Cuts.{cut, AreEnds}
use Rattle.wruns.specs.Grouping.{AreGrouped}
use Rattle.wruns.specs.Runs.{IsGroup}
use Rattle.wruns.proofs.GroupFacts.{grouped_all, grouped_first, single_groups}
use Rattle.wruns.proofs.run.group_ends.Goals as goal

pub loop-place-init : goal.loop-place-init
loop-place-init c = record {
  grouped = subst (λ l. AreGrouped c.args.table.now.keys.now c.args.table.now.segment.now.rows c.args.rows.now l 0 1)
      (sym c.new-ends.ensures.items)
      (grouped_first c.args.table.now.keys.now c.args.table.now.segment.now.rows c.args.rows.now);
  few = subst (λ l. (length l + 1) * 2 ≤ length c.args.rows.now) (sym c.new-ends.ensures.items) (omega (arith, c.if-rows-lt2.false));
}

pub returns-then-rows-lt2-clause-groups : goal.returns-then-rows-lt2-clause-groups
returns-then-rows-lt2-clause-groups c = single_groups c.args.table.now.keys.now c.args.table.now.segment.now.rows c.args.rows.now

pub returns-then-len-rows-clause-groups : goal.returns-then-len-rows-clause-groups
returns-then-len-rows-clause-groups c = single_groups c.args.table.now.keys.now c.args.table.now.segment.now.rows c.args.rows.now

pub returns-clause-ends : goal.returns-clause-ends
returns-clause-ends c =
    let rows = c.args.rows.now in
    let end : c.loop-place.place ≡ length rows =
    omega (arith, c.loop-place-test.false, c.loop-place.auto.place-end, c.loop-place.auto.place, c.if-rows-lt2.false) in
    subst (λ l. AreEnds 0 l (length rows)) (sym c.in_ok-push.ensures.items)
    (grouped_all c.args.table.now.keys.now c.args.table.now.segment.now.rows rows c.loop-place.ends.items c.loop-place.first
    c.loop-place.place c.loop-place.invariant.grouped end).0

pub returns-clause-groups : goal.returns-clause-groups
returns-clause-groups c =
    let rows = c.args.rows.now in
    let end : c.loop-place.place ≡ length rows =
    omega (arith, c.loop-place-test.false, c.loop-place.auto.place-end, c.loop-place.auto.place, c.if-rows-lt2.false) in
    subst (λ l. All (IsGroup c.args.table.now.keys.now c.args.table.now.segment.now.rows) (cut 0 l rows)) (sym c.in_ok-push.ensures.items)
    (grouped_all c.args.table.now.keys.now c.args.table.now.segment.now.rows rows c.loop-place.ends.items c.loop-place.first
    c.loop-place.place c.loop-place.invariant.grouped end).1
