use Rattle.std.proofs.Common.{◌≡◌, ◌∙◌, ◌<◌, ◌≤◌, ◌-◌, length, sym, ap, subst, arith, rules}
use Rattle.wentries.specs.Blocks.{longest}
use Rattle.wentries.specs.Keeping.{kept_in}
use Rattle.wentries.proofs.Lows.{kept_bounded, kept_fewer, kept_filled, under}
use Rattle.wentries.proofs.Falls.{fall_part, fall_under}
use Rattle.wentries.proofs.blocks.Block.trim.Goals as goal

pub invariant_of-self : goal.invariant_of-self
invariant_of-self c =
    let sized = subst (λ es. (0 < length es) × (length es ≤ longest)) (sym c.drop_under.ensures) (
      kept_filled c.args.floor.now c.self.inside.entries.items (ap (under c.args.floor.now) c.self.view_is
          ∙ sym c.is_under.ensures ∙ c.if-is_under.false),
      kept_bounded c.args.floor.now c.self.inside.entries.items longest
          c.self.invariant.bounded,
    ) in
    record {
      some = sized.0;
      bounded = sized.1;
      counted = c.live_count-self-inside.ensures ∙ ap (λ es. length (kept_in es)) c.deref.ensures.value;
    }

pub returns-then-is_under-clause-fall : goal.returns-then-is_under-clause-fall
returns-then-is_under-clause-fall c =
    let counted : c.len-entries.result ≡ length c.self.inside.entries.items = omega (arith, c.len-entries.ensures) in
    fall_under c.args.floor.now c.self.inside.entries.items _ c.len-entries.result c.self.view_is
    (sym c.is_under.ensures ∙ c.if-is_under.true) counted

pub overflow_sub-result : goal.overflow_sub-result
overflow_sub-result c =
    let fewer : c.len.result ≤ c.len-entries.result =
    omega (
      arith,
      c.len-entries.ensures,
      c.len.ensures,
      ap length c.drop_under.ensures,
      kept_fewer c.args.floor.now c.self.inside.entries.items,
    ) in
    search rules

pub returns-clause-fall : goal.returns-clause-fall
returns-clause-fall c =
    let fewer : c.len-entries.result - c.len.result ≡ length c.self.inside.entries.items - length c.drop_under.new.entries.items =
    omega (arith, c.len-entries.ensures, c.len.ensures) in
    fall_part c.args.floor.now c.self.inside.entries.items _ c.drop_under.new.entries.items (c.len-entries.result - c.len.result) _
    c.self.view_is (sym c.is_under.ensures ∙ c.if-is_under.false) c.drop_under.ensures fewer
    (λ same.
    let still : c.live_count-self-inside.result ≡ c.self.inside.live = search rules in
    sym (c.live_count-self-inside.ensures ∙ ap (λ es. length (kept_in es)) c.deref.ensures.value) ∙ still
    ∙ c.self.invariant.counted)
