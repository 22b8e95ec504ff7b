use Rattle.std.proofs.Common.{◌≡◌, ◌<◌, ◌-◌, ◌∙◌, ◌++◌, suc, ap, sym, subst, length, arith}
use Rattle.std.specs.Ordering.{is_lt, nat_cmp}
use Rattle.std.specs.Cmp.Lexicographic.{slice_cmp}
use Rattle.wentries.specs.Entries.{AreOriginsBelow, IsRising, known_entries}
use Rattle.wentries.proofs.Lows.{is_less, origin_last, origins_below_last}
use Rattle.wentries.proofs.blocks.Block.ends_before_origin.Goals as goal

pub returns-clause-before : goal.returns-clause-before
returns-clause-before c = λ e before rising.
    let end : suc (c.len-end.result - 1) ≡ length c.self.inside.entries.items = omega (arith, c.self.invariant.some, c.len-end.ensures) in
    subst (λ es. AreOriginsBelow c.args.origin.now (known_entries (before ++ es))) c.self.view_is
    (origins_below_last before c.self.inside.entries.items (c.len-end.result - 1) c.index-last.result.now (record {
      origin =
          c.args.origin.now;
      number = 0;
    }) end (subst (λ es. IsRising (before ++ es)) (sym c.self.view_is) rising)
    (ap (λ x. slice_cmp nat_cmp x.name.origin c.args.origin.now) (sym c.index-last.ensures)
    ∙ is_less _ (ap (λ a. is_lt (slice_cmp nat_cmp a c.args.origin.now)) (sym c.origin.ensures.origin)
    ∙ ap is_lt (sym c.cmp.ensures) ∙ sym c.is_lt.ensures ∙ e)))

pub returns-clause-all : goal.returns-clause-all
returns-clause-all c = λ below.
    let end : c.len-end.result - 1 < length c.self.inside.entries.items = omega (arith, c.self.invariant.some, c.len-end.ensures) in
    c.is_lt.ensures ∙ ap is_lt c.cmp.ensures ∙ ap (λ a. is_lt (slice_cmp nat_cmp a c.args.origin.now)) c.origin.ensures.origin
    ∙ ap (λ e. is_lt (slice_cmp nat_cmp e.name.origin c.args.origin.now)) c.index-last.ensures
    ∙ ap is_lt (origin_last c.self.inside.entries.items (c.len-end.result - 1) c.index-last.result.now (record {
      origin =
          c.args.origin.now;
      number = 0;
    }) end (subst (λ es. AreOriginsBelow c.args.origin.now (known_entries es))
    (sym c.self.view_is) below))
