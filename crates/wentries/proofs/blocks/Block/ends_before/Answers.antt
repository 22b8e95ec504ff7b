use Rattle.std.proofs.Common.{◌≡◌, ◌<◌, ◌-◌, ◌∙◌, ◌++◌, suc, refl, ap, sym, subst, length, arith}
use Rattle.std.specs.Ordering.{is_lt}
use Rattle.wvalues.specs.Names.{name_cmp}
use Rattle.wentries.specs.Entries.{AreBelow, IsRising, known_entries}
use Rattle.wentries.proofs.BlockFacts.{all_below_last, below_last, lower, not_behind, not_lower}
use Rattle.wentries.proofs.blocks.Block.ends_before.Goals as goal

pub returns-clause-before : goal.returns-clause-before
returns-clause-before c = λ e before rising.
    let end : suc (c.len-end.result - 1) ≡ length c.self.inside.entries.items = omega (arith, c.self.invariant.some, c.len-end.ensures) in
    subst (λ es. AreBelow c.args.name.now (known_entries (before ++ es))) c.self.view_is
    (all_below_last before c.self.inside.entries.items (c.len-end.result - 1) c.index-last.result.now c.args.name.now end
    (subst (λ es. IsRising (before ++ es)) (sym c.self.view_is) rising)
    (lower _ _ c.args.name.now c.index-last.ensures refl (sym c.is_below.ensures ∙ e)))

pub returns-clause-behind : goal.returns-clause-behind
returns-clause-behind c = λ e after rising.
    let end : c.len-end.result - 1 < length c.self.inside.entries.items = omega (arith, c.self.invariant.some, c.len-end.ensures) in
    not_behind c.self.inside.entries.items after (c.len-end.result - 1) c.index-last.result.now c.args.name.now end
    (subst (λ es. IsRising (es ++ after)) (sym c.self.view_is) rising)
    (not_lower _ _ c.args.name.now c.index-last.ensures refl (sym c.is_below.ensures ∙ e))

pub returns-clause-all : goal.returns-clause-all
returns-clause-all c = λ below.
    let end : c.len-end.result - 1 < length c.self.inside.entries.items = omega (arith, c.self.invariant.some, c.len-end.ensures) in
    c.is_below.ensures ∙ ap (λ e. is_lt (name_cmp e.name c.args.name.now)) c.index-last.ensures
    ∙ ap is_lt (below_last c.self.inside.entries.items (c.len-end.result - 1) c.index-last.result.now c.args.name.now end
    (subst (λ es. AreBelow c.args.name.now (known_entries es)) (sym c.self.view_is) below))
