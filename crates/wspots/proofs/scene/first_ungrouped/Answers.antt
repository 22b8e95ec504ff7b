use Rattle.std.proofs.Common.{ap, sym, ◌∙◌}
use Rattle.wspots.specs.Names.{holds}
use Rattle.wspots.proofs.Ungrouped.{ungrouped_behind, ungrouped_here}
use Rattle.wspots.proofs.scene.first_ungrouped.Goals as goal

pub returns-then-not-contains : goal.returns-then-not-contains
returns-then-not-contains c =
    sym (c.columns.invariant ∙ ungrouped_here (holds c.args.grouped.now) c.args.columns.now c.columns.place c.index-columns-place.result
    c.columns-test.true c.index-columns-place.is (ap (holds c.args.grouped.now) (sym c.as_str.ensures.value) ∙ sym c.contains.ensures
    ∙ c.if-not-contains.true))

pub columns-preserved : goal.columns-preserved
columns-preserved c =
    c.columns.invariant ∙ ungrouped_behind (holds c.args.grouped.now) c.args.columns.now c.columns.place c.index-columns-place.result
    c.columns-test.true c.index-columns-place.is (ap (holds c.args.grouped.now) (sym c.as_str.ensures.value) ∙ sym c.contains.ensures
    ∙ c.if-not-contains.false)
