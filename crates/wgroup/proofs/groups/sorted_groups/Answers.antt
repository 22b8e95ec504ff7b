use Rattle.std.proofs.Common.{length, ap, ◌∙◌, subst}
use Rattle.wgroup.specs.Sight.{IsSight, same_row}
use Rattle.wgroup.proofs.KeyFacts.{length_ascending}
use Rattle.wgroup.proofs.GroupFacts.{rows_agree}
use Rattle.wgroup.proofs.groups.sorted_groups.Goals as goal

pub first_sight-requires-clause-keys : goal.first_sight-requires-clause-keys
first_sight-requires-clause-keys c =
    ap length (c.deref-2.ensures.value ∙ c.in_ok-ascending.ensures) ∙ length_ascending c.args.columns.now

pub returns : goal.returns
returns c =
    let columns = c.args.columns.now in
    let rows = c.args.rows.now in
    let sight = c.in_ok-sight.sight in
    rows_agree columns rows c.in_ok-cells.cells.items c.in_ok-cells.ensures.keys sight.firsts.items sight.numbers.items
    (subst (λ xs. IsSight (same_row (length columns) xs) (length rows) sight.firsts.items sight.numbers.items)
    c.deref.ensures.value c.in_ok-sight.ensures)
