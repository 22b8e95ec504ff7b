use Rattle.std.proofs.Common.{◌+◌, ◌<◌, ◌++◌, length, map, subst, ap, ◌∙◌}
use Rattle.wvalues.specs.Meaning.{meaning}
use Rattle.wrows.specs.Columns.{value_at}
use Rattle.wrows.proofs.RowFacts.{same_at}
use Rattle.wgroup.specs.Held.{columns_in, group_row}
use Rattle.wgroup.specs.Sight.{slice_at}
use Rattle.wgroup.proofs.TellFacts.{cells_more, key_is}
use Rattle.wgroup.proofs.having.push_groups.Goals as goal

pub loop-place-preserved : goal.loop-place-preserved
loop-place-preserved c =
    let g = c.args.groups.now in
    let columns = columns_in c.args.columns.now in
    let from = c.args.from in
    let place = c.loop-place.place in
    let number = c.index.result.now in
    let there : place < length g.order.items = subst (λ m. place < m) (c.len-place-end.ensures ∙ g.order.ok.0) c.loop-place-test.true in
    let results = map (λ column. value_at column (from + place)) columns in
    cells_more (group_row g columns from) (map meaning c.args.out.now.items) (map meaning c.loop-place.out.items)
    (map meaning c.slice_of.result.now) results _ place c.loop-place.invariant
    (c.in_ok-push_results.ensures ∙ ap (λ l. l ++ results) c.in_ok-push_row.ensures)
    (ap (λ l. l ++ results)
    (ap (map meaning) (c.slice_of.ensures.list ∙ ap (λ xs. slice_at g.width xs number) c.deref.ensures.value
    ∙ ap (slice_at g.width g.keys.items) (c.index.ensures ∙ same_at g.order.items place number 0 there))
    ∙ key_is g columns from place there))
