use Rattle.std.proofs.Common.{◌≡◌, map, get_or, take_all, ap, ◌∙◌}
use Rattle.wrows.specs.Columns.{value_at}
use Rattle.wrows.specs.Laid.{rows_seen}
use Rattle.wrows.proofs.RowFacts.{same_at}
use Rattle.wcalls.proofs.PlainFacts.{column_at}
use Rattle.wcalls.proofs.plain_lists.PlainLists.column.Goals as goal

pub returns : goal.returns
returns c =
    let ps = c.args.self.now.places.items in
    let rows = c.args.self.now.rows.now in
    let place = c.index-place.result.now in
    let is : place ≡ get_or ps c.args.number 0 = c.index-place.ensures ∙ same_at ps c.args.number place 0 c.requires in
    c.loop-row.invariant ∙ ap (λ l. map (λ row. value_at row place) (rows_seen l)) (take_all c.loop-row.row-index rows
    c.loop-row-test.false)
    ∙ column_at ps (rows_seen rows) c.args.number place c.requires is
