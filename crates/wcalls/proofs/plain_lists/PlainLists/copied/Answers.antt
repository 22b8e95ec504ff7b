use Rattle.std.proofs.Common.{map, take_all, ap, ◌∙◌}
use Rattle.std.specs.List.{flat_map}
use Rattle.wvalues.specs.Meaning.{meaning}
use Rattle.wrows.proofs.RowFacts.{flat_next}
use Rattle.wcalls.proofs.PlainFacts.{copies_laid, copies_long, list_seen}
use Rattle.wcalls.proofs.plain_lists.PlainLists.copied.Goals as goal

pub loop-row-preserved : goal.loop-row-preserved
loop-row-preserved c =
    flat_next (list_seen c.args.self.now.places.items) c.args.self.now.rows.now c.loop-row.row-index c.row-item.result
    (map meaning c.loop-row.cells.items) (map meaning c.push_copies.new.cells.items) c.loop-row-test.true c.row-item.is
    c.loop-row.invariant (c.in_ok-push_copies.ensures)

pub returns-clause-rows : goal.returns-clause-rows
returns-clause-rows c =
    let ps = c.args.self.now.places.items in
    let rows = c.args.self.now.rows.now in
    copies_laid ps rows c.loop-row.cells.items (c.loop-row.invariant ∙ ap (flat_map (list_seen ps))
    (take_all c.loop-row.row-index rows c.loop-row-test.false))

pub returns-clause-laid : goal.returns-clause-laid
returns-clause-laid c =
    let ps = c.args.self.now.places.items in
    let rows = c.args.self.now.rows.now in
    copies_long ps rows c.loop-row.cells.items (c.loop-row.invariant ∙ ap (flat_map (list_seen ps))
    (take_all c.loop-row.row-index rows c.loop-row-test.false))
