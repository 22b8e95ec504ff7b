use Rattle.std.proofs.Common.{◌*◌, ◌∙◌, take, drop, take_all, ap, arith}
use Rattle.wrows.specs.Laid.{rows_in}
use Rattle.wrows.proofs.RowFacts.{lent_more, length-laid}
use Rattle.wrows.proofs.lent.lent_rows.Goals as goal

pub loop-row-preserved : goal.loop-row-preserved
loop-row-preserved c =
    let cells = c.args.cells.now in
    lent_more cells.width cells.count cells.cells.items c.loop-row.row c.loop-row.rows.items c.slice_of.result _
    c.loop-row-test.true c.loop-row.invariant
    (c.slice_of.ensures.list ∙ ap (λ xs. take cells.width (drop (c.loop-row.row * cells.width) xs)) c.deref.ensures.value)
    c.in_ok-push.ensures.items

pub returns : goal.returns
returns c =
    let cells = c.args.cells.now in
    c.loop-row.invariant ∙ take_all c.loop-row.row (rows_in cells)
    (omega (arith, length-laid cells.width cells.count cells.cells.items, c.loop-row-test.false))
