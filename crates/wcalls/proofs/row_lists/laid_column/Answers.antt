use Rattle.std.proofs.Common.{◌<◌, ◌≤◌, ◌*◌, length, take, drop, take_all, ap, ◌∙◌, arith}
use Rattle.std.proofs.lemmas.List.{length-map, get_or_default}
use Rattle.wvalues.specs.declared.value.Value.TheVariants as values
use Rattle.wrows.specs.Columns.{value_at}
use Rattle.wrows.specs.CodedRows.{key_column}
use Rattle.wrows.specs.Laid.{rows_in}
use Rattle.wrows.proofs.RowFacts.{length-laid, row_within}
use Rattle.wsort.proofs.RowFacts.{cell_more}
use Rattle.wcalls.proofs.row_lists.laid_column.Goals as goal

pub slice_of-requires : goal.slice_of-requires
slice_of-requires c =
    let cells = c.args.cells.now in
    omega (arith, row_within cells.width cells.count c.loop-row.row c.loop-row-test.true, cells.laid, ap length c.deref.ensures.value)

pub loop-row-preserved : goal.loop-row-preserved
loop-row-preserved c =
    let cells = c.args.cells.now in
    let slice = c.slice_of.result.now in
    let cell = c.index-slice_of-number.result in
    let room : c.args.number < length slice = omega (arith, c.requires, c.slice_of.ensures.len) in
    cell_more c.args.number cells.width cells.count cells.cells.items c.loop-row.row c.loop-row.column.items
    c.push.new.self.items slice _ c.loop-row-test.true c.requires c.slice_of.ensures.len c.loop-row.invariant
    (c.slice_of.ensures.list ∙ ap (λ l. take cells.width (drop (c.loop-row.row * cells.width) l)) c.deref.ensures.value)
    (c.index-slice_of-number.is ∙ get_or_default slice c.args.number cell values.Null room) c.in_ok-push.ensures.items

pub returns : goal.returns
returns c =
    let cells = c.args.cells.now in
    let lists = rows_in cells in
    let long : length (key_column c.args.number lists) ≤ c.loop-row.row =
    omega (
      arith,
      length-map lists (λ row. value_at row c.args.number),
      length-laid cells.width cells.count
          cells.cells.items,
      c.loop-row-test.false,
    ) in
    c.loop-row.invariant ∙ take_all c.loop-row.row (key_column c.args.number lists) long
