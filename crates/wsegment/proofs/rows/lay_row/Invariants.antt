use Rattle.std.proofs.Common.{◌≡◌, ◌+◌, drop, length, map, take}
use Rattle.wvalues.specs.Meaning.{meaning}
use Rattle.wsegment.specs.Kept.{cells_at}
use Rattle.wsegment.proofs.rows.lay_row.Given as goal

abbrev pub invariant-loop-field : goal.invariant-loop-field
invariant-loop-field l = record {
  before : take (length l.fn.cells.items) l.cells.items ≡ l.fn.cells.items;
  added : length l.cells.items ≡ length l.fn.cells.items + l.field-index;
  so_far : map meaning (drop (length l.fn.cells.items) l.cells.items) ≡ cells_at (take l.field-index l.fields) (map meaning l.found);
}
