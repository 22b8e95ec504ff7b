use Rattle.std.proofs.Common.{◌≡◌, ◌+◌, drop, length, map, take}
use Rattle.csv.specs.Records.{fields_of}
use Rattle.wvalues.specs.Meaning.{meaning}
use Rattle.wsegment.specs.Cells.{cells_of, row_of}
use Rattle.wsegment.specs.Header.{kinds_of}
use Rattle.wsegment.proofs.Fronts.{with_front}
use Rattle.wsegment.proofs.rows.push_row.Given as goal

abbrev pub invariant-loop-i : goal.invariant-loop-i
invariant-loop-i l = record {
  before : take (length l.fn.cells.items) l.cells.items ≡ l.fn.cells.items;
  added : length l.cells.items ≡ length l.fn.cells.items + l.i;
  so_far : with_front (map meaning (drop (length l.fn.cells.items) l.cells.items))
      (cells_of l.number (drop l.i (kinds_of (map (λ c. c.now) l.header))) (drop l.i (fields_of l.row)))
      ≡ row_of l.number (kinds_of (map (λ c. c.now) l.header)) (fields_of l.row);
}
