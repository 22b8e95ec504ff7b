use Rattle.std.proofs.Common.{◌≡◌, drop, map}
use Rattle.csv.specs.Records.{fields_of}
use Rattle.wsegment.specs.Cells.{cells_of, row_of}
use Rattle.wsegment.specs.Header.{kinds_of}
use Rattle.wsegment.specs.Judging.{verdict}
use Rattle.wsegment.proofs.judging.judge_fields.Given as goal

abbrev pub invariant-loop-i : goal.invariant-loop-i
invariant-loop-i l = record {
  so_far : verdict (cells_of l.number (drop l.i (kinds_of (map (λ c. c.now) l.header))) (drop l.i (fields_of l.row)))
      ≡ verdict (row_of l.number (kinds_of (map (λ c. c.now) l.header)) (fields_of l.row));
}
