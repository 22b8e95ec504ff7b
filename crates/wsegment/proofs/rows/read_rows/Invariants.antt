use Rattle.std.proofs.Common.{◌≡◌, ◌+◌, ◌*◌, ◌-◌, ◌≤◌, length, map}
use Rattle.wsegment.specs.Cells.{rows_from}
use Rattle.wsegment.specs.Header.{kinds_of}
use Rattle.wsegment.specs.Kept.{in_order_of, laid}
use Rattle.wsegment.specs.Progress.{IsReading, records_left}
use Rattle.wsegment.proofs.Fronts.{with_front}
use Rattle.wsegment.proofs.rows.read_rows.Given as goal

abbrev pub invariant-loop-row : goal.invariant-loop-row
invariant-loop-row l = record {
  reading : IsReading l.reader;
  few : l.count ≤ 1000000;
  full : length l.cells.items ≡ l.count * length l.fields;
  so_far : with_front (laid (length l.fields) l.count l.cells.items)
      (in_order_of l.fields (rows_from (kinds_of (map (λ c. c.now) l.header)) (l.count + 1) (records_left l.reader)))
      ≡ in_order_of l.fields (rows_from (kinds_of (map (λ c. c.now) l.header)) 1 (records_left l.fn.reader));
}

abbrev pub decreases-loop-row : goal.decreases-loop-row
decreases-loop-row l = 1000000 - l.count
