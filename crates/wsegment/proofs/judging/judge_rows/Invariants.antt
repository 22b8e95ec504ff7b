use Rattle.std.proofs.Common.{◌≡◌, ◌+◌, ◌-◌, ◌≤◌, map}
use Rattle.wsegment.specs.Cells.{rows_from}
use Rattle.wsegment.specs.Header.{kinds_of}
use Rattle.wsegment.specs.Judging.{counted}
use Rattle.wsegment.specs.Progress.{IsReading, records_left}
use Rattle.wsegment.proofs.JudgingFacts.{more}
use Rattle.wsegment.proofs.judging.judge_rows.Given as goal

abbrev pub invariant-loop-row : goal.invariant-loop-row
invariant-loop-row l = record {
  reading : IsReading l.reader;
  few : l.count ≤ 1000000;
  so_far : more l.count (counted (rows_from (kinds_of (map (λ c. c.now) l.header)) (l.count + 1) (records_left l.reader)))
      ≡ counted (rows_from (kinds_of (map (λ c. c.now) l.header)) 1 (records_left l.fn.reader));
}

abbrev pub decreases-loop-row : goal.decreases-loop-row
decreases-loop-row l = 1000000 - l.count
