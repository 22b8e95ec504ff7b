use Rattle.std.proofs.Common.{◌+◌, inr, map}
use Rattle.std.proofs.lemmas.Result.{err_from_is_err_and}
use Rattle.csv.specs.Records.{fields_of}
use Rattle.wsegment.specs.Cells.{rows_from}
use Rattle.wsegment.specs.Header.{kinds_of}
use Rattle.wsegment.specs.Judging.{counted}
use Rattle.wsegment.specs.Progress.{records_left}
use Rattle.wsegment.proofs.JudgingFacts.{judged-room, rows-judged, rows-over, rows-refused}
use Rattle.wsegment.proofs.judging.judge_rows.Goals as goal

pub returns-in_err-judge_row-clause-gives : goal.returns-in_err-judge_row-clause-gives
returns-in_err-judge_row-clause-gives c =
    let p = err_from_is_err_and c.from_residual-in_err-judge_row.result c.from_residual-in_err-judge_row.ensures.1 in
    let ks = kinds_of (map (λ c. c.now) c.args.header.now) in
    let took = rw c.if-branch.true at c.in_ok-take_record.ensures in
    rw (p.1, p.2) (inr (rows-refused c.in_err-judge_row.field-0.0 ks c.loop-row.count (records_left c.loop-row.reader)
    (records_left c.take_record.new.reader) (fields_of c.take_record.new.row)
    (counted (rows_from ks 1 (records_left c.args.reader.now))) c.loop-row.invariant.few took.1 c.in_err-judge_row.ensures
    c.loop-row.invariant.so_far))

pub loop-row-preserved : goal.loop-row-preserved
loop-row-preserved c =
    let ks = kinds_of (map (λ c. c.now) c.args.header.now) in
    let r = fields_of c.take_record.new.row in
    let took = rw c.if-branch.true at c.in_ok-take_record.ensures in
    record {
      reading = took.0;
      few = judged-room ks c.loop-row.count r c.loop-row.invariant.few c.in_ok-judge_row.ensures;
      so_far = rows-judged ks c.loop-row.count (records_left c.loop-row.reader) (records_left c.take_record.new.reader) r
          (counted (rows_from ks 1 (records_left c.args.reader.now)))
          c.loop-row.invariant.few took.1 c.in_ok-judge_row.ensures c.loop-row.invariant.so_far;
    }

pub returns-clause-gives : goal.returns-clause-gives
returns-clause-gives c =
    let ks = kinds_of (map (λ c. c.now) c.args.header.now) in
    let none = rw c.if-branch.false at c.in_ok-take_record.ensures in
    rows-over ks c.loop-row.count (c.loop-row.count + 1) (records_left c.loop-row.reader)
    (counted (rows_from ks 1 (records_left c.args.reader.now))) none c.loop-row.invariant.so_far
