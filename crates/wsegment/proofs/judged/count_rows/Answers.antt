use Rattle.std.proofs.Common.{◌∙◌, inr, map, sym}
use Rattle.std.proofs.lemmas.Result.{err_from_is_err_and}
use Rattle.csv.specs.Records.{fields_of}
use Rattle.wsegment.specs.Progress.{records_left}
use Rattle.wsegment.proofs.SegmentFacts.{rows-counted, rows-long, stop-counted, stop-first, stop-header, stop-missing}
use Rattle.wsegment.proofs.judged.count_rows.Goals as goal

pub returns-then-bytes-gt-LONGEST_SEGMENT-clause-refused : goal.returns-then-bytes-gt-LONGEST_SEGMENT-clause-refused
returns-then-bytes-gt-LONGEST_SEGMENT-clause-refused c = inr (rows-long c.args.schema.now c.args.bytes.now c.if-bytes-gt-LONGEST_SEGMENT.true)

pub returns-in_err-first-clause-refused : goal.returns-in_err-first-clause-refused
returns-in_err-first-clause-refused c =
    let p = err_from_is_err_and c.from_residual-in_err-first.result c.from_residual-in_err-first.ensures.1 in
    rw (p.1, p.2) (stop-first c.in_err-first.field-0.0 c.args.schema.now c.args.bytes.now c.if-bytes-gt-LONGEST_SEGMENT.false
    (records_left c.in_ok-reader.reader) c.in_ok-reader.ensures.all c.in_err-first.ensures.fault)

pub returns-in_err-header-clause-refused : goal.returns-in_err-header-clause-refused
returns-in_err-header-clause-refused c =
    let took = c.in_ok-first.ensures.taken in
    let p = err_from_is_err_and c.from_residual-in_err-header.result c.from_residual-in_err-header.ensures.1 in
    rw (p.1, p.2) (stop-header c.in_err-header.field-0.0 c.args.schema.now c.args.bytes.now (fields_of c.in_ok-first.first)
    (records_left c.take_header.new.reader)
    (record { short = c.if-bytes-gt-LONGEST_SEGMENT.false; all = sym c.in_ok-reader.ensures.all ∙ took.1 })
    (rw c.columns-columns.ensures.columns at c.in_err-header.ensures))

pub returns-then-not-is_complete-clause-refused : goal.returns-then-not-is_complete-clause-refused
returns-then-not-is_complete-clause-refused c =
    let took = c.in_ok-first.ensures.taken in
    inr (stop-missing c.args.schema.now c.args.bytes.now (fields_of c.in_ok-first.first)
    (records_left c.take_header.new.reader) (map (λ c. c.now) c.in_ok-header.header.items)
    (record { short = c.if-bytes-gt-LONGEST_SEGMENT.false; all = sym c.in_ok-reader.ensures.all ∙ took.1 })
    (rw c.columns-columns.ensures.columns at c.in_ok-header.ensures)
    (sym (rw (c.deref.ensures.value, c.columns-columns.ensures.columns) at c.is_complete.ensures) ∙ c.if-not-is_complete.true))

pub returns-in_err-count-clause-refused : goal.returns-in_err-count-clause-refused
returns-in_err-count-clause-refused c =
    let took = c.in_ok-first.ensures.taken in
    let p = err_from_is_err_and c.from_residual-in_err-count.result c.from_residual-in_err-count.ensures.1 in
    rw (p.1, p.2) (stop-counted c.in_err-count.field-0.0 c.args.schema.now c.args.bytes.now (fields_of c.in_ok-first.first)
    (records_left c.take_header.new.reader) (map (λ c. c.now) c.in_ok-header.header.items)
    (record { short = c.if-bytes-gt-LONGEST_SEGMENT.false; all = sym c.in_ok-reader.ensures.all ∙ took.1 })
    (rw c.columns-columns.ensures.columns at c.in_ok-header.ensures)
    (sym (rw (c.deref.ensures.value, c.columns-columns.ensures.columns) at c.is_complete.ensures) ∙ c.if-not-is_complete.false)
    (rw c.deref-2.ensures.value at c.in_err-count.ensures.gives))

pub returns-clause-rows : goal.returns-clause-rows
returns-clause-rows c =
    let took = c.in_ok-first.ensures.taken in
    rows-counted c.args.schema.now c.args.bytes.now (fields_of c.in_ok-first.first) (records_left c.take_header.new.reader)
    (map (λ c. c.now) c.in_ok-header.header.items)
    (record { short = c.if-bytes-gt-LONGEST_SEGMENT.false; all = sym c.in_ok-reader.ensures.all ∙ took.1 })
    (rw c.columns-columns.ensures.columns at c.in_ok-header.ensures)
    (sym (rw (c.deref.ensures.value, c.columns-columns.ensures.columns) at c.is_complete.ensures) ∙ c.if-not-is_complete.false)
    ∙ (rw c.deref-2.ensures.value at c.in_ok-count.ensures.gives)
