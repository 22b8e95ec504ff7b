use Rattle.std.proofs.Common.{◌∙◌, ap, inr, length, map, sym}
use Rattle.std.proofs.lemmas.Result.{err_from_is_err_and}
use Rattle.csv.specs.Records.{fields_of}
use Rattle.wsegment.specs.Kept.{rows_kept}
use Rattle.wsegment.specs.Progress.{records_left}
use Rattle.wsegment.proofs.HeaderFacts.{fields-long}
use Rattle.wsegment.proofs.SegmentFacts.{all-rows, rows-long, stop-first, stop-fields, stop-header, stop-rows}
use Rattle.wsegment.proofs.segment.read_cells.Goals as goal

pub returns-then-bytes-gt-LONGEST_SEGMENT-clause-rows : goal.returns-then-bytes-gt-LONGEST_SEGMENT-clause-rows
returns-then-bytes-gt-LONGEST_SEGMENT-clause-rows c = inr (rows-long c.args.schema.now c.args.bytes.now c.if-bytes-gt-LONGEST_SEGMENT.true)

pub returns-in_err-first-clause-rows : goal.returns-in_err-first-clause-rows
returns-in_err-first-clause-rows c =
    let p = err_from_is_err_and c.from_residual-in_err-first.result c.from_residual-in_err-first.ensures.1 in
    rw (p.1, p.2) (stop-first c.in_err-first.field-0.0 c.args.schema.now c.args.bytes.now c.if-bytes-gt-LONGEST_SEGMENT.false
    (records_left c.in_ok-reader.reader) c.in_ok-reader.ensures.all c.in_err-first.ensures.fault)

pub returns-in_err-header-clause-rows : goal.returns-in_err-header-clause-rows
returns-in_err-header-clause-rows c =
    let took = c.in_ok-first.ensures.taken in
    let p = err_from_is_err_and c.from_residual-in_err-header.result c.from_residual-in_err-header.ensures.1 in
    rw (p.1, p.2) (stop-header c.in_err-header.field-0.0 c.args.schema.now c.args.bytes.now (fields_of c.in_ok-first.first)
    (records_left c.take_header.new.reader)
    (record { short = c.if-bytes-gt-LONGEST_SEGMENT.false; all = sym c.in_ok-reader.ensures.all ∙ took.1 })
    (rw c.columns-columns.ensures.columns at c.in_err-header.ensures))

pub returns-in_err-fields-clause-rows : goal.returns-in_err-fields-clause-rows
returns-in_err-fields-clause-rows c =
    let took = c.in_ok-first.ensures.taken in
    let p = err_from_is_err_and c.from_residual-in_err-fields.result c.from_residual-in_err-fields.ensures.1 in
    rw (p.1, p.2) (stop-fields c.in_err-fields.field-0.0 c.args.schema.now c.args.bytes.now (fields_of c.in_ok-first.first)
    (records_left c.take_header.new.reader) (map (λ c. c.now) c.in_ok-header.header.items)
    (record { short = c.if-bytes-gt-LONGEST_SEGMENT.false; all = sym c.in_ok-reader.ensures.all ∙ took.1 })
    (rw c.columns-columns.ensures.columns at c.in_ok-header.ensures)
    (rw (c.deref.ensures.value, c.columns-columns.ensures.columns) at c.in_err-fields.ensures.gives))

pub returns-in_err-rows-clause-rows : goal.returns-in_err-rows-clause-rows
returns-in_err-rows-clause-rows c =
    let took = c.in_ok-first.ensures.taken in
    let p = err_from_is_err_and c.from_residual-in_err-rows.result c.from_residual-in_err-rows.ensures.1 in
    let placed = rw (c.deref.ensures.value, c.columns-columns.ensures.columns) at c.in_ok-fields.ensures.gives in
    rw (p.1, p.2) (stop-rows c.in_err-rows.field-0.0 c.args.schema.now c.args.bytes.now (fields_of c.in_ok-first.first)
    (records_left c.take_header.new.reader) (map (λ c. c.now) c.in_ok-header.header.items) c.in_ok-fields.fields.items
    (record { short = c.if-bytes-gt-LONGEST_SEGMENT.false; all = sym c.in_ok-reader.ensures.all ∙ took.1 })
    (rw c.columns-columns.ensures.columns at c.in_ok-header.ensures)
    placed.0
    placed.1
    (rw (c.deref-2.ensures.value, c.deref-3.ensures.value) at c.in_err-rows.ensures.gives))

pub returns-clause-rows : goal.returns-clause-rows
returns-clause-rows c =
    let took = c.in_ok-first.ensures.taken in
    let placed = rw (c.deref.ensures.value, c.columns-columns.ensures.columns) at c.in_ok-fields.ensures.gives in
    all-rows c.args.schema.now c.args.bytes.now (fields_of c.in_ok-first.first) (records_left c.take_header.new.reader)
    (map (λ c. c.now) c.in_ok-header.header.items) c.in_ok-fields.fields.items (rows_kept c.in_ok-rows.rows)
    (record { short = c.if-bytes-gt-LONGEST_SEGMENT.false; all = sym c.in_ok-reader.ensures.all ∙ took.1 })
    (rw c.columns-columns.ensures.columns at c.in_ok-header.ensures)
    placed.0
    placed.1
    (rw (c.deref-2.ensures.value, c.deref-3.ensures.value) at c.in_ok-rows.ensures.gives)

pub returns-clause-columns : goal.returns-clause-columns
returns-clause-columns c =
    let placed = rw (c.deref.ensures.value, c.columns-columns.ensures.columns) at c.in_ok-fields.ensures.gives in
    c.in_ok-rows.ensures.width ∙ ap length c.deref-3.ensures.value
    ∙ fields-long (map (λ c. c.now) c.in_ok-header.header.items) c.args.schema.now.columns c.in_ok-fields.fields.items placed.1

pub read_rows-requires-clause-within : goal.read_rows-requires-clause-within
read_rows-requires-clause-within c = rw (c.deref-3.ensures.value, c.deref-2.ensures.value)
    (rw c.deref.ensures.value at c.in_ok-fields.ensures.within)
