use Rattle.std.proofs.Common.{◌≡◌, ◌+◌, ◌++◌, ◌∷◌, [], add-one, length, map, drop}
use Rattle.std.proofs.lemmas.Result.{err_from_is_err_and}
use Rattle.csv.specs.Records.{fields_of}
use Rattle.wvalues.specs.Meaning.{meaning}
use Rattle.wsegment.specs.Cells.{rows_from}
use Rattle.wsegment.specs.Header.{kinds_of}
use Rattle.wsegment.specs.Kept.{in_order_of, laid}
use Rattle.wsegment.specs.Progress.{records_left}
use Rattle.wsegment.proofs.LaidFacts.{laid-more, rows-filled}
use Rattle.wsegment.proofs.RowFacts.{row-room, rows-end, rows-go, rows-stop}
use Rattle.wsegment.proofs.rows.read_rows.Goals as goal

pub returns-in_err-read_row-clause-gives : goal.returns-in_err-read_row-clause-gives
returns-in_err-read_row-clause-gives c =
    let p = err_from_is_err_and c.from_residual-in_err-read_row.result c.from_residual-in_err-read_row.ensures.1 in
    let ks = kinds_of (map (λ c. c.now) c.args.header.now) in
    let fields = c.args.fields.now in
    let n = c.loop-row.count in
    let took = rw c.if-branch.true at c.in_ok-take_record.ensures in
    rw (p.1, p.2) (rows-stop c.in_err-read_row.field-0.0 ks fields n (records_left c.loop-row.reader)
    (records_left c.take_record.new.reader) (fields_of c.take_record.new.row)
    (laid (length fields) n c.loop-row.cells.items) (in_order_of fields (rows_from ks 1 (records_left c.args.reader.now)))
    c.loop-row.invariant.few took.1 c.in_err-read_row.ensures.fault c.loop-row.invariant.so_far)

pub loop-row-preserved : goal.loop-row-preserved
loop-row-preserved c =
    let fields = c.args.fields.now in
    let width = length fields in
    let ks = kinds_of (map (λ c. c.now) c.args.header.now) in
    let n = c.loop-row.count in
    let r = fields_of c.take_record.new.row in
    let old = c.loop-row.cells.items in
    let new = c.lay_row.new.cells.items in
    let found = c.read_row.new.cells.items in
    let took = rw c.if-branch.true at c.in_ok-take_record.ensures in
    let more : laid width (n + 1) new ≡ laid width n old ++ map meaning (drop (length old) new) ∷ [] =
    rw (add-one n) (laid-more width n old new c.loop-row.invariant.full c.in_ok-lay_row.ensures.before c.in_ok-lay_row.ensures.added) in
    record {
      reading = took.0;
      few = row-room ks n r (map meaning found) c.loop-row.invariant.few c.in_ok-read_row.ensures.row;
      full = rows-filled n width (length old) (length new) c.loop-row.invariant.full c.in_ok-lay_row.ensures.added;
      so_far = rw more (rows-go ks fields n (records_left c.loop-row.reader) (records_left c.take_record.new.reader) r
          (laid width n old) (map meaning found) (map meaning (drop (length old) new))
          (in_order_of fields (rows_from ks 1 (records_left c.args.reader.now))) c.loop-row.invariant.few took.1
          c.in_ok-read_row.ensures.row (rw c.deref.ensures.value at c.in_ok-lay_row.ensures.row) c.loop-row.invariant.so_far);
    }

pub returns-clause-gives : goal.returns-clause-gives
returns-clause-gives c =
    let ks = kinds_of (map (λ c. c.now) c.args.header.now) in
    let fields = c.args.fields.now in
    let none = rw c.if-branch.false at c.in_ok-take_record.ensures in
    rw (c.rows_laid.ensures.width, c.rows_laid.ensures.count, c.rows_laid.ensures.cells)
    (rows-end ks fields (c.loop-row.count + 1) (records_left c.loop-row.reader) (laid (length fields) c.loop-row.count
    c.loop-row.cells.items) (in_order_of fields (rows_from ks 1 (records_left c.args.reader.now))) none c.loop-row.invariant.so_far)
