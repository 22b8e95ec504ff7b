use Rattle.std.proofs.Common.{◌≡◌, ◌∙◌, ◌+◌, ◌++◌, ◌≤◌, ◌∷◌, [], inr, ap, sym, add-one, length, map, drop, suc, arith}
use Rattle.std.proofs.lemmas.List.{drop-append-le, drop_all, length-append, map-append, take-append-le, take_all}
use Rattle.std.proofs.lemmas.Result.{err_from_is_err_and}
use Rattle.csv.specs.Records.{fields_of}
use Rattle.wvalues.specs.Meaning.{meaning}
use Rattle.wsegment.specs.Cells.{cells_of, row_of}
use Rattle.wsegment.specs.Header.{kinds_of}
use Rattle.wsegment.proofs.Fronts.{front-nil}
use Rattle.wsegment.proofs.FieldFacts.{ascii-text}
use Rattle.wsegment.proofs.HeaderFacts.{kind-drop, kinds-long}
use Rattle.wsegment.proofs.ListFacts.{field-drop, field-found}
use Rattle.wsegment.proofs.RowFacts.{cells-end, cells-go, cells-stop, row-cells, row-refused}
use Rattle.wsegment.proofs.rows.push_row.Goals as goal

pub returns-then-len-header-clause-fault : goal.returns-then-len-header-clause-fault
returns-then-len-header-clause-fault c =
    inr (row-refused c.args.number (kinds_of (map (λ c. c.now) c.args.header.now)) (fields_of c.args.row.now)
    (λ e. c.if-len-header.true (c.len.ensures ∙ e ∙ kinds-long c.args.header.now)))

pub loop-i-init : goal.loop-i-init
loop-i-init c =
    let cells = c.args.cells.now.items in
    let ks = kinds_of (map (λ c. c.now) c.args.header.now) in
    let fs = fields_of c.args.row.now in
    record {
      before = take_all (length cells) cells (omega arith);
      added = omega arith;
      so_far = rw (drop_all (length cells) cells (omega arith)) (front-nil (cells_of c.args.number ks fs)
          ∙ sym (row-cells c.args.number ks fs (sym c.len.ensures ∙ c.if-len-header.false ∙ sym (kinds-long c.args.header.now))));
    }

pub cell-requires : goal.cell-requires
cell-requires c = ascii-text c.args.row.now c.is_ascii-is_ascii.result c.as_slice.result.now c.loop-i.i c.in-Some.field.now
    c.is_ascii-is_ascii.ensures.cases c.as_slice.ensures c.in-Some.ensures.value

pub unreachable-requires : goal.unreachable-requires
unreachable-requires c = field-found (fields_of c.args.row.now) c.loop-i.i (rw (← c.len.ensures, c.if-len-header.false)
    c.loop-i-test.true) (sym c.in_default.ensures.value)

pub returns-in_err-value-clause-fault : goal.returns-in_err-value-clause-fault
returns-in_err-value-clause-fault c =
    let p = err_from_is_err_and c.from_residual.result c.from_residual.ensures.1 in
    let ks = kinds_of (map (λ c. c.now) c.args.header.now) in
    let fs = fields_of c.args.row.now in
    let i = c.loop-i.i in
    rw (p.1, p.2) (cells-stop c.in_err-value.field-0.0 c.args.number (drop i ks) (drop (suc i) ks) (drop i fs)
    (drop (suc i) fs) c.index-header-i.result.now.kind c.in-Some.field.now
    (map meaning (drop (length c.args.cells.now.items) c.loop-i.cells.items)) (row_of c.args.number ks fs)
    (kind-drop c.args.header.now i c.index-header-i.result c.loop-i-test.true c.index-header-i.is)
    (field-drop fs i c.in-Some.field.now (sym c.in-Some.ensures.value)) (rw c.kind.ensures at c.in_err-value.ensures.gives)
    c.loop-i.invariant.so_far)

pub loop-i-preserved : goal.loop-i-preserved
loop-i-preserved c =
    let start = length c.args.cells.now.items in
    let cells = c.loop-i.cells.items in
    let ks = kinds_of (map (λ c. c.now) c.args.header.now) in
    let fs = fields_of c.args.row.now in
    let i = c.loop-i.i in
    let some : start ≤ length cells = omega (arith, c.loop-i.invariant.added) in
    let long : length c.push.new.self.items ≡ length cells + 1 = ap length c.in_ok-push.ensures.items
    ∙ length-append cells (c.in_ok-value.value ∷ []) in
    let e : map meaning (drop start c.push.new.self.items) ≡ map meaning (drop start cells) ++ meaning c.in_ok-value.value ∷ []
    = ap (λ items. map meaning (drop start items)) c.in_ok-push.ensures.items
    ∙ ap (map meaning) (drop-append-le start cells (c.in_ok-value.value ∷ []) some)
    ∙ map-append meaning (drop start cells) (c.in_ok-value.value ∷ []) in
    record {
      before = rw c.in_ok-push.ensures.items (take-append-le start cells (c.in_ok-value.value ∷ []) some ∙ c.loop-i.invariant.before);
      added = omega (arith, long, c.loop-i.invariant.added);
      so_far = rw (e, add-one i) (cells-go c.args.number (drop i ks) (drop (suc i) ks) (drop i fs) (drop (suc i) fs)
          c.index-header-i.result.now.kind c.in-Some.field.now
          (map meaning (drop start cells)) (meaning c.in_ok-value.value) (row_of c.args.number ks fs)
          (kind-drop c.args.header.now i c.index-header-i.result c.loop-i-test.true c.index-header-i.is)
          (field-drop fs i c.in-Some.field.now (sym c.in-Some.ensures.value))
          (rw c.kind.ensures at c.in_ok-value.ensures.gives) c.loop-i.invariant.so_far);
    }

pub returns-clause-added : goal.returns-clause-added
returns-clause-added c = omega (arith, c.loop-i.invariant.added, c.loop-i.auto.i-end, c.loop-i-test.false)

pub returns-clause-row : goal.returns-clause-row
returns-clause-row c =
    let ks = kinds_of (map (λ c. c.now) c.args.header.now) in
    let fs = fields_of c.args.row.now in
    let i = c.loop-i.i in
    cells-end c.args.number (drop i ks) (drop i fs)
    (map meaning (drop (length c.args.cells.now.items) c.loop-i.cells.items)) (row_of c.args.number ks fs)
    (drop_all i ks (rw (kinds-long c.args.header.now) c.loop-i-test.false)) c.loop-i.invariant.so_far
