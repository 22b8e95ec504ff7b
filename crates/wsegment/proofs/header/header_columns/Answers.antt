use Rattle.std.proofs.Common.{◌≡◌, [], ◌∷◌, ◌++◌, add-one, drop, map, suc, sym}
use Rattle.std.proofs.lemmas.List.{drop_all, map_push}
use Rattle.std.proofs.lemmas.Result.{err_from_is_err_and}
use Rattle.csv.specs.Records.{fields_of}
use Rattle.wsegment.specs.Header.{named_each}
use Rattle.wsegment.proofs.Fronts.{front-nil}
use Rattle.wsegment.proofs.HeaderFacts.{columns-all, columns-go, columns-stop}
use Rattle.wsegment.proofs.ListFacts.{field-drop, field-found}
use Rattle.wsegment.proofs.header.header_columns.Goals as goal

pub loop-i-init : goal.loop-i-init
loop-i-init c = rw c.new-found.ensures.items (front-nil (named_each c.args.columns.now [] (fields_of c.args.header.now)))

pub unreachable-requires : goal.unreachable-requires
unreachable-requires c = field-found (fields_of c.args.header.now) c.loop-i.i
    (rw (← c.len-i-end.ensures) c.loop-i-test.true) (sym c.in_default.ensures.value)

pub returns-in_err-column : goal.returns-in_err-column
returns-in_err-column c =
    let p = err_from_is_err_and c.from_residual.result c.from_residual.ensures.1 in
    let fs = fields_of c.args.header.now in
    let i = c.loop-i.i in
    rw (p.1, p.2) (columns-stop c.in_err-column.field-0.0 c.args.columns.now (map (λ c. c.now) c.loop-i.found.items)
    (drop i fs) (drop (suc i) fs) c.in-Some.field.now (named_each c.args.columns.now [] fs)
    (field-drop fs i c.in-Some.field.now (sym c.in-Some.ensures.value))
    (rw c.deref.ensures.value at c.in_err-column.ensures) c.loop-i.invariant)

pub loop-i-preserved : goal.loop-i-preserved
loop-i-preserved c =
    let fs = fields_of c.args.header.now in
    let i = c.loop-i.i in
    let e : map (λ c. c.now) c.push.new.self.items ≡ map (λ c. c.now) c.loop-i.found.items ++ c.in_ok-column.column.now
    ∷ [] = rw c.in_ok-push.ensures.items (map_push (λ c. c.now) c.loop-i.found.items c.in_ok-column.column) in
    rw (e, add-one i) (columns-go c.args.columns.now (map (λ c. c.now) c.loop-i.found.items) (drop i fs) (drop (suc i) fs)
    c.in-Some.field.now c.in_ok-column.column.now (named_each c.args.columns.now [] fs)
    (field-drop fs i c.in-Some.field.now (sym c.in-Some.ensures.value)) (rw c.deref.ensures.value at c.in_ok-column.ensures)
    c.loop-i.invariant)

pub returns : goal.returns
returns c =
    let fs = fields_of c.args.header.now in
    let none : drop c.loop-i.i fs ≡ [] = drop_all c.loop-i.i fs (rw c.len-i-end.ensures at c.loop-i-test.false) in
    columns-all c.args.columns.now (map (λ c. c.now) c.loop-i.found.items) (drop c.loop-i.i fs) _ none c.loop-i.invariant
