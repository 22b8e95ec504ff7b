use Rattle.std.proofs.Common.{◌≡◌, ℕ, List, Vec, Global, Ok, map, sym, ap, ◌∙◌}
use Rattle.std.specs.Borrow.{Bor}
use Rattle.wvalues.specs.declared.value.Value.{Value}
use Rattle.wplan.specs.Formula.{At}
use Rattle.wrows.specs.Columns.{lists_of}
use Rattle.wrows.specs.Laid.{formulas_seen, rows_seen}
use Rattle.wcalls.specs.ListedColumns.{values_at}
use Rattle.wcalls.proofs.PlainFacts.{plain_lists}
use Rattle.wcalls.proofs.row_lists.row_lists.Goals as goal

pub returns-in-Some-clause-gives : goal.returns-in-Some-clause-gives
returns-in-Some-clause-gives c =
    let ps = c.in-Some.places.items in
    let rows = rows_seen c.args.rows.now in
    let answer : formulas_seen c.args.exprs.now ≡ map At ps = rw c.in-Some.is at c.in_ok-plain.ensures.places in
    ap (λ ts. lists_of ts rows) answer ∙ plain_lists ps rows
    ∙ ap (λ (p : Vec ℕ Global). Ok (values_at p.items rows)) (sym c.new.ensures.places)
    ∙ ap (λ (r : Bor (List (Bor (List Value)))). Ok (values_at c.new.result.places.items (rows_seen r.now))) (sym c.new.ensures.rows)
