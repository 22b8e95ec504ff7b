use Rattle.std.proofs.Common.{◌≡◌, List, Vec, Global, ℕ, length, map, ap, sym, subst, ◌∙◌, Err}
use Rattle.std.proofs.lemmas.List.{length-map}
use Rattle.std.proofs.lemmas.Result.{err_from_is_err_and}
use Rattle.wvalues.specs.declared.value.Value.{Value}
use Rattle.wvalues.specs.Meaning.{Meaning}
use Rattle.wplan.specs.Formula.{Formula}
use Rattle.wrows.specs.LaidRows.{laid}
use Rattle.wplan.specs.Plans.{key_plan, select_plan}
use Rattle.wrows.specs.Columns.{lists_of}
use Rattle.wrows.specs.Laid.{formulas_seen, row_seen, rows_seen}
use Rattle.wrows.specs.Outcomes.{Gives}
use Rattle.wrows.specs.Plain.{numbers_by}
use Rattle.wplanner.proofs.BesideFacts.{keys_fail, numbers_are}
use Rattle.wplanner.proofs.beside.key_numbers.Goals as goal

pub returns-in_err-cells : goal.returns-in_err-cells
returns-in_err-cells c =
    let p = err_from_is_err_and c.from_residual-in_err-cells.result c.from_residual-in_err-cells.ensures.1 in
    let s = select_plan c.args.select.now in
    let rows = rows_seen c.args.rows.now in
    let view : Vec Value Global → List (List Meaning) = λ cells. laid (length c.deref-3.result.now) (length c.args.rows.now) cells.items in
    let fault = c.in_err-cells.field-0.0 in
    let keys : formulas_seen c.deref-3.result.now ≡ map (λ k. k.value) s.keys = ap formulas_seen c.deref-3.ensures.value
    ∙ c.in_ok-keys.ensures.values ∙ ap (λ xs. map (λ k. k.value) (map key_plan xs)) c.deref.ensures.value in
    let P : List Formula → Type 0 = λ ts. Gives view (Err fault) (lists_of ts rows) in
    rw (p.1, p.2) (keys_fail s.keys view (λ (numbers : Vec ℕ Global). numbers.items) fault rows (subst P keys c.in_err-cells.ensures.gives))

pub returns : goal.returns
returns c =
    let s = select_plan c.args.select.now in
    let rows = rows_seen c.args.rows.now in
    let n = length c.args.rows.now in
    let cells = c.in_ok-cells.cells.items in
    let wide = length c.deref-3.result.now in
    let sorts = c.deref-5.result.now in
    let keys : formulas_seen c.deref-3.result.now ≡ map (λ k. k.value) s.keys = ap formulas_seen c.deref-3.ensures.value
    ∙ c.in_ok-keys.ensures.values ∙ ap (λ xs. map (λ k. k.value) (map key_plan xs)) c.deref.ensures.value in
    let orders : sorts ≡ map (λ k. k.order) s.keys = c.deref-5.ensures.value ∙ c.in_ok-order.ensures.orders
    ∙ ap (λ xs. map (λ k. k.order) (map key_plan xs)) c.deref-2.ensures.value in
    let long : length sorts ≡ wide = ap length c.deref-5.ensures.value ∙ c.in_ok-order.ensures.len
    ∙ ap length c.deref-2.ensures.value ∙ sym (ap length c.deref.ensures.value) ∙ sym c.in_ok-keys.ensures.len
    ∙ sym (ap length c.deref-3.ensures.value) in
    numbers_are s.keys rows (laid wide n cells) c.in_ok-numbers.numbers.items
    (ap (λ ts. lists_of ts rows) (sym keys) ∙ c.in_ok-cells.ensures.gives)
    (c.in_ok-numbers.ensures.order
    ∙ ap (λ xs. numbers_by sorts (laid (length sorts) n xs) n) c.deref-4.ensures.value
    ∙ ap (λ w. numbers_by sorts (laid w n cells) n) long
    ∙ ap (λ o. numbers_by o (laid wide n cells) n) orders
    ∙ ap (numbers_by (map (λ k. k.order) s.keys) (laid wide n cells)) (sym (length-map c.args.rows.now row_seen)))
