use Rattle.std.proofs.Common.{[], List, Vec, Global, ℕ, map, ap, ◌∙◌}
use Rattle.std.proofs.lemmas.Result.{err_from_is_err_and}
use Rattle.wplan.specs.Plans.{select_plan}
use Rattle.wprinted.specs.Printing.{table_text, values_at}
use Rattle.wrows.specs.Laid.{rows_seen}
use Rattle.wrows.specs.Picked.{row_beside}
use Rattle.wrows.specs.Plain.{cut}
use Rattle.wplanner.proofs.BesideFacts.{sorted_fails, sorted_is}
use Rattle.wplanner.proofs.beside.sorted_text.Goals as goal

pub returns-in_err-numbers : goal.returns-in_err-numbers
returns-in_err-numbers c =
    let p = err_from_is_err_and c.from_residual.result c.from_residual.ensures.1 in
    let view : Vec ℕ Global → List ℕ = λ numbers. numbers.items in
    rw (p.1, p.2)
    (sorted_fails (select_plan c.args.placed.now.select.now) c.args.placed.now.places.now c.requires.reads view view
    c.in_err-numbers.field-0.0 (rows_seen c.args.rows.now) c.requires.sound c.requires.unwindowed c.in_err-numbers.ensures)

pub returns : goal.returns
returns c =
    let select = c.args.placed.now.select.now in
    let s = select_plan select in
    let ps = c.args.placed.now.places.now in
    let rows = rows_seen c.args.rows.now in
    sorted_is s ps c.requires.reads rows c.in_ok-numbers.numbers.items c.in_ok-bytes.bytes.items c.requires.sound
    c.requires.unwindowed c.in_ok-numbers.ensures
    (c.in_ok-bytes.ensures ∙ ap (λ l. table_text (map (λ o. o.name) s.items)
    (map (values_at ps) (map (row_beside rows []) (cut select.offset select.limit l)))) c.deref.ensures.value)
