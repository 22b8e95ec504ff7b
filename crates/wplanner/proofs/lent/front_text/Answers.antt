use Rattle.std.proofs.Common.{List, [], Vec, Bor, Global, ℕ, map, ap, ◌∙◌}
use Rattle.std.proofs.lemmas.Result.{err_from_is_err_and}
use Rattle.wvalues.specs.declared.value.Value.{Value}
use Rattle.wplan.specs.Plans.{select_plan}
use Rattle.wprinted.specs.Printing.{table_text, values_at}
use Rattle.wrows.specs.Columns.{beside}
use Rattle.wrows.specs.Laid.{rows_seen}
use Rattle.wrows.specs.Plain.{cut}
use Rattle.wtable.specs.Tables.{rows_of_set}
use Rattle.wplanner.proofs.FrontFacts.{front_fails, front_is}
use Rattle.wplanner.proofs.lent.front_text.Goals as goal

pub returns-in_err-rows : goal.returns-in_err-rows
returns-in_err-rows c =
    let p = err_from_is_err_and c.from_residual.result c.from_residual.ensures.1 in
    rw (p.1, p.2) (front_fails (select_plan c.args.placed.now.select.now) c.args.placed.now.places.now c.requires.reads c.requires.sound
    c.requires.all c.requires.unwindowed c.requires.unordered (rows_of_set c.args.set.now)
    (λ (rows : Vec (Bor (List Value)) Global). rows_seen rows.items) (λ (bytes : Vec ℕ Global). bytes.items) c.in_err-rows.field-0.0
    c.in_err-rows.ensures)

pub returns : goal.returns
returns c =
    let select = c.args.placed.now.select.now in
    let s = select_plan select in
    let ps = c.args.placed.now.places.now in
    front_is s ps c.requires.reads c.requires.sound c.requires.all c.requires.unwindowed c.requires.unordered
    (rows_of_set c.args.set.now) (rows_seen c.in_ok-rows.rows.items) c.in_ok-bytes.bytes.items c.in_ok-rows.ensures
    (c.in_ok-bytes.ensures ∙ ap (λ l. table_text (map (λ o. o.name) s.items)
    (map (values_at ps) (cut select.offset select.limit (beside (rows_seen l) [])))) c.deref.ensures.value)
