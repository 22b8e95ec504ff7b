use Rattle.std.proofs.Common.{◌≡◌, ◌∙◌, List, Ok, Vec, Global, ℕ, map, ap, sym}
use Rattle.std.proofs.lemmas.Result.{err_from_is_err_and}
use Rattle.wcolumns.specs.Columns.{columns_in, columns_seen}
use Rattle.wcolumns.specs.declared.column.Column.{Column}
use Rattle.wplan.specs.Plans.{call_plan, select_plan}
use Rattle.wrows.specs.Columns.{Row, beside}
use Rattle.wrows.specs.Laid.{rows_seen}
use Rattle.wplanner.specs.Answers.{items_of}
use Rattle.wplanner.specs.ByWindow.{columns_from, columns_of_calls}
use Rattle.wplanner.specs.Lent.{text_in}
use Rattle.wplanner.proofs.BesideFacts.{called_fails, called_gives}
use Rattle.wplanner.proofs.beside.called_text.Goals as goal

pub returns-in_err-answers : goal.returns-in_err-answers
returns-in_err-answers c =
    let p = err_from_is_err_and c.from_residual.result c.from_residual.ensures.1 in
    let view : Vec (Vec Column Global) Global → List (List Row) = λ answers. map columns_in answers.items in
    rw (p.1, p.2)
    (called_fails (select_plan c.args.placed.now.select.now) c.args.placed.now.places.now c.requires.reads view
    (λ (bytes : Vec ℕ Global). bytes.items) c.in_err-answers.field-0.0 (rows_seen c.args.rows.now) c.requires.sound
    (rw (c.deref.ensures.value, c.deref-2.ensures.value) at c.in_err-answers.ensures.answers))

pub returns : goal.returns
returns c =
    let s = select_plan c.args.placed.now.select.now in
    let rows = rows_seen c.args.rows.now in
    let answers : List (List Row) = map columns_in c.in_ok-answers.answers.items in
    let same : beside rows (columns_of_calls answers s.calls) ≡ beside rows (columns_seen c.deref-5.result.now) =
    ap (λ l. beside rows (columns_of_calls answers (map call_plan l))) (sym c.deref-4.ensures.value)
    ∙ ap (λ l. beside rows (columns_of_calls (map columns_in l) (map call_plan c.deref-4.result.now))) (sym c.deref-3.ensures.value)
    ∙ ap (beside rows) (sym c.in_ok-columns.ensures) ∙ ap (λ l. beside rows (columns_seen l)) (sym c.deref-5.ensures.value) in
    let answered : columns_from rows s.calls 0 s.windows ≡ Ok answers =
    rw (c.deref.ensures.value, c.deref-2.ensures.value) at c.in_ok-answers.ensures.answers in
    called_gives s c.args.placed.now.places.now c.requires.reads rows answers c.in_ok-bytes.bytes.items c.requires.sound answered
    (ap (λ l. text_in s (items_of s l)) same ∙ c.in_ok-bytes.ensures)
