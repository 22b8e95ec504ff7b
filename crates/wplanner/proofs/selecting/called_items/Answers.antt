use Rattle.std.proofs.Common.{◌≡◌, Ok, List, Result, Vec, Global, map, subst, sym, ap, ◌∙◌}
use Rattle.std.proofs.lemmas.Result.{err_from_is_err_and}
use Rattle.wcolumns.specs.Columns.{columns_in, columns_seen}
use Rattle.wcolumns.specs.declared.column.Column.{Column}
use Rattle.wplan.specs.Plans.{call_plan, select_plan}
use Rattle.wrows.specs.declared.fault.AnswerFault.{AnswerFault}
use Rattle.wrows.specs.Outcomes.{Gives, ◌>>=◌}
use Rattle.wrows.specs.Columns.{Row, beside}
use Rattle.wrows.specs.Laid.{rows_in, rows_seen}
use Rattle.wrows.proofs.RowFacts.{then_refused}
use Rattle.wcalls.specs.ListedValues.{listed_seen}
use Rattle.wplanner.specs.Answers.{items_of}
use Rattle.wplanner.specs.ByWindow.{columns_from, columns_of_calls}
use Rattle.wplanner.proofs.SelectFacts.{called_is}
use Rattle.wplanner.proofs.selecting.called_items.Goals as goal

pub returns-in_err-answers-clause-rows : goal.returns-in_err-answers-clause-rows
returns-in_err-answers-clause-rows c =
    let p = err_from_is_err_and c.from_residual.result c.from_residual.ensures.1 in
    let s = select_plan c.args.select.now in
    let view : Vec (Vec Column Global) Global → List (List Row) = λ answers. map columns_in answers.items in
    let P : Result (List Row) AnswerFault → Type 0 = λ meant. Gives rows_in c.from_residual.result meant in
    subst P (sym (called_is s (rows_seen c.args.rows.now) c.requires.sound))
    (rw (p.1, p.2) (then_refused view rows_in c.in_err-answers.field-0.0 _ _
    (rw (c.deref.ensures.value, c.deref-2.ensures.value) at c.in_err-answers.ensures.answers)))

pub returns-clause-rows : goal.returns-clause-rows
returns-clause-rows c =
    let s = select_plan c.args.select.now in
    let rows = rows_seen c.args.rows.now in
    let answers : List (List Row) = map columns_in c.in_ok-answers.answers.items in
    let P : Result (List Row) AnswerFault → Type 0 = λ meant. Gives rows_in c.items_beside_by.result meant in
    let same : beside rows (rows_seen c.deref-7.result.now) ≡ beside rows (columns_of_calls answers s.calls) =
    ap (λ l. beside rows (rows_seen l)) c.deref-7.ensures.value ∙ ap (beside rows) c.in_ok-lists.ensures
    ∙ ap (λ l. beside rows (map listed_seen l)) c.deref-6.ensures.value ∙ ap (beside rows) c.in_ok-listed.ensures.seen
    ∙ ap (λ l. beside rows (columns_seen l)) c.deref-5.ensures.value ∙ ap (beside rows) c.in_ok-columns.ensures
    ∙ ap (λ l. beside rows (columns_of_calls (map columns_in l) (map call_plan c.deref-4.result.now))) c.deref-3.ensures.value
    ∙ ap (λ l. beside rows (columns_of_calls answers (map call_plan l))) c.deref-4.ensures.value in
    let answered : columns_from rows s.calls 0 s.windows ≡ Ok answers =
    rw (c.deref.ensures.value, c.deref-2.ensures.value) at c.in_ok-answers.ensures.answers in
    subst P (ap (items_of s) same ∙ sym (ap
    (λ r. r >>= λ answers. items_of s (beside rows (columns_of_calls answers s.calls))) answered)
    ∙ sym (called_is s rows c.requires.sound)) c.items_beside_by.ensures.rows
