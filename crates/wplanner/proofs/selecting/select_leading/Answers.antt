use Rattle.std.proofs.Common.{Err, subst, sym, ap, ◌∙◌}
use Rattle.std.specs.Prelude.{IfSome}
use Rattle.std.proofs.lemmas.Result.{err_from_is_err_and}
use Rattle.wplan.specs.Plans.{select_plan}
use Rattle.wrows.specs.Laid.{rows_in, rows_seen}
use Rattle.wrows.specs.Outcomes.{Gives}
use Rattle.wtable.specs.Leading.{AnswerForAll}
use Rattle.wtable.specs.Tables.{rows_of_set}
use Rattle.wplanner.specs.Answers.{left_items}
use Rattle.wplanner.proofs.LeadingFacts.{leading_answers}
use Rattle.wplanner.proofs.selecting.select_leading.Goals as goal

pub returns-in_err-cells-in-Some-clause-rows : goal.returns-in_err-cells-in-Some-clause-rows
returns-in_err-cells-in-Some-clause-rows c =
    let p = err_from_is_err_and c.from_residual-in_err-cells-in-Some.result c.from_residual-in_err-cells-in-Some.ensures.1 in
    let plan = select_plan c.args.select.now in
    let all = rows_of_set c.args.set.now in
    let rows = c.in-Some.rows.items in
    let answer : AnswerForAll plan all (rows_seen rows) =
    subst (λ found. IfSome found (λ rows. AnswerForAll plan all (rows_seen rows.items))) c.in-Some.is c.in_ok-found.ensures.answer in
    rw (p.1, p.2) (subst (Gives rows_in (Err c.in_err-cells-in-Some.field-0.0))
    (sym (leading_answers plan all (rows_seen rows) answer c.requires c.in_ok-kept_count-in-Some.ensures.kept
    ∙ ap (λ l. left_items plan (rows_seen l)) (sym c.deref.ensures.value))) c.in_err-cells-in-Some.ensures.rows)

pub returns-in_ok-cells-in-Some-clause-rows : goal.returns-in_ok-cells-in-Some-clause-rows
returns-in_ok-cells-in-Some-clause-rows c =
    let plan = select_plan c.args.select.now in
    let all = rows_of_set c.args.set.now in
    let rows = c.in-Some.rows.items in
    let answer : AnswerForAll plan all (rows_seen rows) =
    subst (λ found. IfSome found (λ rows. AnswerForAll plan all (rows_seen rows.items))) c.in-Some.is c.in_ok-found.ensures.answer in
    leading_answers plan all (rows_seen rows) answer c.requires c.in_ok-kept_count-in-Some.ensures.kept
    ∙ ap (λ l. left_items plan (rows_seen l)) (sym c.deref.ensures.value) ∙ c.in_ok-cells-in-Some.ensures.rows
