use Rattle.std.proofs.Common.{List, Result, ap, subst, sym, ◌∙◌}
use Rattle.std.proofs.lemmas.List.{length-map}
use Rattle.wplan.specs.Plans.{select_plan, window_plan}
use Rattle.wrows.specs.declared.fault.AnswerFault.{AnswerFault}
use Rattle.wrows.specs.Outcomes.{Gives}
use Rattle.wrows.specs.Columns.{Row}
use Rattle.wrows.specs.Laid.{rows_in, rows_seen}
use Rattle.wplanner.specs.Answers.{items_of}
use Rattle.wplanner.proofs.PlanFacts.{beside_nothing, no_calls}
use Rattle.wplanner.proofs.SelectFacts.{none_there}
use Rattle.wplanner.proofs.selecting.left_items.Goals as goal

pub returns-then-is_empty-clause-rows : goal.returns-then-is_empty-clause-rows
returns-then-is_empty-clause-rows c =
    let windows = c.args.select.now.windows.items in
    let P : Result (List Row) AnswerFault → Type 0 = λ meant. Gives rows_in c.items_beside_by.result meant in
    subst P (ap (items_of (select_plan c.args.select.now)) (beside_nothing (rows_seen c.args.rows.now))
    ∙ sym (no_calls (select_plan c.args.select.now) (rows_seen c.args.rows.now) (length-map windows window_plan
    ∙ none_there c.args.select.now.windows.len windows c.args.select.now.windows.ok.0 c.if-is_empty.ensures)
    c.requires.sound)) c.items_beside_by.ensures.rows
