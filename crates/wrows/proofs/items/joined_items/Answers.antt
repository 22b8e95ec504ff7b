use Rattle.std.proofs.Common.{List, Ok, Result, subst, sym, ap, ◌∙◌}
use Rattle.std.proofs.lemmas.List.{length-map}
use Rattle.wrows.specs.declared.fault.AnswerFault.{AnswerFault}
use Rattle.wrows.specs.Outcomes.{Gives}
use Rattle.wrows.specs.Columns.{Row, beside}
use Rattle.wrows.specs.Laid.{formula_seen, formulas_seen, rows_in, rows_seen}
use Rattle.wrows.proofs.AllFacts.{as_they_stand}
use Rattle.wrows.proofs.PresortedFacts.{asked_is}
use Rattle.wrows.proofs.items.joined_items.Goals as goal

pub returns-then-asks_for_all-clause-rows : goal.returns-then-asks_for_all-clause-rows
returns-then-asks_for_all-clause-rows c =
    let P : Result (List Row) AnswerFault → Type 0 = λ meant. Gives rows_in c.all_items.result meant in
    subst P (as_they_stand (formulas_seen c.args.items.now) (formulas_seen c.args.key_exprs.now) c.args.keys.now
    c.args.asked.offset c.args.asked.limit (beside (rows_seen c.args.rows.now) (rows_seen c.args.columns.now))
    (length-map c.args.key_exprs.now formula_seen ∙ c.requires) (c.asks_for_all.ensures.keys c.if-asks_for_all.true)
    (c.asks_for_all.ensures.offset c.if-asks_for_all.true) (c.asks_for_all.ensures.limit c.if-asks_for_all.true))
    c.all_items.ensures.rows

pub returns-clause-rows : goal.returns-clause-rows
returns-clause-rows c =
    let P : Result (List Row) AnswerFault → Type 0 = λ meant. Gives rows_in c.items_at.result meant in
    subst P (asked_is (formulas_seen c.args.items.now) (formulas_seen c.args.key_exprs.now) c.args.keys.now c.args.asked.offset
    c.args.asked.limit (beside (rows_seen c.args.rows.now) (rows_seen c.args.columns.now)) c.deref.result.now
    (c.in_ok-numbers.ensures.gives ∙ ap Ok (sym c.deref.ensures.value)))
    c.items_at.ensures.rows
