use Rattle.std.proofs.Common.{◌<◌, ℕ, List, Result, length, subst, ◌∙◌}
use Rattle.std.proofs.lemmas.List.Elements.{All-same}
use Rattle.wrows.specs.declared.fault.AnswerFault.{AnswerFault}
use Rattle.wrows.specs.Columns.{Row, beside}
use Rattle.wrows.specs.Laid.{formulas_seen, rows_in, rows_seen}
use Rattle.wrows.specs.Outcomes.{Gives}
use Rattle.wrows.specs.Picked.{items_at}
use Rattle.wrows.specs.Plain.{cut}
use Rattle.wrows.proofs.PickFacts.{cut_below}
use Rattle.wrows.proofs.PresortedFacts.{items_are}
use Rattle.wrows.proofs.presorted.presorted_items.Goals as goal

pub items_at-requires : goal.items_at-requires
items_at-requires c =
    let n = length c.args.rows.now in
    All-same (λ i. i < n) c.deref.result.now (cut c.args.asked.offset c.args.asked.limit c.args.numbers.items)
    (c.deref.ensures.value ∙ c.in_ok-taken.ensures)
    (cut_below n c.args.asked.offset c.args.asked.limit c.args.numbers.items c.requires)

pub returns-clause-items : goal.returns-clause-items
returns-clause-items c =
    let P : List ℕ → Type 0 = λ numbers. Gives rows_in c.items_at.result (items_at (formulas_seen c.args.items.now) numbers
    (beside (rows_seen c.args.rows.now) (rows_seen c.args.columns.now))) in
    subst P (c.deref.ensures.value ∙ c.in_ok-taken.ensures) c.items_at.ensures.rows

pub returns-clause-rows : goal.returns-clause-rows
returns-clause-rows c = λ keys order listed.
    let P : Result (List Row) AnswerFault → Type 0 = λ meant. Gives rows_in c.items_at.result meant in
    subst P (items_are (formulas_seen c.args.items.now) keys order c.args.asked.offset c.args.asked.limit
    (beside (rows_seen c.args.rows.now) (rows_seen c.args.columns.now)) c.args.numbers.items c.deref.result.now listed
    (c.deref.ensures.value ∙ c.in_ok-taken.ensures)) c.items_at.ensures.rows
