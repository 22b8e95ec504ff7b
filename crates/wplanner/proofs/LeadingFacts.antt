-- A SELECT that asks for the first few of the table's rows in an order by columns.
use Rattle.std.proofs.Common.{◌≡◌, List, None, true, Result, Ok, ap, sym, ◌∙◌}
use Rattle.wplan.specs.Plans.{SelectPlan}
use Rattle.wrows.specs.declared.fault.AnswerFault.{AnswerFault}
use Rattle.wrows.specs.Columns.{Row}
use Rattle.wrows.specs.Outcomes.{◌>>=◌}
use Rattle.wrows.specs.Plain.{kept_of}
use Rattle.wtable.specs.Leading.{AnswerForAll}
use Rattle.wplanner.specs.Answers.{left_items, left_rows, select_of}
use Rattle.wplanner.specs.Sound.{is_sound_select}
use Rattle.wplanner.proofs.PlanFacts.{no_calls}

module _ (s : SelectPlan) (all rows : List Row) (answer : AnswerForAll s all rows) where
  abbrev after : List Row → Result (List Row) AnswerFault
  after = λ kept. left_rows s.grouping kept >>= λ left. left_items s left

  -- the rows that were found stand for all
  pub leading_answers : is_sound_select s ≡ true → kept_of None all ≡ Ok all → select_of s all ≡ left_items s rows
  leading_answers sound e =
      ap (λ c. kept_of c all >>= after) answer.condition ∙ ap (λ r. r >>= after) e
      ∙ ap (λ o. left_rows o all >>= λ left. left_items s left) answer.grouping ∙ no_calls s all answer.windows sound
      ∙ sym answer.items ∙ sym (no_calls s rows answer.windows sound)
