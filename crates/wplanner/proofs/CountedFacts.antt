-- A SELECT that counts the table's rows and asks nothing else of them.
use Rattle.std.proofs.Common.{◌≡◌, List, Some, None, Result, Ok, Err, ap, ◌∙◌}
use Rattle.wplan.specs.Plans.{GroupingPlan, SelectPlan}
use Rattle.wrows.specs.declared.fault.AnswerFault.{AnswerFault}
use Rattle.wrows.specs.declared.fault.AnswerFault.TheVariants.{OutOfRange, TooManyRows, NoMemory}
use Rattle.wrows.specs.Columns.{Row}
use Rattle.wrows.specs.Outcomes.{◌>>=◌, Gives}
use Rattle.wrows.specs.Plain.{kept_of}
use Rattle.wgroup.specs.Grouping.{group_rows}
use Rattle.wplanner.specs.Answers.{left_items, left_rows, select_of}

given : {X Y : Type 0} (view : X → Y) (fault : AnswerFault) (meant : Result Y AnswerFault) → meant ≡ Err fault
    → Gives view (Err fault) meant
given view OutOfRange meant e = e
given view TooManyRows meant e = e
given view NoMemory meant e = tt

module _ (s : SelectPlan) (g : GroupingPlan) (rows : List Row) (all : s.condition ≡ None) (own : s.grouping ≡ Some g) where
  abbrev after : List Row → Result (List Row) AnswerFault
  after = λ kept. left_rows s.grouping kept >>= λ left. left_items s left

  -- where there are too many rows
  pub select_refused : {X : Type 0} (view : X → List Row) (fault : AnswerFault) → kept_of None rows ≡ Err fault
      → Gives view (Err fault) (select_of s rows)
  select_refused view fault e = given view fault (select_of s rows) (ap (λ c. kept_of c rows >>= after) all ∙ ap (λ r. r >>= after) e)

  -- all rows are kept and grouped
  pub select_counted : kept_of None rows ≡ Ok rows → select_of s rows ≡ (group_rows g rows >>= λ left. left_items s left)
  select_counted e = ap (λ c. kept_of c rows >>= after) all ∙ ap (λ r. r >>= after) e
      ∙ ap (λ o. left_rows o rows >>= λ left. left_items s left) own
