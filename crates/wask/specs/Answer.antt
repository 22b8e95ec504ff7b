-- What a text is answered on the rows of a view.
use Rattle.std.specs.Prelude.{◌≡◌, ℕ, Bool, true, false, List, Option, None, Some, Result, Ok, Err, ◌⊎◌}
use Rattle.wsegment.specs.Declaration.{Declaration}
use Rattle.wset.specs.Views.{View}
use Rattle.wquery.specs.QueryTree.{QueryTree}
use Rattle.wrules.specs.declared.rule.Rule.{Rule}
use Rattle.wrules.specs.Rules.{first_broken_rule}
use Rattle.wresolve.specs.Selecting.{resolved_query}
pub use Rattle.wplanner.specs.Texts.{plan_answer, printed}
use Rattle.wtable.specs.Tables.{rows_of_view}
use Rattle.wplanner.specs.declared.fault.AskFault.{AskFault}
use Rattle.wplanner.specs.declared.fault.AskFault.TheVariants as faults
use Rattle.wask.specs.Texts.{Reads, IsUnread}

-- by such a fault a text is refused before a row is looked at
abbrev pub comes_before_rows : AskFault → Bool
comes_before_rows faults.OutOfRange = false
comes_before_rows faults.TooManyRows = false
comes_before_rows faults.NoMemory = false
comes_before_rows _ = true

-- the first broken rule, else what is meant
abbrev pub unless_broken : Option Rule → Result (List ℕ) AskFault → Result (List ℕ) AskFault
unless_broken None meant = meant
unless_broken (Some rule) meant = Err (faults.Broken rule)

-- what a query is answered under a declaration, on the rows of a view
abbrev pub query_answer : Declaration → View → QueryTree → Result (List ℕ) AskFault
query_answer d v query = unless_broken (first_broken_rule d query) (plan_answer (resolved_query d query) (rows_of_view d v))

-- what a text is answered: why it spells no query, else what its query is answered
abbrev pub IsAnswer : Declaration → View → List ℕ → Result (List ℕ) AskFault → Type 0
IsAnswer d v text (Ok bytes) = (query : QueryTree) × Reads text query × (query_answer d v query ≡ Ok bytes)
IsAnswer d v text (Err faults.NoMemory) = ⊥
IsAnswer d v text (Err fault) = IsUnread text fault ⊎ ((query : QueryTree) × Reads text query × (query_answer d v query ≡ Err fault))
