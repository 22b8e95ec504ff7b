-- A SELECT whose items are plain columns of its rows, or what its calls answer for them, and the text of rows under the names of its items.
use Rattle.std.specs.Prelude.{◌≡◌, ◌==◌, ◌&&◌, ℕ, Bool, not, List, length, map, None, Result, Ok}
use Rattle.std.specs.List.{list_all}
use Rattle.std.specs.Option.{is_some}
use Rattle.wplan.specs.Formula.{At}
use Rattle.wplan.specs.declared.expr.Expr.{out-Expr}
use Rattle.wplan.specs.declared.resolved.Selection.{Selection}
use Rattle.wplan.specs.Plans.{SelectPlan}
use Rattle.wprinted.specs.Printing.{table_text}
use Rattle.wrows.specs.declared.fault.AnswerFault.{AnswerFault}
use Rattle.wrows.specs.Columns.{Row}
use Rattle.wrows.specs.Outcomes.{◌>>=◌}
use Rattle.wrows.specs.Plain.{is_selected}
use Rattle.wrows.specs.PlainColumns.{plain_place}

-- its items stand at some places of its rows, with what the calls answer behind their cells, and it groups no rows
pub record ReadsPlaces (s : SelectPlan) (places : List ℕ) : Type 0 where
  pub plain : map (λ o. o.value) s.items ≡ map At places
  pub ungrouped : s.grouping ≡ None

-- so few rows of an order are asked for, without a window, that they are selected
abbrev pub selects_few : Selection → Bool
selects_few s = (length s.windows.items == 0) && (not (length s.keys.items == 0) && is_selected s.offset s.limit)

-- the rows of a SELECT are printed where they lie: it groups none, its items are plain columns or the answers of calls, and it does not
-- select few rows
abbrev pub is_lent : Selection → Bool
is_lent s = not (is_some s.grouping) && (not (selects_few s) && list_all (λ o. is_some (plain_place (out-Expr o.value))) s.items.items)

-- the text of the rows that a SELECT answers
abbrev pub text_in : SelectPlan → Result (List Row) AnswerFault → Result (List ℕ) AnswerFault
text_in s answered = answered >>= λ rows. Ok (table_text (map (λ o. o.name) s.items) rows)
