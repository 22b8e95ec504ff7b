-- What a query answers on rows (<query specification>, <order by clause>). The order of the lines is the order in which faults are found.
use Rattle.std.specs.Prelude.{ℕ, List, [], ◌∷◌, map, length, Option, Some, None, Result, Ok}
use Rattle.std.specs.List.{slice_get}
use Rattle.wvalues.specs.Meaning.{Meaning}
use Rattle.wplan.specs.Plans.{GroupingPlan, FunctionPlan, CallPlan, SelectPlan}
use Rattle.wrows.specs.declared.fault.AnswerFault.{AnswerFault}
use Rattle.wrows.specs.Outcomes.{◌>>=◌, each}
use Rattle.wrows.specs.Columns.{Row, beside}
use Rattle.wrows.specs.Plain.{kept_of}
use Rattle.wgroup.specs.Grouping.{group_rows}
use Rattle.wcalls.specs.Windows.{Windowed, windowed}
use Rattle.wcalls.specs.Functions.{function_column}
use Rattle.wplanner.specs.Parts.{TableParts}
pub use Rattle.wrows.specs.Plain.{items_of}

-- the group rows of a grouped query, else the kept rows themselves
abbrev pub left_rows : Option GroupingPlan → List Row → Result (List Row) AnswerFault
left_rows None kept = Ok kept
left_rows (Some g) kept = group_rows g kept

-- the column of a function over a window, if there is one
abbrev pub column_in : List Row → FunctionPlan → Option Windowed → Result (List Meaning) AnswerFault
column_in rows function None = Ok []
column_in rows function (Some w) = function_column rows w function

-- what a call answers for each row
abbrev pub call_column : List Row → List Windowed → CallPlan → Result (List Meaning) AnswerFault
call_column rows windows c = column_in rows c.function (slice_get windows c.window)

-- what the calls answer for each row, a column for each
abbrev pub call_columns : SelectPlan → List Row → Result (List (List Meaning)) AnswerFault
call_columns s rows = each (windowed rows) s.windows >>= λ windows. each (call_column rows windows) s.calls

-- the items of the rows that are left, with what the calls answer behind their cells
abbrev pub left_items : SelectPlan → List Row → Result (List Row) AnswerFault
left_items s left = do
  columns ← call_columns s left
  items_of s (beside left columns)

-- the items of the groups of kept rows
abbrev pub grouped_items : SelectPlan → GroupingPlan → List Row → Result (List Row) AnswerFault
grouped_items s g kept = group_rows g kept >>= left_items s

-- the items of kept rows, or of their groups
abbrev pub kept_items : SelectPlan → List Row → Result (List Row) AnswerFault
kept_items s kept = left_rows s.grouping kept >>= left_items s

-- the rows that a SELECT answers on numbered rows, or the first fault
abbrev pub select_of : SelectPlan → List Row → Result (List Row) AnswerFault
select_of s rows = do
  kept ← kept_of s.condition rows
  left ← left_rows s.grouping kept
  left_items s left

-- a query is its SELECTs, of which the innermost stands first: each is over the rows that the one before answers, numbered by place
abbrev pub answer_of : List SelectPlan → List Row → Result (List Row) AnswerFault
answer_of [] rows = Ok rows
answer_of (s ∷ ss) rows = select_of s rows >>= answer_of ss

-- the output names are those of the outermost SELECT
abbrev pub names_of : List SelectPlan → List (List ℕ)
names_of [] = []
names_of (s ∷ []) = map (λ o. o.name) s.items
names_of (s ∷ t ∷ ss) = names_of (t ∷ ss)

-- how many values its rows have, where those of its source have so many
abbrev pub width_of : List SelectPlan → ℕ → ℕ
width_of [] width = width
width_of (s ∷ ss) width = width_of ss (length s.items)

-- the table of a query's answer
abbrev pub table_answer : List SelectPlan → List Row → Result TableParts AnswerFault
table_answer plans rows = answer_of plans rows >>= λ answered. Ok (record { names = names_of plans; rows = answered })
