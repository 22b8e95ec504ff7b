-- The calls of a SELECT, window by window.
use Rattle.std.specs.Prelude.{ℕ, ◌+◌, ◌==◌, List, [], ◌∷◌, map, filter, length, take, Option, Some, None, Result, Ok, slice_index_or}
use Rattle.std.specs.List.{slice_get}
use Rattle.wvalues.specs.Meaning.{Meaning}
use Rattle.wframe.specs.Places.{places}
use Rattle.wplan.specs.Plans.{CallPlan, FunctionPlan, WindowPlan}
use Rattle.wrows.specs.declared.fault.AnswerFault.{AnswerFault}
use Rattle.wrows.specs.Outcomes.{◌>>=◌}
use Rattle.wrows.specs.Columns.{Row}
use Rattle.wcalls.specs.Frames.{frame_of}
use Rattle.wcalls.specs.Functions.{window_columns}
use Rattle.wcalls.specs.Joins.{most_of_functions}

-- the functions of the calls over the window of a number, in the order of the calls
abbrev pub functions_over : List CallPlan → ℕ → List FunctionPlan
functions_over calls w = map (λ c. c.function) (filter (λ c. c.window == w) calls)

-- the columns of the functions over each window, of which the first has this number
abbrev pub columns_from : List Row → List CallPlan → ℕ → List WindowPlan → Result (List (List (List Meaning))) AnswerFault
columns_from rows calls w [] = Ok []
columns_from rows calls w (window ∷ windows) = do
  columns ← window_columns window (functions_over calls w) rows
  others ← columns_from rows calls (w + 1) windows
  Ok (columns ∷ others)

-- the most joins, over so many rows, of the functions over each window, of which the first has this number
abbrev pub most_from : ℕ → List CallPlan → ℕ → List WindowPlan → ℕ
most_from rows calls w [] = 0
most_from rows calls w (window ∷ windows) = most_of_functions (frame_of window.frame).exclusion rows
    (functions_over calls w) + most_from rows calls (w + 1) windows

-- how many of the first calls are over the window of a number
abbrev pub calls_before : List CallPlan → ℕ → ℕ → ℕ
calls_before calls w c = length (filter (λ d. d.window == w) (take c calls))

-- the column of the call of a number, if there is one, among those of its window
abbrev pub column_found : List (List (List Meaning)) → List CallPlan → ℕ → Option CallPlan → List Meaning
column_found answers calls c None = []
column_found answers calls c (Some call) = slice_index_or (slice_index_or answers call.window []) (calls_before calls call.window c) []

-- the columns in the order of the calls
abbrev pub columns_of_calls : List (List (List Meaning)) → List CallPlan → List (List Meaning)
columns_of_calls answers calls = map (λ c. column_found answers calls c (slice_get calls c)) (places (length calls))
