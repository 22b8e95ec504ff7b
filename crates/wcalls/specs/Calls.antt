-- Answers for each row of a window, by number.
use Rattle.std.specs.Prelude.{ℕ, pos, List, map, length, Option, Result, Ok, option_map, unwrap_or}
use Rattle.wvalues.specs.Meaning.{Meaning, Int}
use Rattle.wframe.specs.Places.{places}
use Rattle.wplan.specs.Formula.{Formula}
use Rattle.wrows.specs.declared.fault.AnswerFault.{AnswerFault}
use Rattle.wrows.specs.Outcomes.{◌>>=◌}
use Rattle.wrows.specs.Columns.{Row, column_of, value_at}
use Rattle.wcalls.specs.Windows.{Windowed, row_at}

-- an answer for each row, by number
abbrev pub each_row : {X : Type 0} → Windowed → (ℕ → X) → List X
each_row w answer = map answer (places (length w.values))

-- a count for each row
abbrev pub numbers : Windowed → (ℕ → ℕ) → Result (List Meaning) AnswerFault
numbers w count = Ok (each_row w (λ i. Int (pos (count i))))

-- for each row the value at the place that is read for it in its partition, or else the default
abbrev pub values_read : Windowed → Formula → List Row → Meaning → (ℕ → Option ℕ) → Result (List Meaning) AnswerFault
values_read w t rows default answer = column_of t rows >>= λ values.
    Ok (each_row w (λ i. unwrap_or (option_map (λ place. value_at values (row_at w i place)) (answer i)) default))
