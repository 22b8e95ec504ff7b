-- The first rows of the table as they stand, up to the last that is asked for.
use Rattle.std.specs.Prelude.{ℕ, ◌+◌, ◌-◌, ◌==◌, if◌then◌else◌, List, length, take, Option, None, Result, Ok}
use Rattle.wrows.specs.declared.fault.AnswerFault.{AnswerFault}
use Rattle.wrows.specs.Columns.{Row}
use Rattle.wrows.specs.Outcomes.{◌>>=◌}
use Rattle.wrows.specs.Plain.{at_most_limit, kept_of}

-- how many of the first of so many rows are needed: those that are left out first and those that are asked for, none where none is
-- asked for
abbrev pub front_count : ℕ → Option ℕ → ℕ → ℕ
front_count offset limit total = if at_most_limit limit (total - offset) == 0 then 0 else offset + at_most_limit limit (total - offset)

abbrev pub front_of : {X : Type 0} → ℕ → Option ℕ → List X → List X
front_of offset limit rows = take (front_count offset limit (length rows)) rows

-- the first rows of all, which are not too many
abbrev pub standing_of : ℕ → Option ℕ → List Row → Result (List Row) AnswerFault
standing_of offset limit rows = kept_of None rows >>= λ all. Ok (front_of offset limit all)
