-- Values at places of rows.
use Rattle.std.specs.Prelude.{ℕ, List, map}
use Rattle.wvalues.specs.Meaning.{Meaning}
use Rattle.wrows.specs.Columns.{Row, value_at}

-- the values at some places of each row
abbrev pub values_at : List ℕ → List Row → List (List Meaning)
values_at places rows = map (λ row. map (value_at row) places) rows
