-- Values that are put into cells.
use Rattle.std.specs.Prelude.{ℕ, List, [], ◌∷◌, set}
use Rattle.wvalues.specs.Meaning.{Meaning}

-- cells after values were put into them, one after another, each at the place that stands beside it
abbrev pub put_all : List Meaning → List ℕ → List Meaning → List Meaning
put_all cells [] values = cells
put_all cells (place ∷ places) [] = cells
put_all cells (place ∷ places) (value ∷ values) = put_all (set cells place value) places values
