-- Rows by their groups.
use Rattle.std.specs.Prelude.{ℕ, ◌==◌, List, filter, length, slice_index_or}
use Rattle.wframe.specs.Places.{places}

-- the rows of a group, where each row has the number of its group
abbrev pub rows_of_group : List ℕ → ℕ → List ℕ
rows_of_group groups group = filter (λ row. slice_index_or groups row 0 == group) (places (length groups))
