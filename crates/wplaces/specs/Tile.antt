-- Rows cut into tiles of nearly one size: <ntile function>.
use Rattle.std.specs.Prelude.{ℕ, ◌+◌, ◌-◌, ◌/◌, ◌%◌, List, [], ◌∷◌, ◌++◌, replicate}
use Rattle.std.specs.List.{position_or_len}
use Rattle.wframe.specs.declared.frame.Span.{Span}
use Rattle.wframe.specs.Places.{is_in_span}

-- how many rows each tile has: the division shares them out, and what it leaves over goes to the first tiles, a row to each
abbrev pub tile_sizes : ℕ → ℕ → List ℕ
tile_sizes rows tiles = replicate (rows % tiles) (rows / tiles + 1) ++ replicate (tiles - rows % tiles) (rows / tiles)

-- consecutive pieces of these sizes
abbrev pub pieces : ℕ → List ℕ → List Span
pieces from [] = []
pieces from (size ∷ sizes) = record { from = from; to = from + size } ∷ pieces (from + size) sizes

-- the number, from 1, of the first of some pieces that has a row
abbrev pub piece_number : List Span → ℕ → ℕ
piece_number cut i = position_or_len (λ piece. is_in_span piece i) cut + 1

-- the number of the tile that has a row
abbrev pub tile_of : ℕ → ℕ → ℕ → ℕ
tile_of rows tiles i = piece_number (pieces 0 (tile_sizes rows tiles)) i
