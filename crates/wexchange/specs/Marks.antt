-- Hashers that have beginnings of bytes.
use Rattle.std.specs.Prelude.{ℕ, ◌≤◌, List, length, take}
use Rattle.std.specs.List.{All}
use Rattle.sha2.specs.Hashers.{Holds256}
use Rattle.wexchange.specs.declared.hashed.Mark.{Mark}

-- the hasher of a mark has the beginning of the bytes that is so long
pub record IsMark (bytes : List ℕ) (mark : Mark) : Type 0 where
  pub within : mark.len ≤ length bytes
  pub holds : Holds256 mark.hasher (take mark.len bytes)

abbrev pub AreMarks : List ℕ → List Mark → Type 0
AreMarks bytes marks = All (IsMark bytes) marks
