-- The parts of rows, and spans of them.
use Rattle.std.specs.Prelude.{ℕ, ◌≤◌, List, map}
use Rattle.wframe.specs.declared.frame.Span.{Span}
use Rattle.wframe.specs.Places.{places_from, span_places, spans_places}

-- the parts of n rows, from a row on
abbrev pub parts_from : {P : Type 0} → (ℕ → P) → ℕ → ℕ → List P
parts_from part_at row n = map part_at (places_from row n)

-- the parts of a span's rows
abbrev pub span_parts : {P : Type 0} → (ℕ → P) → Span → List P
span_parts part_at s = map part_at (span_places s)

-- the parts of several spans' rows, one span after another
abbrev pub spans_parts : {P : Type 0} → (ℕ → P) → List Span → List P
spans_parts part_at ss = map part_at (spans_places ss)

-- a span of so many rows
pub record IsWithin (rows : ℕ) (s : Span) : Type 0 where
  pub ordered : s.from ≤ s.to
  pub to : s.to ≤ rows
