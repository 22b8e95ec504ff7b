-- Places of rows, and the places of spans.
use Rattle.std.specs.Prelude.{◌≡◌, ℕ, zero, suc, ◌+◌, ◌-◌, ◌<◌, ◌≤◌, Bool, ◌&&◌, nat_le, nat_lt, List, [], ◌∷◌, ◌++◌, slice_index_or}
use Rattle.std.specs.List.{AllByRecursion}
use Rattle.wframe.specs.declared.frame.Span.{Span}

-- n places, from one on
abbrev pub places_from : ℕ → ℕ → List ℕ
places_from place zero = []
places_from place (suc n) = place ∷ places_from (place + 1) n

-- the places of n rows
abbrev pub places : ℕ → List ℕ
places n = places_from 0 n

-- the places of a span
abbrev pub span_places : Span → List ℕ
span_places s = places_from s.from (s.to - s.from)

-- the places of several spans, one span after another
abbrev pub spans_places : List Span → List ℕ
spans_places [] = []
spans_places (s ∷ ss) = span_places s ++ spans_places ss

-- whether a place lies in a span
abbrev pub is_in_span : Span → ℕ → Bool
is_in_span s j = nat_le s.from j && nat_lt j s.to

-- one of a list of spans
abbrev pub span_at : List Span → ℕ → Span
span_at ss k = slice_index_or ss k (record { from = 0; to = 0 })

-- spans in order, of which each ends before the next begins, from one place up to another
abbrev pub AreApart : ℕ → List Span → ℕ → Type 0
AreApart low [] high = low ≤ high
AreApart low (s ∷ ss) high = (low ≤ s.from) × (s.from ≤ s.to) × AreApart s.to ss high

-- spans in order that leave no place out, none of them empty
abbrev pub Tiles : ℕ → List Span → ℕ → Type 0
Tiles low [] high = low ≡ high
Tiles low (s ∷ ss) high = (s.from ≡ low) × (s.from < s.to) × Tiles s.to ss high

-- spans of which the first is this one, and the others are empty
abbrev pub IsPlain : Span → List Span → Type 0
IsPlain span [] = ⊥
IsPlain span (s ∷ ss) = (s ≡ span) × AllByRecursion (λ t. t.from ≡ t.to) ss

-- a span of these rows, neither end of which lies before that of `low`
pub record IsRisen (rows : ℕ) (low s : Span) : Type 0 where
  pub from : low.from ≤ s.from
  pub to : low.to ≤ s.to
  pub ordered : s.from ≤ s.to
  pub within : s.to ≤ rows
