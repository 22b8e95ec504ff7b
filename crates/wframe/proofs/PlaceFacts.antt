-- Spans one after another, and what is kept for each.
use Rattle.std.proofs.Common.{◌≡◌, ℕ, zero, suc, ◌+◌, ◌<◌, ◌≤◌, List, [], ◌∷◌, length, sym, ap, ◌∙◌, refl, arith, inl, inr, ◌⊎◌}
use Rattle.std.proofs.lemmas.Bool.{cases_lt}
use Rattle.wframe.specs.declared.frame.Span.{Span}
use Rattle.wframe.specs.Places.{Tiles, span_at}

pub tiles_rise : (low high : ℕ) (ss : List Span) → Tiles low ss high → low ≤ high
tiles_rise low high [] t = omega (arith, t)
tiles_rise low high (s ∷ ss) t = omega (arith, t.0, t.1, tiles_rise s.to high ss t.2)

-- a span is not empty
pub tiles_some : (low high : ℕ) (ss : List Span) (k : ℕ) → Tiles low ss high → k < length ss → (span_at ss k).from < (span_at ss k).to
tiles_some low high [] k t h = absurd (omega arith)
tiles_some low high (s ∷ ss) zero t h = t.1
tiles_some low high (s ∷ ss) (suc k) t h = tiles_some s.to high ss k t.2 (omega arith)

pub tiles_within : (low high : ℕ) (ss : List Span) (k : ℕ) → Tiles low ss high → k < length ss → (span_at ss k).to ≤ high
tiles_within low high [] k t h = absurd (omega arith)
tiles_within low high (s ∷ ss) zero t h = tiles_rise s.to high ss t.2
tiles_within low high (s ∷ ss) (suc k) t h = tiles_within s.to high ss k t.2 (omega arith)

-- where a span begins, or where the last one ends
abbrev pub start_of : ℕ → List Span → ℕ → ℕ
start_of high [] k = high
start_of high (s ∷ ss) zero = s.from
start_of high (s ∷ ss) (suc k) = start_of high ss k

pub start_at : (high : ℕ) (ss : List Span) (k : ℕ) → k < length ss → start_of high ss k ≡ (span_at ss k).from
start_at high [] k h = absurd (omega arith)
start_at high (s ∷ ss) zero h = refl
start_at high (s ∷ ss) (suc k) h = start_at high ss k (omega arith)

pub start_first : (low high : ℕ) (ss : List Span) → Tiles low ss high → start_of high ss 0 ≡ low
start_first low high [] t = sym t
start_first low high (s ∷ ss) t = t.0

pub start_next : (low high : ℕ) (ss : List Span) (k : ℕ) → Tiles low ss high → k < length ss → start_of high ss (k + 1) ≡ (span_at ss k).to
start_next low high [] k t h = absurd (omega arith)
start_next low high (s ∷ ss) zero t h = start_first s.to high ss t.2
start_next low high (s ∷ ss) (suc k) t h =
    let e : suc k + 1 ≡ suc (k + 1) = omega arith in
    ap (start_of high (s ∷ ss)) e ∙ start_next s.to high ss k t.2 (omega arith)

pub start_last : (high : ℕ) (ss : List Span) → start_of high ss (length ss) ≡ high
start_last high [] = refl
start_last high (s ∷ ss) = start_last high ss

-- the span that a place lies in
pub tile_of : (low high : ℕ) (ss : List Span) (place : ℕ) → Tiles low ss high → low ≤ place → place < high → (k : ℕ)
    × (k < length ss) × ((span_at ss k).from ≤ place) × (place < (span_at ss k).to)
tile_of low high [] place t l h = absurd (omega (arith, t))
tile_of low high (s ∷ ss) place t l h = by_cases (λ m. tile_of s.to high ss place t.2 m h) (cases_lt place s.to)
  where
    by_cases : ((s.to ≤ place) → (k : ℕ) × (k < length ss) × ((span_at ss k).from ≤ place) × (place < (span_at ss k).to))
        → (place < s.to) ⊎ (s.to ≤ place) → (k : ℕ) × (k < length (s ∷ ss)) × ((span_at (s ∷ ss) k).from ≤ place)
        × (place < (span_at (s ∷ ss) k).to)
    by_cases later (inl m) = (0, omega arith, omega (arith, t.0), m)
    by_cases later (inr m) = let r = later m in (suc r.0, omega (arith, r.1), r.2, r.3)
