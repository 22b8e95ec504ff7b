-- Some partitions of a window at a time.
use Rattle.std.proofs.Common.{◌≡◌, ℕ, zero, suc, ◌+◌, ◌-◌, ◌<◌, ◌≤◌, List, [], ◌∷◌, length, take, drop, refl, sym, ap, ◌∙◌, arith, subst}
use Rattle.std.proofs.Common.{length-drop, length-take-le}
use Rattle.std.specs.Prelude.{slice_range}
use Rattle.std.specs.List.{AllByRecursion}
use Rattle.std.proofs.lemmas.List.{take-take, drop-drop, drop-take}
use Rattle.wframe.specs.declared.frame.Span.{Span}
use Rattle.wframe.specs.Places.{span_at, Tiles}
use Rattle.wslide.proofs.Windows.{reached, reached_from, reached_more}
use Rattle.waggregate.specs.Batches.{batch_spans, batch_start}
use Rattle.waggregate.specs.declared.batch.Batch.{Batch}

-- a span between two places
abbrev pub IsInside : ℕ → ℕ → Span → Type 0
IsInside first last s = (first ≤ s.from) × (s.from ≤ s.to) × (s.to ≤ last)

reached_none : (low n : ℕ) → reached low [] n ≡ low
reached_none low zero = refl
reached_none low (suc n) = refl

-- the place that some spans reach, and then some more
pub reached_on : (low : ℕ) (ss : List Span) (k n : ℕ) → reached (reached low ss k) (drop k ss) n ≡ reached low ss (k + n)
reached_on low ss zero n = let e : n ≡ 0 + n = omega arith in ap (reached low ss) e
reached_on low [] (suc k) n = reached_none low n ∙ sym (reached_none low (suc k + n))
reached_on low (s ∷ ss) (suc k) n =
    let e : suc (k + n) ≡ suc k + n = omega arith in
    reached_on s.to ss k n ∙ ap (reached low (s ∷ ss)) e

tiles_left : (low : ℕ) (ss : List Span) (high k : ℕ) → Tiles low ss high → Tiles (reached low ss k) (drop k ss) high
tiles_left low ss high zero t = t
tiles_left low [] high (suc k) t = t
tiles_left low (s ∷ ss) high (suc k) t = tiles_left s.to ss high k t.2

tiles_taken : (low : ℕ) (ss : List Span) (high k : ℕ) → Tiles low ss high → Tiles low (take k ss) (reached low ss k)
tiles_taken low ss high zero t = refl
tiles_taken low [] high (suc k) t = refl
tiles_taken low (s ∷ ss) high (suc k) t = (t.0, t.1, tiles_taken s.to ss high k t.2)

-- some of the spans leave no place out that lies between the first and the last of theirs
pub tiles_sliced : (ss : List Span) (high from to : ℕ) → Tiles 0 ss high → from ≤ to
    → Tiles (reached 0 ss from) (slice_range ss from to) (reached 0 ss to)
tiles_sliced ss high from to t h =
    let e : from + (to - from) ≡ to = omega (arith, h) in
    let first = reached 0 ss from in
    subst (Tiles first (slice_range ss from to)) (reached_on 0 ss from (to - from) ∙ ap (reached 0 ss) e)
    (tiles_taken first (drop from ss) high (to - from) (tiles_left 0 ss high from t))

tiles_rise : (low : ℕ) (ss : List Span) (high : ℕ) → Tiles low ss high → low ≤ high
tiles_rise low [] high t = omega (arith, t)
tiles_rise low (s ∷ ss) high t =
    let more = tiles_rise s.to ss high t.2 in
    let from = t.0 in
    let some = t.1 in
    omega arith

-- the first spans reach no farther than all
pub reached_within : (low : ℕ) (ss : List Span) (high k : ℕ) → Tiles low ss high → reached low ss k ≤ high
reached_within low ss high k t = tiles_rise (reached low ss k) (drop k ss) high (tiles_left low ss high k t)

-- the first spans reach no farther than more of them
pub reached_rises : (ss : List Span) (high from to : ℕ) → Tiles 0 ss high → from ≤ to → reached 0 ss from ≤ reached 0 ss to
reached_rises ss high from to t h =
    tiles_rise (reached 0 ss from) (slice_range ss from to) (reached 0 ss to) (tiles_sliced ss high from to t h)

-- the place that the spans before the last one reach, and it
pub reached_last : (ss : List Span) (to : ℕ) → 0 < to → to ≤ length ss → reached 0 ss to ≡ (span_at ss (to - 1)).to
reached_last ss to some within =
    let e : to ≡ to - 1 + 1 = omega (arith, some) in
    ap (reached 0 ss) e ∙ reached_more 0 ss (to - 1) (omega arith)

-- a span begins before a later one ends
pub begins_before : (ss : List Span) (high from to : ℕ) → Tiles 0 ss high → from < to → to ≤ length ss
    → (span_at ss from).from ≤ (span_at ss (to - 1)).to
begins_before ss high from to t some within =
    let first = reached_from 0 ss high from t (omega (arith, some, within)) in
    let last = reached_last ss to (omega (arith, some)) within in
    omega (arith, first, last, reached_rises ss high from to t (omega (arith, some)))

-- how long a slice is
pub slice_long : {X : Type 0} (xs : List X) (from to : ℕ) → to ≤ length xs → length (slice_range xs from to) ≡ to - from
slice_long xs from to h = length-take-le (to - from) (drop from xs) (omega (arith, length-drop from xs, h))

pub tiles_inside : (least low : ℕ) (ss : List Span) (high : ℕ) → least ≤ low → Tiles low ss high → AllByRecursion (IsInside least high) ss
tiles_inside least low [] high h t = tt
tiles_inside least low (s ∷ ss) high h t =
    let first : s.from ≡ low = t.0 in
    let some : s.from < s.to = t.1 in
    ((omega arith, omega arith, reached_within s.to ss high 0 t.2), tiles_inside least s.to ss high (omega arith) t.2)

-- the partitions of a batch lie among its rows
pub batch_inside : (b : Batch) → Tiles 0 b.partitions.now.spans (length b.partitions.now.keys)
    → AllByRecursion (IsInside (batch_start b) (batch_start b + length b.rows.now)) (batch_spans b)
batch_inside b tiles =
    let ss = b.partitions.now.spans in
    let high = length b.partitions.now.keys in
    let from = b.numbers.from in
    let to = b.numbers.to in
    let begin : reached 0 ss from ≡ batch_start b = reached_from 0 ss high from tiles (omega (arith, b.some, b.within)) in
    let end : reached 0 ss to ≡ (span_at ss (to - 1)).to = reached_last ss to (omega (arith, b.some)) b.within in
    let rises = reached_rises ss high from to tiles (omega (arith, b.some)) in
    let wide : reached 0 ss to ≡ batch_start b + length b.rows.now = omega (arith, begin, end, rises, b.whole) in
    tiles_inside (batch_start b) (batch_start b) (batch_spans b) (batch_start b + length b.rows.now) (omega arith)
    (subst (λ n. Tiles (batch_start b) (batch_spans b) n) wide (subst (λ n. Tiles n (batch_spans b) (reached 0 ss to)) begin
    (tiles_sliced ss high from to tiles (omega (arith, b.some)))))

-- a slice of a slice
pub slice_inside : {X : Type 0} (xs : List X) (first last from to : ℕ) → first ≤ from → from ≤ to → to ≤ last
    → slice_range (slice_range xs first last) (from - first) (to - first) ≡ slice_range xs from to
slice_inside xs first last from to low mid high =
    let wide : last - first ≡ from - first + (last - from) = omega (arith, low, mid, high) in
    let some : to - first - (from - first) ≡ to - from = omega (arith, low, mid) in
    let there : first + (from - first) ≡ from = omega (arith, low) in
    ap (λ n. take n (drop (from - first) (slice_range xs first last))) some
    ∙ ap (λ n. take (to - from) (drop (from - first) (take n (drop first xs)))) wide
    ∙ ap (take (to - from)) (drop-take (from - first) (last - from) (drop first xs))
    ∙ take-take (to - from) (last - from) (drop (from - first) (drop first xs)) (omega (arith, high))
    ∙ ap (take (to - from)) (drop-drop (from - first) first xs ∙ ap (λ n. drop n xs) there)
