-- Tiles by arithmetic.
use Rattle.std.proofs.Common.{◌≡◌, ℕ, zero, suc, ◌+◌, ◌-◌, ◌*◌, ◌/◌, ◌%◌, ◌<◌, ◌≤◌, true, false, not, cond, List, []}
use Rattle.std.proofs.Common.{◌∷◌, ◌++◌, replicate, length, sym, ap, ◌∙◌, arith, inl, inr, ◌⊎◌, length-append}
use Rattle.std.proofs.Math.Nat.{div-eq_of_lt, div-eq-sub-div, suc-mul, add-mul, div-add-mod}
use Rattle.std.proofs.lemmas.Bool.{cases_lt}
use Rattle.std.proofs.lemmas.Bool.Decides.{nat_tests}
use Rattle.std.proofs.lemmas.List.{append-nil, length-replicate}
use Rattle.std.proofs.lemmas.List.Folds.{sum_by-replicate}
use Rattle.std.proofs.lemmas.List.Sums.{sum_by-append}
use Rattle.std.specs.List.{position_or_len, sum}
use Rattle.wframe.specs.Places.{is_in_span, span_at}
use Rattle.wplaces.specs.Tile.{pieces, tile_sizes, tile_of}

in_span : (from to i : ℕ) → from ≤ i → i < to → is_in_span (record { from = from; to = to }) i ≡ true
in_span from to i l h = grind (arith, nat_tests)

past_span : (from to i : ℕ) → to ≤ i → is_in_span (record { from = from; to = to }) i ≡ false
past_span from to i l = grind (arith, nat_tests)

-- how many pieces lie before the one that has a row
abbrev pieces_before : ℕ → List ℕ → ℕ → ℕ
pieces_before from sizes i = position_or_len (λ piece. is_in_span piece i) (pieces from sizes)

at_first : (from size : ℕ) (sizes : List ℕ) (i : ℕ) → from ≤ i → i < from + size → pieces_before from (size ∷ sizes) i ≡ 0
at_first from size sizes i l h = ap (λ b. cond (not b) (1 + pieces_before (from + size) sizes i) 0) (in_span from (from + size) i l h)

after_first : (from size : ℕ) (sizes : List ℕ) (i : ℕ) → from + size ≤ i → pieces_before from (size ∷ sizes) i
    ≡ 1 + pieces_before (from + size) sizes i
after_first from size sizes i l = ap (λ b. cond (not b) (1 + pieces_before (from + size) sizes i) 0) (past_span from (from + size) i l)

size_some : (k size : ℕ) → 0 < k * size → 0 < size
size_some k zero h = absurd (omega arith)
size_some k (suc size) h = omega arith

-- among pieces of one size
among : (k from size : ℕ) (sizes : List ℕ) (i : ℕ) → from ≤ i → i < from + k * size
    → pieces_before from (replicate k size ++ sizes) i ≡ (i - from) / size
among zero from size sizes i l h = absurd (omega arith)
among (suc k) from size sizes i l h =
    let e : suc k * size ≡ k * size + size = suc-mul k size in
    by_cases (λ m. among k (from + size) size sizes i m (omega arith)) (cases_lt i (from + size))
  where
    by_cases : (from + size ≤ i → pieces_before (from + size) (replicate k size ++ sizes) i ≡ (i - (from + size)) / size)
        → (i < from + size) ⊎ (from + size ≤ i) → pieces_before from (replicate (suc k) size ++ sizes) i ≡ (i - from) / size
    by_cases later (inl m) = at_first from size (replicate k size ++ sizes) i l m ∙ sym (div-eq_of_lt (omega arith))
    by_cases later (inr m) =
        let e : suc k * size ≡ k * size + size = suc-mul k size in
        let back : i - from - size ≡ i - (from + size) = omega arith in
        let r : pieces_before (from + size) (replicate k size ++ sizes) i ≡ (i - (from + size)) / size = later m in
        let some : 0 < size = size_some k size (omega arith) in
        let d : (i - from) / size ≡ (i - from - size) / size + 1 = div-eq-sub-div some (omega arith) in
        let q : (i - from - size) / size ≡ (i - (from + size)) / size = ap (λ n. n / size) back in
        after_first from size (replicate k size ++ sizes) i m ∙ omega arith

-- after pieces of one size
after : (k from size : ℕ) (sizes : List ℕ) (i : ℕ) → from + k * size ≤ i → pieces_before from (replicate k size ++ sizes) i
    ≡ k + pieces_before (from + k * size) sizes i
after zero from size sizes i l =
    let e : from ≡ from + 0 * size = omega arith in
    ap (λ a. pieces_before a sizes i) e ∙ omega arith
after (suc k) from size sizes i l =
    let e : suc k * size ≡ k * size + size = suc-mul k size in
    let f : from + size + k * size ≡ from + suc k * size = omega arith in
    let r : pieces_before (from + size) (replicate k size ++ sizes) i ≡ k + pieces_before (from + size + k * size) sizes i =
    after k (from + size) size sizes i (omega arith) in
    let g : pieces_before (from + size + k * size) sizes i ≡ pieces_before (from + suc k * size) sizes i =
    ap (λ a. pieces_before a sizes i) f in
    after_first from size (replicate k size ++ sizes) i (omega arith) ∙ omega arith

-- a row of a larger tile
pub tile_among_larger : (rows tiles i : ℕ) → i < rows % tiles * (rows / tiles) + rows % tiles
    → i / (rows / tiles + 1) + 1 ≡ tile_of rows tiles i
tile_among_larger rows tiles i h =
    let e : rows % tiles * (rows / tiles + 1) ≡ rows % tiles * (rows / tiles) + rows % tiles = omega arith in
    let r : pieces_before 0 (tile_sizes rows tiles) i ≡ (i - 0) / (rows / tiles + 1) =
    among (rows % tiles) 0 (rows / tiles + 1) (replicate (tiles - rows % tiles) (rows / tiles)) i (omega arith) (omega arith) in
    let z : i - 0 ≡ i = omega arith in
    sym (ap (λ n. n + 1) (r ∙ ap (λ n. n / (rows / tiles + 1)) z))

-- a row of another one
pub tile_among_others : (rows tiles i : ℕ) → 1 ≤ tiles → i < rows → rows % tiles * (rows / tiles) + rows % tiles ≤ i →
    rows % tiles + (i - (rows % tiles * (rows / tiles) + rows % tiles)) / (rows / tiles) + 1 ≡ tile_of rows tiles i
tile_among_others rows tiles i some h l =
    let m : ℕ = rows % tiles in
    let q : ℕ = rows / tiles in
    let larger : 0 + m * (q + 1) ≡ m * q + m = omega arith in
    let whole : tiles * q + m ≡ rows = div-add-mod rows tiles in
    let both : m + (tiles - m) ≡ tiles = omega arith in
    let parts : tiles * q ≡ m * q + (tiles - m) * q = ap (λ t. t * q) (sym both) ∙ add-mul m (tiles - m) q in
    let low : 0 + m * (q + 1) ≤ i = omega arith in
    let high : i < 0 + m * (q + 1) + (tiles - m) * q = omega arith in
    let r : pieces_before 0 (tile_sizes rows tiles) i ≡ m + pieces_before (0 + m * (q + 1)) (replicate (tiles - m) q) i =
    after m 0 (q + 1) (replicate (tiles - m) q) i low in
    let s : pieces_before (0 + m * (q + 1)) (replicate (tiles - m) q) i ≡ (i - (0 + m * (q + 1))) / q =
    ap (λ sizes. pieces_before (0 + m * (q + 1)) sizes i) (sym (append-nil (replicate (tiles - m) q)))
    ∙ among (tiles - m) (0 + m * (q + 1)) q [] i low high in
    let t : (i - (0 + m * (q + 1))) / q ≡ (i - (m * q + m)) / q = ap (λ n. (i - n) / q) larger in
    omega arith

pub length-tile_sizes : (rows tiles : ℕ) → 1 ≤ tiles → length (tile_sizes rows tiles) ≡ tiles
length-tile_sizes rows tiles some =
    omega (
      arith,
      length-append (replicate (rows % tiles) (rows / tiles + 1))
          (replicate (tiles - rows % tiles) (rows / tiles)),
      length-replicate (rows % tiles) (rows / tiles + 1),
      length-replicate (tiles - rows % tiles) (rows / tiles),
    )

pub sum-tile_sizes : (rows tiles : ℕ) → 1 ≤ tiles → sum (tile_sizes rows tiles) ≡ rows
sum-tile_sizes rows tiles some =
    let m : ℕ = rows % tiles in
    let q : ℕ = rows / tiles in
    let larger : m * (q + 1) ≡ m * q + m = omega arith in
    let whole : tiles * q + m ≡ rows = div-add-mod rows tiles in
    let both : m + (tiles - m) ≡ tiles = omega arith in
    let parts : tiles * q ≡ m * q + (tiles - m) * q = ap (λ t. t * q) (sym both) ∙ add-mul m (tiles - m) q in
    let a : sum (tile_sizes rows tiles) ≡ sum (replicate m (q + 1)) + sum (replicate (tiles - m) q) =
    sum_by-append (λ x. x) (replicate m (q + 1)) (replicate (tiles - m) q) in
    let b : sum (replicate m (q + 1)) ≡ m * (q + 1) = sum_by-replicate (λ x. x) m (q + 1) in
    let d : sum (replicate (tiles - m) q) ≡ (tiles - m) * q = sum_by-replicate (λ x. x) (tiles - m) q in
    omega arith

-- the first piece that has a row has it
found : (from : ℕ) (sizes : List ℕ) (i : ℕ) → from ≤ i → i < from + sum sizes
    → is_in_span (span_at (pieces from sizes) (pieces_before from sizes i)) i ≡ true
found from [] i l h = absurd (omega arith)
found from (size ∷ sizes) i l h =
    let e : sum (size ∷ sizes) ≡ 0 + size + sum sizes = sum_by-append (λ x. x) (size ∷ []) sizes in
    by_cases (λ m. found (from + size) sizes i m (omega arith)) (cases_lt i (from + size))
  where
    by_cases : (from + size ≤ i → is_in_span (span_at (pieces (from + size) sizes) (pieces_before (from + size) sizes i)) i
        ≡ true) → (i < from + size) ⊎ (from + size ≤ i)
        → is_in_span (span_at (pieces from (size ∷ sizes)) (pieces_before from (size ∷ sizes) i)) i ≡ true
    by_cases later (inl m) = ap (λ n. is_in_span (span_at (pieces from (size ∷ sizes)) n) i)
        (at_first from size sizes i l m) ∙ in_span from (from + size) i l m
    by_cases later (inr m) =
        let e : pieces_before from (size ∷ sizes) i ≡ suc (pieces_before (from + size) sizes i) =
        after_first from size sizes i m ∙ omega arith in
        ap (λ n. is_in_span (span_at (pieces from (size ∷ sizes)) n) i) e ∙ later m

pub tile_has_row : (rows tiles i : ℕ) → 1 ≤ tiles → i < rows
    → is_in_span (span_at (pieces 0 (tile_sizes rows tiles)) (tile_of rows tiles i - 1)) i ≡ true
tile_has_row rows tiles i some h =
    let e : tile_of rows tiles i - 1 ≡ pieces_before 0 (tile_sizes rows tiles) i = omega arith in
    ap (λ n. is_in_span (span_at (pieces 0 (tile_sizes rows tiles)) n) i) e ∙ found 0 (tile_sizes rows tiles) i
    (omega arith) (omega (arith, sum-tile_sizes rows tiles some))
