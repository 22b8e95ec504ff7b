-- Rows that are laid out one after another.
use Rattle.std.proofs.Common.{◌≡◌, ◌∙◌, ◌+◌, ◌*◌, ◌<◌, ◌≤◌, ◌++◌, ℕ, zero, suc, List, []}
use Rattle.std.proofs.Common.{◌∷◌, drop, take, get_or, length, map, refl, sym, ap, arith}
use Rattle.std.proofs.Math.Nat.{mul-le-mul_right}
use Rattle.std.proofs.lemmas.List.{drop-append-le, drop-drop, length-drop, length-take-le, take-append-drop, take-append-le, take_all}
use Rattle.wvalues.specs.declared.value.Value.{Value}
use Rattle.wvalues.specs.Meaning.{meaning}
use Rattle.wsegment.specs.Kept.{laid}

pub length-laid : (width n : ℕ) (cells : List Value) → length (laid width n cells) ≡ n
length-laid width zero cells = refl
length-laid width (suc n) cells = ap suc (length-laid width n (drop width cells))

-- the row at a place
pub laid-at : (width n : ℕ) (cells : List Value) (row : ℕ) → row < n → get_or (laid width n cells) row []
    ≡ map meaning (take width (drop (row * width) cells))
laid-at width zero cells row h = absurd (omega arith)
laid-at width (suc n) cells zero h = let e : 0 ≡ 0 * width = omega arith in ap (λ k. map meaning (take width (drop k cells))) e
laid-at width (suc n) cells (suc row) h =
    let l : row < n = omega arith in
    let e : width + row * width ≡ suc row * width = omega arith in
    laid-at width n (drop width cells) row l ∙ ap (λ cs. map meaning (take width cs)) (drop-drop (row * width) width cells
    ∙ ap (λ k. drop k cells) e)

pub row-within : (width n row : ℕ) → row < n → row * width + width ≤ n * width
row-within width n row h =
    let next : row + 1 ≤ n = omega arith in
    omega (arith, mul-le-mul_right width next)

-- one more row behind full ones
pub laid-push : (width n : ℕ) (cells row : List Value) → length cells ≡ n * width → length row ≡ width
    → laid width (suc n) (cells ++ row) ≡ laid width n cells ++ map meaning row ∷ []
laid-push width zero [] row full one = ap (λ cs. map meaning cs ∷ []) (take_all width row (omega (arith, one)))
laid-push width zero (x ∷ xs) row full one = absurd (omega (arith, full))
laid-push width (suc n) cells row full one =
    let some : width ≤ length cells = omega (arith, full) in
    let rest : length (drop width cells) ≡ n * width = omega (arith, full, length-drop width cells) in
    rw (take-append-le width cells row some, drop-append-le width cells row some, laid-push width n (drop width cells) row rest one) refl

-- a row's cells go behind those that were there
pub laid-more : (width n : ℕ) (old new : List Value) → length old ≡ n * width → take (length old) new ≡ old
    → length new ≡ length old + width → laid width (suc n) new ≡ laid width n old ++ map meaning (drop (length old) new) ∷ []
laid-more width n old new full before added =
    let whole : new ≡ old ++ drop (length old) new = sym (take-append-drop (length old) new)
    ∙ ap (λ front. front ++ drop (length old) new) before in
    let one : length (drop (length old) new) ≡ width = omega (arith, added, length-drop (length old) new) in
    ap (laid width (suc n)) whole ∙ laid-push width n old (drop (length old) new) full one

-- a row by its place
pub row-at : (width n : ℕ) (cells : List Value) (row : ℕ) → length cells ≡ n * width → row < n
    → (length (take width (drop (row * width) cells)) ≡ width)
    × (map meaning (take width (drop (row * width) cells)) ≡ get_or (laid width n cells) row [])
row-at width n cells row full in_rows =
    let behind = drop (row * width) cells in
    let whole : width ≤ length behind = omega (arith, full, row-within width n row in_rows, length-drop (row * width) cells) in
    (length-take-le width behind whole, sym (laid-at width n cells row in_rows))

pub rows-filled : (n width old new : ℕ) → old ≡ n * width → new ≡ old + width → new ≡ (n + 1) * width
rows-filled n width old new full added = omega arith
