-- Rows of cells by their places.
use Rattle.std.proofs.Common.{◌≡◌, ℕ, zero, suc, ◌+◌, ◌-◌, ◌*◌, ◌<◌, ◌≤◌, List, [], ◌∷◌, length, take}
use Rattle.std.proofs.Common.{drop, get_or, sym, ap, ◌∙◌, refl, arith, length-take-le, length-drop}
use Rattle.std.proofs.Math.Nat.{mul-le-mul_right}
use Rattle.std.specs.Prelude.{slice_range}
use Rattle.std.proofs.lemmas.List.{drop-drop, take-take, drop-take, length-map}
use Rattle.std.specs.Borrow.{Bor}
use Rattle.wvalues.specs.declared.value.Value.{Value}
use Rattle.std.specs.declared.cmp.Ordering.TheVariants.{Less, Equal, Greater}
use Rattle.wvalues.specs.declared.key.SortKey.{SortKey}
use Rattle.wvalues.specs.Meaning.{Meaning, meaning}
use Rattle.wvalues.specs.Order.{keys_cmp}
use Rattle.wframe.specs.Cells.{rows_of, meanings, if_keyed}

pub length-rows_of : (width n : ℕ) (cells : List (Bor Value)) → length (rows_of width n cells) ≡ n
length-rows_of width zero cells = refl
length-rows_of width (suc n) cells = ap suc (length-rows_of width n (drop width cells))

-- the row at a place
pub row_at : (width n : ℕ) (cells : List (Bor Value)) (row : ℕ) → row < n → get_or (rows_of width n cells) row []
    ≡ meanings (take width (drop (row * width) cells))
row_at width zero cells row h = absurd (omega arith)
row_at width (suc n) cells zero h = let e : 0 ≡ 0 * width = omega arith in ap (λ k. meanings (take width (drop k cells))) e
row_at width (suc n) cells (suc row) h =
    let l : row < n = omega arith in
    let e : width + row * width ≡ suc row * width = omega arith in
    row_at width n (drop width cells) row l ∙ ap (λ cs. meanings (take width cs)) (drop-drop (row * width) width cells
    ∙ ap (λ k. drop k cells) e)

pub row_within : (width n row : ℕ) → row < n → row * width + width ≤ n * width
row_within width n row h =
    let next : row + 1 ≤ n = omega arith in
    omega (arith, mul-le-mul_right width next)

rows_of-drop : (width n k : ℕ) (cells : List (Bor Value)) → k ≤ n
    → drop k (rows_of width n cells) ≡ rows_of width (n - k) (drop (k * width) cells)
rows_of-drop width n zero cells h =
    let e : 0 ≡ 0 * width = omega arith in
    let m : n ≡ n - 0 = omega arith in
    ap (λ k. rows_of width n (drop k cells)) e ∙ ap (λ k. rows_of width k (drop (0 * width) cells)) m
rows_of-drop width zero (suc k) cells h = absurd (omega arith)
rows_of-drop width (suc n) (suc k) cells h =
    let l : k ≤ n = omega arith in
    let e : width + k * width ≡ suc k * width = omega arith in
    let m : n - k ≡ suc n - suc k = omega arith in
    rows_of-drop width n k (drop width cells) l
    ∙ ap (rows_of width (n - k)) (drop-drop (k * width) width cells ∙ ap (λ j. drop j cells) e)
    ∙ ap (λ j. rows_of width j (drop (suc k * width) cells)) m

rows_of-take : (width n m : ℕ) (cells : List (Bor Value)) → m ≤ n → take m (rows_of width n cells) ≡ rows_of width m cells
rows_of-take width n zero cells h = refl
rows_of-take width zero (suc m) cells h = absurd (omega arith)
rows_of-take width (suc n) (suc m) cells h = let l : m ≤ n = omega arith in
    ap (λ rs. meanings (take width cells) ∷ rs) (rows_of-take width n m (drop width cells) l)

rows_of-front : (width m : ℕ) (cells : List (Bor Value)) → rows_of width m (take (m * width) cells) ≡ rows_of width m cells
rows_of-front width zero cells = refl
rows_of-front width (suc m) cells =
    let e : suc m * width ≡ width + m * width = omega arith in
    let l : width ≤ width + m * width = omega arith in
    ap (λ k. rows_of width (suc m) (take k cells)) e
    ∙ ap (λ cs. meanings cs ∷ rows_of width m (drop width (take (width + m * width) cells))) (take-take width (width + m * width) cells l)
    ∙ ap (λ cs. meanings (take width cells) ∷ rows_of width m cs) (drop-take width (m * width) cells)
    ∙ ap (λ rs. meanings (take width cells) ∷ rs) (rows_of-front width m (drop width cells))

times_from : (from d width : ℕ) → (from + d) * width - from * width ≡ d * width
times_from from d width = let e : (from + d) * width ≡ from * width + d * width = omega arith in omega (arith, e)

pub part_long : (width from to : ℕ) → from ≤ to → to * width - from * width ≡ (to - from) * width
part_long width from to h =
    let e : from + (to - from) ≡ to = omega arith in
    ap (λ k. k * width - from * width) (sym e) ∙ times_from from (to - from) width

-- the rows of a span
pub part_lists : (width n from to : ℕ) (cells : List (Bor Value)) → from ≤ to → to ≤ n
    → rows_of width (to - from) (take (to * width - from * width) (drop (from * width) cells)) ≡ slice_range (rows_of width n cells) from to
part_lists width n from to cells h k =
    let l : from ≤ n = omega arith in
    let m : to - from ≤ n - from = omega arith in
    ap (λ j. rows_of width (to - from) (take j (drop (from * width) cells))) (part_long width from to h)
    ∙ rows_of-front width (to - from) (drop (from * width) cells)
    ∙ sym (ap (take (to - from)) (rows_of-drop width n from cells l) ∙ rows_of-take width (n - from) (to - from)
    (drop (from * width) cells) m)

pub part_within : (width from to : ℕ) → from ≤ to → from * width ≤ to * width
part_within width from to h = mul-le-mul_right width h

-- a row has a value for each key
pub row_long : (width n : ℕ) (cells : List (Bor Value)) (row : ℕ) → length cells ≡ n * width → row < n
    → length (get_or (rows_of width n cells) row []) ≡ width
row_long width n cells row e h =
    ap length (row_at width n cells row h)
    ∙ length-map (take width (drop (row * width) cells)) (λ (cell : Bor Value). meaning cell.now)
    ∙ length-take-le width (drop (row * width) cells) (omega (arith, length-drop (row * width) cells, row_within width n row h))

pub second_absent : (ks : List SortKey) (xs ys : List Meaning) → length xs ≡ length ks → ys ≡ [] → if_keyed ks Greater ≡ keys_cmp ks xs ys
second_absent [] xs ys h e = refl
second_absent (k ∷ ks) [] ys h e = absurd (omega arith)
second_absent (k ∷ ks) (x ∷ xs) ys h e = rw e refl

pub first_absent : (ks : List SortKey) (xs ys : List Meaning) → xs ≡ [] → length ys ≡ length ks → if_keyed ks Less ≡ keys_cmp ks xs ys
first_absent [] xs ys e h = refl
first_absent (k ∷ ks) xs [] e h = absurd (omega arith)
first_absent (k ∷ ks) xs (y ∷ ys) e h = rw e refl

pub both_absent : (ks : List SortKey) (xs ys : List Meaning) → xs ≡ [] → ys ≡ [] → Equal ≡ keys_cmp ks xs ys
both_absent [] xs ys e f = refl
both_absent (k ∷ ks) xs ys e f = rw (e, f) refl

-- a row that does not exist has no values
pub no_row : (keys : List (List Meaning)) (row : ℕ) → length keys ≤ row → get_or keys row [] ≡ []
no_row [] row h = refl
no_row (x ∷ xs) zero h = absurd (omega arith)
no_row (x ∷ xs) (suc row) h = no_row xs row (omega arith)
