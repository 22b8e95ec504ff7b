-- Lists of values of rows, and what is made of them.
use Rattle.std.proofs.Common.{◌≡◌, Bool, true, false, not, true≢false, Option, None, Some, Vec, Global, ℕ, ◌+◌, ◌*◌, ◌<◌}
use Rattle.std.proofs.Common.{List, [], ◌∷◌, length, map, take, drop, get_or, refl, sym, ap, subst, ◌∙◌, arith}
use Rattle.std.specs.Prelude.{All, IfSome, IsTrue, ◌≤◌, ◌^◌, ◌↔◌}
use Rattle.std.specs.Option.{is_some}
use Rattle.std.specs.List.{AllByRecursion}
use Rattle.std.specs.Ordering.{on}
use Rattle.std.proofs.lemmas.Cmp.{on_total}
use Rattle.std.proofs.lemmas.List.{length-map}
use Rattle.std.proofs.Math.Nat.{mul-le-mul_right}
use Rattle.std.proofs.lemmas.List.Elements.{All-from_recursion, All-same, recursion_from_All}
use Rattle.wvalues.specs.declared.key.SortKey.{SortKey}
use Rattle.wvalues.specs.Meaning.{Meaning, meaning}
use Rattle.wvalues.specs.Order.{keys_cmp}
use Rattle.wvalues.specs.OrderLaws.{keys_total}
use Rattle.wframe.specs.Peers.{key_at}
use Rattle.wframe.specs.Sorting.{sorted}
use Rattle.wframe.proofs.SortFacts.{all_sorted, length_sorted}
use Rattle.wrows.specs.CodedRows.{key_column, key_of, AreCodes, AreRowCodes}
use Rattle.wrows.specs.Columns.{value_at}
use Rattle.wrows.specs.Laid.{row_seen, rows_in, rows_seen}
use Rattle.wrows.proofs.KeyFacts.{codes_of_one_key}
use Rattle.wrows.proofs.RowFacts.{length-laid, row_at, row_wide}
use Rattle.wrows.specs.declared.cells.Cells.{Cells}
use Rattle.wcalls.specs.declared.plain_lists.PlainLists.{PlainLists}
use Rattle.wcalls.specs.declared.row_lists.RowLists.{RowLists}
use Rattle.wcalls.specs.declared.row_lists.RowLists.TheVariants.{Evaluated, Plain}
use Rattle.wcalls.specs.Listed.{lists_in, width_of}
use Rattle.wcalls.specs.ListedColumns.{values_at}
use Rattle.wcalls.proofs.PlainFacts.{list_at}

-- each list has as many values as all
width_at : (l : RowLists) (i : ℕ) → i < length (lists_in l) → length (key_at (lists_in l) i) ≡ width_of l
width_at (Evaluated cells) i h = row_wide cells.width cells.count cells.cells.items i cells.laid
    (omega (arith, h, length-laid cells.width cells.count cells.cells.items))
width_at (Plain columns) i h =
    let ps = columns.places.items in
    let rows = rows_seen columns.rows.now in
    ap length (list_at ps rows i (omega (arith, h, length-map rows (λ row. map (value_at row) ps))))
    ∙ length-map ps (value_at (key_at rows i))

pub laid_count : (l : RowLists) (cells : Cells) → l ≡ Evaluated cells → length (lists_in l) ≡ cells.count
laid_count l cells e = ap (λ l. length (lists_in l)) e ∙ length-laid cells.width cells.count cells.cells.items

pub plain_count : (l : RowLists) (columns : PlainLists) → l ≡ Plain columns → length (lists_in l) ≡ length columns.rows.now
plain_count l columns e =
    let rows = columns.rows.now in
    ap (λ l. length (lists_in l)) e ∙ length-map (rows_seen rows) (λ row. map (value_at row) columns.places.items)
    ∙ length-map rows row_seen

-- codes of the only key are codes of the rows
pub one_key_codes : (l : RowLists) (orders : List SortKey) (codes : List ℕ) → width_of l ≡ length orders → length orders ≡ 1
    → length (lists_in l) ≤ 2 ^ 32 → AreCodes (key_of orders 0) (key_column 0 (lists_in l)) codes → AreRowCodes orders (lists_in l) codes
one_key_codes l orders codes wide one few answer = codes_of_one_key orders (lists_in l) codes one few (λ i h. width_at l i h ∙ wide) answer

-- the same of codes that may be lacking
pub one_key_found : (l : RowLists) (orders : List SortKey) (found : Option (Vec ℕ Global)) → width_of l ≡ length orders
    → length orders ≡ 1 → length (lists_in l) ≤ 2 ^ 32
    → IfSome found (λ codes. AreCodes (key_of orders 0) (key_column 0 (lists_in l)) codes.items)
    → IfSome found (λ codes. AreRowCodes orders (lists_in l) codes.items)
one_key_found l orders None wide one few answer = tt
one_key_found l orders (Some codes) wide one few answer = one_key_codes l orders codes.items wide one few answer

-- they are found just where a test says no
pub found_just : {X : Type 0} (found : Option X) (b : Bool) → (IsTrue (is_some found) ↔ (b ≡ false)) → is_some found ≡ not b
found_just None false e = absurd (true≢false (sym (e.1 refl)))
found_just None true e = refl
found_just (Some x) false e = refl
found_just (Some x) true e = absurd (true≢false (e.0 refl))

-- two functions that agree below a number, on numbers below it
map-below : {X : Type 0} (f g : ℕ → X) (n : ℕ) → ((i : ℕ) → i < n → f i ≡ g i) → (xs : List ℕ) → AllByRecursion (λ i. i < n) xs
    → map f xs ≡ map g xs
map-below f g n same [] all = refl
map-below f g n same (x ∷ xs) all = ap (λ y. y ∷ map f xs) (same x all.0) ∙ ap (λ ys. g x ∷ ys) (map-below f g n same xs all.1)

-- the lists of some rows, of values at places of the rows
pub placed_lists : (places : List ℕ) (rows : List (List Meaning)) (n : ℕ) (numbers : List ℕ) → n ≡ length rows
    → All (λ i. i < n) numbers
    → map (λ number. map (value_at (key_at rows number)) places) numbers ≡ map (key_at (values_at places rows)) numbers
placed_lists places rows n numbers e below =
    map-below (λ number. map (value_at (key_at rows number)) places) (key_at (values_at places rows)) n
    (λ i h. sym (list_at places rows i (omega (arith, h, e)))) numbers (recursion_from_All (λ i. i < n) numbers below)

-- the same of rows that are laid out one after another
pub picked_lists : (cells : Cells) (width : ℕ) (numbers : List ℕ) → cells.width ≡ width
    → All (λ i. i < length (rows_in cells)) numbers
    → map (λ number. map meaning (take width (drop (number * width) cells.cells.items))) numbers ≡ map (key_at (rows_in cells)) numbers
picked_lists cells width numbers e below =
    map-below (λ number. map meaning (take width (drop (number * width) cells.cells.items))) (key_at (rows_in cells))
    (length (rows_in cells))
    (λ i h. ap (λ w. map meaning (take w (drop (i * w) cells.cells.items))) (sym e)
    ∙ sym (row_at cells.width cells.count cells.cells.items i
    (omega (arith, h, length-laid cells.width cells.count cells.cells.items)))) numbers
    (recursion_from_All (λ i. i < length (rows_in cells)) numbers below)

-- they lie within the cells
pub picked_within : (cells : Cells) (width : ℕ) (numbers : List ℕ) → cells.width ≡ width
    → All (λ i. i < length (rows_in cells)) numbers → All (λ i. i * width + width ≤ length cells.cells.items) numbers
picked_within cells width numbers e below = λ place d h.
    let number = get_or numbers place d in
    let l : number < cells.count = omega (arith, below place d h, length-laid cells.width cells.count cells.cells.items) in
    let next : number + 1 ≤ cells.count = omega arith in
    subst (λ w. number * w + w ≤ length cells.cells.items) e
    (omega (arith, mul-le-mul_right cells.width next, cells.laid))

-- rows that are sorted by keys are those that there were
module _ (keys : List SortKey) (lists : List (List Meaning)) (rows order : List ℕ) (is : order
    ≡ sorted (on (key_at lists) (keys_cmp keys)) rows) where
  pub sorted_below : (n : ℕ) → All (λ i. i < n) rows → All (λ i. i < n) order
  sorted_below n below =
      All-same (λ i. i < n) order (sorted (on (key_at lists) (keys_cmp keys)) rows) is
      (All-from_recursion (λ i. i < n) (sorted (on (key_at lists) (keys_cmp keys)) rows)
      (all_sorted (on (key_at lists) (keys_cmp keys)) (on_total (key_at lists) (keys_total keys)) (λ i. i < n) rows
      (recursion_from_All (λ i. i < n) rows below)))

  pub sorted_long : length order ≡ length rows
  sorted_long = ap length is ∙ length_sorted (on (key_at lists) (keys_cmp keys)) (on_total (key_at lists) (keys_total keys)) rows
