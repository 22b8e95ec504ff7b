-- Rows with columns beside them, by number.
use Rattle.std.proofs.Common.{◌≡◌, ℕ, zero, suc, ◌+◌, ◌*◌, ◌<◌, ◌≤◌, Bool, true, false, List, []}
use Rattle.std.proofs.Common.{◌++◌, length, map, take, take_all, get_or, Ok, sym, ap, ◌∙◌, arith}
use Rattle.std.specs.List.{AllByRecursion, flat_map, list_any}
use Rattle.std.proofs.lemmas.List.{get_or-map, length-map}
use Rattle.std.specs.Borrow.{Bor}
use Rattle.wvalues.specs.Meaning.{Meaning, meaning}
use Rattle.wvalues.specs.declared.value.Value.{Value}
use Rattle.wframe.specs.Peers.{key_at}
use Rattle.wframe.specs.Places.{places, places_from}
use Rattle.wplan.specs.Formula.{Formula}
use Rattle.wrows.specs.declared.fault.AnswerFault.TheVariants.{OutOfRange}
use Rattle.wrows.specs.Columns.{Row, beside, is_out_of_range, lists_of, value_at, value_on}
use Rattle.wsort.specs.LaidRows.{laid}
use Rattle.wrows.specs.Picked.{row_beside}
use Rattle.wrows.specs.Laid.{row_seen, rows_seen}
use Rattle.wrows.proofs.RowFacts.{all_of_each, any_of_all, laid_length, laid_rows, length-places, map-map, all_in_range}

-- the place of a number is the number
place_from : (a n i d : ℕ) → i < n → a + i ≡ get_or (places_from a n) i d
place_from a zero i d h = absurd (omega arith)
place_from a (suc n) zero d h = let e : a + 0 ≡ a = omega arith in e
place_from a (suc n) (suc i) d h = let e : a + suc i ≡ (a + 1) + i = omega arith in e ∙ place_from (a + 1) n i d (omega arith)

pub place_is : (n i : ℕ) → i < n → i ≡ get_or (places n) i i
place_is n i h = (let e : i ≡ 0 + i = omega arith in e) ∙ place_from 0 n i i h

-- the row that is filled
pub filled_is : (rows columns : List (Bor (List Value))) (i : ℕ) (row : Bor (List Value)) (cells : List Meaning)
    → i < length rows → row ≡ get_or rows i row → cells ≡ map meaning row.now ++ map (λ column. value_at (map meaning column.now) i) columns
    → cells ≡ row_beside (rows_seen rows) (rows_seen columns) i
filled_is rows columns i row cells h e listed =
    listed
    ∙ ap (λ l. l ++ map (λ column. value_at (map meaning column.now) i) columns) (ap row_seen e ∙ sym (get_or-map row_seen rows i row [] h))
    ∙ ap (λ l. key_at (rows_seen rows) i ++ l) (sym (map-map (λ column. value_at column i) row_seen columns))

pub numbers_all : (rows columns : List (Bor (List Value)))
    → map (row_beside (rows_seen rows) (rows_seen columns)) (places (length rows)) ≡ beside (rows_seen rows) (rows_seen columns)
numbers_all rows columns = ap (λ n. map (row_beside (rows_seen rows) (rows_seen columns)) (places n)) (sym (length-map rows row_seen))

-- what holds on one row holds on some
pub any_beside : (p : Row → Bool) (rows columns : List (Bor (List Value))) (i : ℕ) (row : Row)
    → row ≡ row_beside (rows_seen rows) (rows_seen columns) i → i < length rows → p row ≡ true
    → list_any p (beside (rows_seen rows) (rows_seen columns)) ≡ true
any_beside p rows columns i row e h b =
    ap (list_any p) (sym (numbers_all rows columns))
    ∙ any_of_all p (row_beside (rows_seen rows) (rows_seen columns)) (places (length rows)) i i
    (omega (arith, h, length-places 0 (length rows))) (place_is (length rows) i h) (ap p (sym e) ∙ b)

wide : (ts : List Formula) (w : ℕ) (B : ℕ → Row) (numbers : List ℕ) → length ts ≡ w
    → AllByRecursion (λ i. length (map (λ t. value_on t (B i)) ts) ≡ w) numbers
wide ts w B numbers long = all_of_each (λ i. length (map (λ t. value_on t (B i)) ts) ≡ w)
    (λ i. length-map ts (λ t. value_on t (B i)) ∙ long) numbers

-- the values on all rows
pub beside_lists : (ts : List Formula) (w : ℕ) (rows columns : List (Bor (List Value))) (cells : List Value) (n : ℕ)
    → length ts ≡ w → length rows ≤ n
    → list_any (λ i. list_any (λ t. is_out_of_range t (row_beside (rows_seen rows) (rows_seen columns) i)) ts)
    (take n (places (length rows))) ≡ false
    → map meaning cells ≡ flat_map (λ i. map (λ t. value_on t (row_beside (rows_seen rows) (rows_seen columns) i)) ts)
    (take n (places (length rows)))
    → lists_of ts (beside (rows_seen rows) (rows_seen columns)) ≡ Ok (laid w (length rows) cells)
beside_lists ts w rows columns cells n long h none listed =
    let B : ℕ → Row = row_beside (rows_seen rows) (rows_seen columns) in
    let numbers : List ℕ = places (length rows) in
    let long_enough : length numbers ≤ n = omega (arith, h, length-places 0 (length rows)) in
    let all : take n numbers ≡ numbers = take_all n numbers long_enough in
    let g : ℕ → Row = λ i. map (λ t. value_on t (B i)) ts in
    ap (lists_of ts) (sym (numbers_all rows columns))
    ∙ all_in_range (λ row. list_any (λ t. is_out_of_range t row) ts) (λ row. map (λ t. value_on t row) ts) B OutOfRange numbers
    (laid w (length rows) cells) n long_enough none
    (ap (λ k. laid w k cells) (sym (length-places 0 (length rows))) ∙ laid_rows w g numbers (wide ts w B numbers long) cells
    (listed ∙ ap (flat_map g) all) ∙ ap (map g) (sym all))

pub beside_filled : (ts : List Formula) (w : ℕ) (rows columns : List (Bor (List Value))) (cells : List Value) (n : ℕ)
    → length ts ≡ w → length rows ≤ n
    → map meaning cells ≡ flat_map (λ i. map (λ t. value_on t (row_beside (rows_seen rows) (rows_seen columns) i)) ts)
    (take n (places (length rows)))
    → length cells ≡ length rows * w
beside_filled ts w rows columns cells n long h listed =
    let B : ℕ → Row = row_beside (rows_seen rows) (rows_seen columns) in
    let numbers : List ℕ = places (length rows) in
    let g : ℕ → Row = λ i. map (λ t. value_on t (B i)) ts in
    sym (length-map cells meaning) ∙ ap length listed ∙ ap (λ l. length (flat_map g l))
    (take_all n numbers (omega (arith, h, length-places 0 (length rows))))
    ∙ laid_length w g numbers (wide ts w B numbers long) ∙ ap (λ k. k * w) (length-places 0 (length rows))
