-- Values at places, which of them are texts, and items that are read of the rows that are asked for alone.
use Rattle.std.proofs.Common.{◌≡◌, ℕ, zero, suc, ◌<◌, ◌||◌, ◌+◌, ◌-◌, ◌≤◌, Bool, true, false, true≢false, List, [], ◌∷◌, ◌++◌, length}
use Rattle.std.proofs.Common.{map, take, drop, get_or, Option, None, Some, Result, Ok, Err, refl, sym, ap, subst, ◌∙◌, arith}
use Rattle.std.specs.Prelude.{All, IfSome, slice_range}
use Rattle.std.specs.Borrow.{Bor}
use Rattle.std.specs.List.{AllByRecursion, flat_map, list_any}
use Rattle.std.proofs.lemmas.Grind.{flat_map-append}
use Rattle.std.proofs.lemmas.List.{append_assoc, get_or-map, length-map}
use Rattle.std.proofs.lemmas.List.Elements.{All-from_recursion, recursion_from_All}
use Rattle.wvalues.specs.declared.key.SortKey.{SortKey}
use Rattle.wvalues.specs.declared.value.Value.{Value}
use Rattle.wvalues.specs.Meaning.{Meaning, Null, meaning}
use Rattle.wframe.specs.Peers.{key_at}
use Rattle.wframe.specs.Places.{places}
use Rattle.wplan.specs.declared.expr.Expr.{Expr}
use Rattle.wplan.specs.Formula.{Formula, At}
use Rattle.wrows.specs.declared.fault.AnswerFault.{AnswerFault}
use Rattle.wrows.specs.declared.fault.AnswerFault.TheVariants.{OutOfRange}
use Rattle.wrows.specs.Outcomes.{◌>>=◌, unless}
use Rattle.wrows.specs.Columns.{Row, beside, is_out_of_range, lists_of, value_at, value_on}
use Rattle.wsort.specs.LaidRows.{laid}
use Rattle.wrows.specs.Laid.{formula_seen, formulas_seen, row_seen, rows_seen}
use Rattle.wrows.specs.Plain.{cut, numbers_by, ordered, ordered_of}
use Rattle.wrows.specs.Picked.{asked_of, picked, row_beside}
use Rattle.wrows.proofs.BesideFacts.{place_is}
use Rattle.wcodes.proofs.NumberFacts.{all_rows}
use Rattle.wrows.proofs.RowFacts.{all_of_each, length-places, map-cut, map-map}

pub answer_is : (columns : List (Bor (List Value))) (row number : ℕ) (column : Bor (List Value)) → number < length columns
    → column ≡ get_or columns number column → value_at (map meaning column.now) row
    ≡ value_at (map (λ column. value_at column row) (rows_seen columns)) number
answer_is columns row number column h e =
    ap (λ (b : Bor (List Value)). value_at (row_seen b) row) e
    ∙ ap (λ r. value_at r row) (sym (get_or-map row_seen columns number column [] h))
    ∙ sym (get_or-map (λ c. value_at c row) (rows_seen columns) number [] Null (omega (arith, h, length-map columns row_seen)))

pub picked_wide : (ps : List ℕ) (rows : List Row) (columns : List (List Meaning)) (numbers : List ℕ)
    → AllByRecursion (λ i. length (picked ps rows columns i) ≡ length ps) numbers
picked_wide ps rows columns numbers = all_of_each (λ i. length (picked ps rows columns i) ≡ length ps)
    (λ i. length-map ps (value_at (row_beside rows columns i))) numbers

-- plain columns are out of range on no row
none_in_range : (ps : List ℕ) (row : Row) → list_any (λ t. is_out_of_range t row) (map At ps) ≡ false
none_in_range [] row = refl
none_in_range (p ∷ ps) row = none_in_range ps row

none_at_fault : (ps : List ℕ) (rows : List Row) → list_any (λ row. list_any (λ t. is_out_of_range t row) (map At ps)) rows ≡ false
none_at_fault ps [] = refl
none_at_fault ps (row ∷ rows) = ap (λ b. b || list_any (λ row. list_any (λ t. is_out_of_range t row) (map At ps)) rows)
    (none_in_range ps row) ∙ none_at_fault ps rows

values_of_all : (ps : List ℕ) (rows : List Row) → map (λ row. map (λ t. value_on t row) (map At ps)) rows
    ≡ map (λ row. map (value_at row) ps) rows
values_of_all ps [] = refl
values_of_all ps (row ∷ rows) = ap (λ r. r ∷ map (λ row. map (λ t. value_on t row) (map At ps)) rows)
    (map-map (λ t. value_on t row) At ps) ∙ ap (λ l. map (value_at row) ps ∷ l) (values_of_all ps rows)

pub plain_lists : (ps : List ℕ) (rows : List Row) → lists_of (map At ps) rows ≡ Ok (map (λ row. map (value_at row) ps) rows)
plain_lists ps rows =
    ap (λ b. unless b OutOfRange (map (λ row. map (λ t. value_on t row) (map At ps)) rows)) (none_at_fault ps rows)
    ∙ ap Ok (values_of_all ps rows)

-- of all rows with columns beside them, by number
pub picked_lists : (ps : List ℕ) (rows columns : List (Bor (List Value)))
    → lists_of (map At ps) (beside (rows_seen rows) (rows_seen columns))
    ≡ Ok (map (picked ps (rows_seen rows) (rows_seen columns)) (places (length rows)))
picked_lists ps rows columns =
    plain_lists ps (beside (rows_seen rows) (rows_seen columns))
    ∙ ap Ok (map-map (λ row. map (value_at row) ps) (row_beside (rows_seen rows) (rows_seen columns)) (places (length (rows_seen rows))))
    ∙ ap (λ n. Ok (map (picked ps (rows_seen rows) (rows_seen columns)) (places n))) (length-map rows row_seen)

-- where all rows are picked
pub all_picked : (ps : List ℕ) (rows columns : List (Bor (List Value))) (numbers : List ℕ) (cells : List Value)
    → numbers ≡ places (length rows) → laid (length ps) (length numbers) cells
    ≡ map (picked ps (rows_seen rows) (rows_seen columns)) numbers
    → lists_of (map At ps) (beside (rows_seen rows) (rows_seen columns)) ≡ Ok (laid (length ps) (length rows) cells)
all_picked ps rows columns numbers cells e listed =
    picked_lists ps rows columns
    ∙ ap (λ l. Ok (map (picked ps (rows_seen rows) (rows_seen columns)) l)) (sym e)
    ∙ ap Ok (sym listed)
    ∙ ap (λ n. Ok (laid (length ps) n cells)) (ap length e ∙ length-places 0 (length rows))

-- expressions that are plain columns
pub lent_lists : (exprs : List (Bor Expr)) (ps : List ℕ) (rows : List Row) (n : ℕ) (cells : List Value)
    → formulas_seen exprs ≡ map At ps → lists_of (map At ps) rows ≡ Ok (laid (length ps) n cells)
    → lists_of (formulas_seen exprs) rows ≡ Ok (laid (length exprs) n cells)
lent_lists exprs ps rows n cells e listed =
    ap (λ ts. lists_of ts rows) e ∙ listed
    ∙ ap (λ w. Ok (laid w n cells)) (sym (length-map ps At) ∙ ap length (sym e) ∙ length-map exprs formula_seen)

pub plain_count : (exprs : List (Bor Expr)) (ps : List ℕ) → formulas_seen exprs ≡ map At ps → length ps ≡ length exprs
plain_count exprs ps e = sym (length-map ps At) ∙ ap length (sym e) ∙ length-map exprs formula_seen

map-same : {X Y : Type 0} (f g : X → Y) → ((x : X) → f x ≡ g x) → (xs : List X) → map f xs ≡ map g xs
map-same f g same [] = refl
map-same f g same (x ∷ xs) = ap (λ y. y ∷ map f xs) (same x) ∙ ap (λ l. g x ∷ l) (map-same f g same xs)

nothing_behind : {X : Type 0} (xs : List X) → xs ++ [] ≡ xs
nothing_behind [] = refl
nothing_behind (x ∷ xs) = ap (λ l. x ∷ l) (nothing_behind xs)

-- rows with no column beside them
pub beside_none : (rows : List Row) → beside rows [] ≡ rows
beside_none rows = map-same (λ i. key_at rows i ++ []) (key_at rows) (λ i. nothing_behind (key_at rows i))
    (places (length rows)) ∙ all_rows rows

pub no_columns : (columns : List (Bor (List Value))) → length columns ≡ 0 → columns ≡ []
no_columns [] h = refl
no_columns (x ∷ xs) h = absurd (omega arith)

-- values of rows of which each is there
pub picked_at : (g : ℕ → Row) (n : ℕ) (numbers : List ℕ) → AllByRecursion (λ i. i < n) numbers
    → map g numbers ≡ map (key_at (map g (places n))) numbers
picked_at g n [] all = refl
picked_at g n (i ∷ numbers) all =
    let h : i < length (places n) = omega (arith, all.0, length-places 0 n) in
    ap (λ r. r ∷ map g numbers) (ap g (place_is n i all.0) ∙ sym (get_or-map g (places n) i i [] h))
    ∙ ap (λ l. key_at (map g (places n)) i ∷ l) (picked_at g n numbers all.1)

pub all_taken : {X : Type 0} (P : X → Type 0) (n : ℕ) (xs : List X) → AllByRecursion P xs → AllByRecursion P (take n xs)
all_taken P zero xs all = tt
all_taken P (suc n) [] all = tt
all_taken P (suc n) (x ∷ xs) all = (all.0, all_taken P n xs all.1)

all_dropped : {X : Type 0} (P : X → Type 0) (n : ℕ) (xs : List X) → AllByRecursion P xs → AllByRecursion P (drop n xs)
all_dropped P zero xs all = all
all_dropped P (suc n) [] all = tt
all_dropped P (suc n) (x ∷ xs) all = all_dropped P n xs all.1

all_of_cut : (P : ℕ → Type 0) (offset : ℕ) (limit : Option ℕ) (xs : List ℕ) → AllByRecursion P xs → AllByRecursion P (cut offset limit xs)
all_of_cut P offset None xs all = all_dropped P offset xs all
all_of_cut P offset (Some limit) xs all = all_taken P limit (drop offset xs) (all_dropped P offset xs all)

pub cut_below : (n offset : ℕ) (limit : Option ℕ) (xs : List ℕ) → All (λ i. i < n) xs → All (λ i. i < n) (cut offset limit xs)
cut_below n offset limit xs all = All-from_recursion (λ i. i < n) (cut offset limit xs)
    (all_of_cut (λ i. i < n) offset limit xs (recursion_from_All (λ i. i < n) xs all))

abbrev numbers_in : Result (List ℕ) AnswerFault → List ℕ
numbers_in (Ok numbers) = numbers
numbers_in (Err fault) = []

module _ (order : List SortKey) (offset : ℕ) (limit : Option ℕ) (listed : List Row) where
  abbrev asked : ℕ → Result (List (List Meaning)) AnswerFault → Result (List ℕ) AnswerFault
  asked n by = by >>= λ by. Ok (cut offset limit (numbers_by order by n))

  abbrev answer : Result (List (List Meaning)) AnswerFault → Result (List Row) AnswerFault
  answer by = by >>= λ by. Ok (cut offset limit (ordered order by listed))

  found : (n : ℕ) (numbers : List ℕ) (by : Result (List (List Meaning)) AnswerFault) → length listed ≡ n
      → asked n by ≡ Ok numbers → answer by ≡ Ok (map (key_at listed) numbers)
  found n numbers (Ok by) long e =
      ap Ok (sym (map-cut (key_at listed) offset limit (numbers_by order by (length listed)))
      ∙ ap (λ k. map (key_at listed) (cut offset limit (numbers_by order by k))) long ∙ ap (map (key_at listed)) (ap numbers_in e))
  found n numbers (Err fault) long e = absurd (cc)

-- the items of the rows that are asked for, read behind the sort
pub items_asked : (ts ks : List Formula) (order : List SortKey) (offset : ℕ) (limit : Option ℕ) (rows listed : List Row)
    (numbers : List ℕ) → lists_of ts rows ≡ Ok listed → length listed ≡ length rows → asked_of ks order offset limit rows ≡ Ok numbers
    → ordered_of ts ks order offset limit rows ≡ Ok (map (key_at listed) numbers)
items_asked ts ks order offset limit rows listed numbers e long h =
    ap (λ r. r >>= λ listed. answer order offset limit listed (lists_of ks rows)) e
    ∙ found order offset limit listed (length rows) numbers (lists_of ks rows) long h

pub beside_long : (rows columns : List (Bor (List Value))) → length (beside (rows_seen rows) (rows_seen columns)) ≡ length rows
beside_long rows columns = length-map (places (length (rows_seen rows))) (row_beside (rows_seen rows) (rows_seen columns))
    ∙ length-places 0 (length (rows_seen rows)) ∙ length-map rows row_seen

pub of_some : {X : Type 0} (P : X → Type 0) (o : Option X) (x : X) → o ≡ Some x → IfSome o P → P x
of_some {X = X} P o x e h =
    let Q : Option X → Type 0 = λ o. IfSome o P in
    subst Q e h

-- the front of a list, and what stands behind it
pub front_more : {X : Type 0} (n m : ℕ) (xs : List X) → take n xs ++ take m (drop n xs) ≡ take (n + m) xs
front_more zero m xs = let e : m ≡ 0 + m = omega arith in ap (λ k. take k xs) e
front_more (suc n) zero [] = let e : suc n ≡ suc n + 0 = omega arith in ap (λ k. take k []) e
front_more (suc n) (suc m) [] = let e : suc (n + suc m) ≡ suc n + suc m = omega arith in ap (λ k. take k []) e
front_more (suc n) m (x ∷ xs) = let e : suc (n + m) ≡ suc n + m = omega arith in ap (λ l. x ∷ l) (front_more n m xs)
    ∙ ap (λ k. take k (x ∷ xs)) e

-- what the front of a list gives, and what stands behind it
pub flat_more : {X Y : Type 0} (f : X → List Y) (before : List Y) (n next : ℕ) (xs : List X) → n ≤ next
    → (before ++ flat_map f (take n xs)) ++ flat_map f (slice_range xs n next) ≡ before ++ flat_map f (take next xs)
flat_more f before n next xs h =
    let e : n + (next - n) ≡ next = omega (arith, h) in
    append_assoc before (flat_map f (take n xs)) (flat_map f (slice_range xs n next))
    ∙ ap (λ l. before ++ l) (sym (flat_map-append f (take n xs) (slice_range xs n next))
    ∙ ap (flat_map f) (front_more n (next - n) xs ∙ ap (λ k. take k xs) e))

neither : (a b : Bool) → (a || b) ≡ false → (a ≡ false) × (b ≡ false)
neither true b e = absurd (true≢false e)
neither false b e = (refl, e)

-- what holds of no element does not hold of the one at a place
none_at : {X : Type 0} (f : X → Bool) (xs : List X) (k : ℕ) (d : X) → k < length xs → list_any f xs ≡ false → f (get_or xs k d) ≡ false
none_at f [] k d h e = absurd (omega arith)
none_at f (x ∷ xs) zero d h e = let both = neither (f x) (list_any f xs) e in both.0
none_at f (x ∷ xs) (suc k) d h e = let both = neither (f x) (list_any f xs) e in none_at f xs k d (omega arith) both.1

-- what holds of no row at any place does not hold of one row at any place
pub none_of_row : (f : ℕ → ℕ → Bool) (ps numbers : List ℕ) (k : ℕ) → k < length numbers
    → list_any (λ p. list_any (f p) numbers) ps ≡ false → list_any (λ p. f p (get_or numbers k 0)) ps ≡ false
none_of_row f [] numbers k h e = refl
none_of_row f (p ∷ ps) numbers k h e =
    let both = neither (list_any (f p) numbers) (list_any (λ p. list_any (f p) numbers) ps) e in
    ap (λ b. b || list_any (λ p. f p (get_or numbers k 0)) ps) (none_at (f p) numbers k 0 h both.0) ∙ none_of_row f ps numbers k h both.1
