-- The numbers of rows among those that are kept.
use Rattle.std.proofs.Common.{◌≡◌, ℕ, zero, suc, ◌+◌, ◌<◌, ◌≤◌, ◌^◌, Bool, true, false, cond, List, [], ◌∷◌, ◌++◌, length, map, filter}
use Rattle.std.proofs.Common.{take, get_or, min, nat_lt, Option, Some, None, Ok, Vec, Global, length-append, refl, sym, ap, ◌∙◌, arith}
use Rattle.std.proofs.lemmas.Bool.Decides.{nat_tests}
use Rattle.std.specs.Prelude.{All}
use Rattle.std.specs.List.{AllByRecursion, list_any}
use Rattle.std.proofs.lemmas.List.{append_assoc, map-append, take_more}
use Rattle.std.proofs.lemmas.List.Elements.{recursion_from_All}
use Rattle.wplan.specs.Formula.{Formula}
use Rattle.wrows.specs.declared.fault.AnswerFault.TheVariants.{OutOfRange, TooManyRows}
use Rattle.wrows.specs.Outcomes.{unless}
use Rattle.wrows.specs.Columns.{Row, held_rows, holds_on, is_out_of_range, not_too_many}
use Rattle.wrows.specs.Laid.{row_seen, rows_seen}
use Rattle.std.proofs.lemmas.List.{length-map}
use Rattle.wruns.specs.Orderings.{kept_before, kept_numbers, number_of}
use Rattle.wruns.specs.Runs.{joined}
use Rattle.wruns.specs.declared.refs.RowRef.{RowRef}
use Rattle.wtable.specs.TableOrders.{AreNumbers, IsNumbered, IsOrderFor, IsRowOf, RowOrder, all_present, holds_by, left_out}
use Rattle.wtable.specs.TableOrders.{number_among, number_in, number_kept, numbers_kept, presorted_numbers, starts_from}
use Rattle.wvalues.specs.Names.{NameParts}
use Rattle.wsegment.specs.Rows.{Content}
use Rattle.wtable.proofs.HeldFacts.{rows_left}
use Rattle.wtable.specs.declared.numbered_rows.NumberedRows.{NumberedRows}

-- the numbers of rows, and of those behind them
pub numbers_append : (p : Row → Bool) (n : ℕ) (xs ys : List Row) → numbers_kept p n (xs ++ ys) ≡ numbers_kept p n xs
    ++ numbers_kept p (n + length (filter p xs)) ys
numbers_append p n [] ys = ap (λ k. numbers_kept p k ys) (omega arith)
numbers_append p n (x ∷ xs) ys = go (p x) (numbers_append p (n + 1) xs ys) (numbers_append p n xs ys)
  where
    go : (b : Bool) → numbers_kept p (n + 1) (xs ++ ys) ≡ numbers_kept p (n + 1) xs ++ numbers_kept p
        (n + 1 + length (filter p xs)) ys → numbers_kept p n (xs ++ ys) ≡ numbers_kept p n xs ++ numbers_kept p
        (n + length (filter p xs)) ys
        → cond b (min n left_out ∷ numbers_kept p (n + 1) (xs ++ ys)) (left_out ∷ numbers_kept p n (xs ++ ys))
        ≡ cond b (min n left_out ∷ numbers_kept p (n + 1) xs) (left_out ∷ numbers_kept p n xs) ++ numbers_kept p
        (n + length (cond b (x ∷ filter p xs) (filter p xs))) ys
    go true up stay =
        let e : n + 1 + length (filter p xs) ≡ n + suc (length (filter p xs)) = omega arith in
        ap (λ l. min n left_out ∷ l) (up ∙ ap (λ k. numbers_kept p (n + 1) xs ++ numbers_kept p k ys) e)
    go false up stay = ap (λ l. left_out ∷ l) stay

pub numbers_long : (p : Row → Bool) (n : ℕ) (xs : List Row) → length (numbers_kept p n xs) ≡ length xs
numbers_long p n [] = refl
numbers_long p n (x ∷ xs) = elim (p x) as (λ b. length (cond b (min n left_out ∷ numbers_kept p (n + 1) xs)
    (left_out ∷ numbers_kept p n xs)) ≡ suc (length xs)) [
      | true ↦ ap suc (numbers_long p (n + 1) xs)
      | false ↦ ap suc (numbers_long p n xs)
    ]

-- the number at a place
number_at : (p : Row → Bool) (n : ℕ) (xs : List Row) (i d : ℕ) → i < length xs → get_or (numbers_kept p n xs) i d
    ≡ cond (p (get_or xs i [])) (min (n + length (filter p (take i xs))) left_out) left_out
number_at p n [] i d h = absurd (omega arith)
number_at p n (x ∷ xs) zero d h =
    let e : n + 0 ≡ n = omega arith in
    elim (p x) as (λ b. get_or (cond b (min n left_out ∷ numbers_kept p (n + 1) xs) (left_out ∷ numbers_kept p n xs)) 0 d
    ≡ cond b (min (n + 0) left_out) left_out) [ true ↦ ap (λ k. min k left_out) (sym e) | false ↦ refl ]
number_at p n (x ∷ xs) (suc i) d h = go (p x) (number_at p (n + 1) xs i d (omega arith)) (number_at p n xs i d (omega arith))
  where
    go : (b : Bool) → get_or (numbers_kept p (n + 1) xs) i d ≡ cond (p (get_or xs i []))
        (min (n + 1 + length (filter p (take i xs))) left_out) left_out → get_or (numbers_kept p n xs) i d
        ≡ cond (p (get_or xs i [])) (min (n + length (filter p (take i xs))) left_out) left_out
        → get_or (cond b (min n left_out ∷ numbers_kept p (n + 1) xs) (left_out ∷ numbers_kept p n xs)) (suc i) d
        ≡ cond (p (get_or xs i [])) (min (n + length (cond b (x ∷ filter p (take i xs)) (filter p (take i xs)))) left_out) left_out
    go true up stay =
        let e : n + 1 + length (filter p (take i xs)) ≡ n + suc (length (filter p (take i xs))) = omega arith in
        up ∙ ap (λ k. cond (p (get_or xs i [])) (min k left_out) left_out) e
    go false up stay = stay

-- where the rows of a segment begin
start_at : (n : ℕ) (segments : List (List Row)) (s : ℕ) → s < length segments → get_or (starts_from n segments) s 0
    ≡ n + length (joined (take s segments))
start_at n [] s h = absurd (omega arith)
start_at n (rows ∷ more) zero h = omega arith
start_at n (rows ∷ more) (suc s) h =
    let long : length (rows ++ joined (take s more)) ≡ length rows + length (joined (take s more)) =
    length-append rows (joined (take s more)) in
    start_at (n + length rows) more s (omega arith) ∙ omega (arith, long)

-- a row of a segment is one of all
pub row_below : (segments : List (List Row)) (s row : ℕ) → s < length segments → row < length (get_or segments s [])
    → length (joined (take s segments)) + row < length (joined segments)
row_below [] s row h k = absurd (omega arith)
row_below (rows ∷ more) zero row h k = omega (arith, k, length-append rows (joined more))
row_below (rows ∷ more) (suc s) row h k =
    omega (arith, row_below more s row (omega arith) k, length-append rows (joined more), length-append rows (joined (take s more)))

pub starts_append : (n : ℕ) (front rest : List (List Row)) → starts_from n (front ++ rest) ≡ starts_from n front
    ++ starts_from (n + length (joined front)) rest
starts_append n [] rest = ap (λ k. starts_from k rest) (omega arith)
starts_append n (rows ∷ front) rest =
    let long : length (rows ++ joined front) ≡ length rows + length (joined front) = length-append rows (joined front) in
    let e : n + length rows + length (joined front) ≡ n + length (rows ++ joined front) = omega (arith, long) in
    ap (λ l. n ∷ l) (starts_append (n + length rows) front rest ∙ ap (λ k. starts_from (n + length rows) front ++ starts_from k rest) e)

pub all_filtered : (rows : List Row) → filter (holds_by None) rows ≡ rows
all_filtered [] = refl
all_filtered (row ∷ rows) = ap (λ l. row ∷ l) (all_filtered rows)

pub length_taken : {X : Type 0} (n : ℕ) (xs : List X) → n ≤ length xs → length (take n xs) ≡ n
length_taken zero xs h = refl
length_taken (suc n) [] h = absurd (omega arith)
length_taken (suc n) (x ∷ xs) h = ap suc (length_taken n xs (omega arith))

-- kept before are at most all that are kept
kept_few : (p : Row → Bool) (i : ℕ) (rows : List Row) → length (filter p (take i rows)) ≤ length (filter p rows)
kept_few p zero rows = omega arith
kept_few p (suc i) [] = omega arith
kept_few p (suc i) (row ∷ rows) = elim (p row) as (λ b. length (cond b (row ∷ filter p (take i rows))
    (filter p (take i rows))) ≤ length (cond b (row ∷ filter p rows) (filter p rows))) [
      | true ↦ omega
          (arith, kept_few p i rows)
      | false ↦ kept_few p i rows
    ]

below_left_out : (n : ℕ) → n < left_out → nat_lt n left_out ≡ true
below_left_out n h = grind (arith, nat_tests, h)

not_left_out : nat_lt left_out left_out ≡ false
not_left_out = refl

-- one number, if its row is kept
one_number : (condition : Option Formula) (rows : List Row) (numbers : Option (Vec ℕ Global)) (i : ℕ)
    → AreNumbers condition rows numbers → length (filter (holds_by condition) rows) < left_out → i < length rows
    → number_among numbers i ≡ cond (holds_by condition (get_or rows i [])) (Some (kept_before (holds_by condition) rows i)) None
one_number None rows None i are few h =
    let all : kept_before (holds_by None) rows i ≡ i = ap length (all_filtered (take i rows)) ∙ length_taken i rows (omega arith) in
    ap Some (sym all)
one_number None rows (Some numbers) i are few h = absurd are
one_number (Some t) rows None i are few h = absurd are
one_number (Some t) rows (Some numbers) i are few h =
    ap (λ l. number_kept (get_or l i left_out)) are ∙ ap number_kept (number_at (holds_on t) 0 rows i left_out h)
    ∙ go (holds_on t (get_or rows i []))
  where
    kept : ℕ
    kept = length (filter (holds_on t) (take i rows))

    go : (b : Bool) → number_kept (cond b (min (0 + kept) left_out) left_out) ≡ cond b (Some kept) None
    go true =
        let small : kept < left_out = omega (arith, kept_few (holds_on t) i rows, few) in
        let e : min (0 + kept) left_out ≡ kept = omega (arith, small) in
        ap number_kept e ∙ ap (λ b. cond b (Some kept) None) (below_left_out kept small)
    go false = ap (λ b. cond b (Some left_out) None) not_left_out

-- the numbers that are stored are those of the kept rows
module _ (condition : Option Formula) (segments : List (List Row)) (kept : NumberedRows) (is : IsNumbered condition segments kept) where
  abbrev all_rows : List Row
  all_rows = joined segments

  few_kept : length (filter (holds_by condition) all_rows) < left_out
  few_kept = omega (arith, is.few, length-map kept.rows.items row_seen, ap length is.rows)

  same_number : (r : RowRef) → IsRowOf segments r → number_in kept.starts.items r ≡ number_of segments r
  same_number r w =
      let start : get_or kept.starts.items r.segment 0 ≡ length (joined (take r.segment segments)) =
      ap (λ l. get_or l r.segment 0) is.starts ∙ start_at 0 segments r.segment w.segment ∙ omega arith in
      omega (arith, start, row_below segments r.segment r.row w.segment w.row, is.fit)

  presorted_all : (refs : List RowRef) → AllByRecursion (IsRowOf segments) refs
      → presorted_numbers kept refs ≡ kept_numbers (holds_by condition) segments refs
  presorted_all [] all = refl
  presorted_all (r ∷ refs) all =
      ap (λ o. all_present (o ∷ map (λ r. number_among kept.numbers (number_in kept.starts.items r)) refs))
      (ap (number_among kept.numbers) (same_number r all.0) ∙ one_number condition all_rows kept.numbers
      (number_of segments r) is.numbers few_kept (row_below segments r.segment r.row all.0.segment all.0.row))
      ∙ go (holds_by condition (get_or all_rows (number_of segments r) [])) (presorted_all refs all.1)
    where
      n : ℕ
      n = number_of segments r

      rest : List ℕ
      rest = filter (λ i. holds_by condition (get_or all_rows i [])) (map (number_of segments) refs)

      go : (b : Bool) → presorted_numbers kept refs ≡ map (kept_before (holds_by condition) all_rows) rest
          → all_present (cond b (Some (kept_before (holds_by condition) all_rows n)) None ∷ map
          (λ r. number_among kept.numbers (number_in kept.starts.items r)) refs)
          ≡ map (kept_before (holds_by condition) all_rows) (cond b (n ∷ rest) rest)
      go true e = ap (λ l. kept_before (holds_by condition) all_rows n ∷ l) e
      go false e = e

  pub numbers_are : (refs : List RowRef) → All (IsRowOf segments) refs
      → presorted_numbers kept refs ≡ kept_numbers (holds_by condition) segments refs
  numbers_are refs all = presorted_all refs (recursion_from_All (IsRowOf segments) refs all)

-- those that there are, and one more
pub present_more : {X : Type 0} (xs : List (Option X)) (o : Option X) → all_present (xs ++ o ∷ []) ≡ all_present xs ++ all_present (o ∷ [])
present_more [] o = sym (nothing (all_present (o ∷ [])))
  where
    nothing : {X : Type 0} (l : List X) → [] ++ l ≡ l
    nothing l = refl
present_more (None ∷ xs) o = present_more xs o
present_more (Some x ∷ xs) o = ap (λ l. x ∷ l) (present_more xs o)

-- the rows of one segment more are numbered
pub numbers_left : (p : Row → Bool) (before after : ℕ) (numbers more : List ℕ) (all : List Row)
    (segments left : List (NameParts × Content)) (e : NameParts × Content) → segments ≡ e ∷ left
    → numbers ++ numbers_kept p before (rows_left segments) ≡ numbers_kept p 0 all
    → more ≡ numbers ++ numbers_kept p before e.1.rows → after ≡ before + length (filter p e.1.rows)
    → more ++ numbers_kept p after (rows_left left) ≡ numbers_kept p 0 all
numbers_left p before after numbers more all segments left e is so_far pushed grown =
    ap (λ l. l ++ numbers_kept p after (rows_left left)) pushed ∙ append_assoc numbers (numbers_kept p before e.1.rows)
    (numbers_kept p after (rows_left left))
    ∙ ap (λ k. numbers ++ (numbers_kept p before e.1.rows ++ numbers_kept p k (rows_left left))) grown
    ∙ ap (λ l. numbers ++ l) (sym (numbers_append p before e.1.rows (rows_left left)))
    ∙ ap (λ l. numbers ++ numbers_kept p before (rows_left l)) (sym is) ∙ so_far

-- one segment more begins
pub starts_left : (first next : ℕ) (starts more whole : List ℕ) (segments left : List (NameParts × Content)) (e : NameParts
    × Content) → segments ≡ e ∷ left → starts ++ starts_from first (map (λ e. e.1.rows) segments) ≡ whole
    → more ≡ starts ++ first ∷ [] → next ≡ first + length e.1.rows → more ++ starts_from next (map (λ e. e.1.rows) left) ≡ whole
starts_left first next starts more whole segments left e is so_far pushed grown =
    ap (λ l. l ++ starts_from next (map (λ e. e.1.rows) left)) pushed ∙ append_assoc starts (first ∷ [])
    (starts_from next (map (λ e. e.1.rows) left))
    ∙ ap (λ k. starts ++ first ∷ starts_from k (map (λ e. e.1.rows) left)) grown
    ∙ ap (λ l. starts ++ starts_from first (map (λ e. e.1.rows) l)) (sym is) ∙ so_far

-- how many are held and numbered
pub held_grown : (p : Row → Bool) (before after rows : List Row) (n m : ℕ) → n ≡ length before → m ≡ length after
    → after ≡ before ++ filter p rows → m ≡ n + length (filter p rows)
held_grown p before after rows n m hn hm e = omega (arith, hn, hm, ap length e, length-append before (filter p rows))

pub numbered_grown : (p : Row → Bool) (before after : List ℕ) (n : ℕ) (rows : List Row)
    → after ≡ before ++ numbers_kept p n rows → length after ≡ length before + length rows
numbered_grown p before after n rows e = omega (arith, ap length e, length-append before (numbers_kept p n rows), numbers_long p n rows)

-- the number of one row
pub one_numbered : (b : Bool) (before with : ℕ) → with ≡ cond b (before + 1) before
    → cond (nat_lt before with) (min before left_out) left_out ∷ [] ≡ cond b (min before left_out ∷ []) (left_out ∷ [])
one_numbered true before with e = let less : nat_lt before with ≡ true = grind (arith, nat_tests, e) in
    ap (λ b. cond b (min before left_out) left_out ∷ []) less
one_numbered false before with e = let same : nat_lt before with ≡ false = grind (arith, nat_tests, e) in
    ap (λ b. cond b (min before left_out) left_out ∷ []) same

-- one row more of a segment is numbered
pub numbers_more : (p : Row → Bool) (old before after : List ℕ) (n m : ℕ) (stored : List Row) (i : ℕ) (row : Row)
    → i < length stored → row ≡ get_or stored i [] → before ≡ old ++ numbers_kept p n (take i stored)
    → after ≡ before ++ numbers_kept p m (row ∷ []) → m ≡ n + length (filter p (take i stored))
    → after ≡ old ++ numbers_kept p n (take (i + 1) stored)
numbers_more p old before after n m stored i row h e so_far more grown =
    more ∙ ap (λ l. l ++ numbers_kept p m (row ∷ [])) so_far ∙ append_assoc old (numbers_kept p n (take i stored))
    (numbers_kept p m (row ∷ []))
    ∙ ap (λ r. old ++ (numbers_kept p n (take i stored) ++ numbers_kept p m (r ∷ []))) e
    ∙ ap (λ k. old ++ (numbers_kept p n (take i stored) ++ numbers_kept p k (get_or stored i [] ∷ []))) grown
    ∙ ap (λ l. old ++ l) (sym (numbers_append p n (take i stored) (get_or stored i [] ∷ [])))
    ∙ ap (λ l. old ++ numbers_kept p n l) (sym (take_more stored i [] h))

-- the number of one row more
pub presorted_more : (f : RowRef → Option ℕ) (rows : List RowRef) (i : ℕ) (d : RowRef) (before after : List ℕ)
    (o : Option ℕ) → i < length rows → before ≡ all_present (map f (take i rows)) → o ≡ f (get_or rows i d)
    → after ≡ before ++ all_present (o ∷ []) → after ≡ all_present (map f (take (i + 1) rows))
presorted_more f rows i d before after o h so_far is more =
    more ∙ ap (λ l. l ++ all_present (o ∷ [])) so_far ∙ ap (λ x. all_present (map f (take i rows)) ++ all_present (x ∷ [])) is
    ∙ sym (present_more (map f (take i rows)) (f (get_or rows i d)))
    ∙ ap all_present (sym (map-append f (take i rows) (get_or rows i d ∷ [])))
    ∙ ap (λ l. all_present (map f l)) (sym (take_more rows i d h))

-- as many more as are appended
pub appended_long : {X Y : Type 0} (f : X → Y) (before after : List X) (rows : List Y) → map f after ≡ map f before ++ rows
    → length after ≡ length before + length rows
appended_long f before after rows e = omega (arith, length-map before f, length-map after f, ap length e, length-append (map f before) rows)

-- the rows that are held, as a filter
pub held_is : (condition : Option Formula) (rows kept : List Row) → held_rows condition rows ≡ Ok kept
    → kept ≡ filter (holds_by condition) rows
held_is None rows kept e = let same : rows ≡ kept = cc in sym same ∙ sym (all_filtered rows)
held_is (Some t) rows kept e = go (list_any (is_out_of_range t) rows) e
  where
    go : (b : Bool) → unless b OutOfRange (filter (holds_on t) rows) ≡ Ok kept → kept ≡ filter (holds_on t) rows
    go true h = absurd (cc)
    go false h = let same : filter (holds_on t) rows ≡ kept = cc in sym same

-- rows that are not too many
pub few_is : (rows kept : List Row) → not_too_many rows ≡ Ok kept → (kept ≡ rows) × (length kept < 2 ^ 31)
few_is rows kept e = go (nat_lt 2147483647 (length rows)) refl e
  where
    go : (b : Bool) → nat_lt 2147483647 (length rows) ≡ b → unless b TooManyRows rows ≡ Ok kept → (kept ≡ rows) × (length kept < 2 ^ 31)
    go true t h = absurd (cc)
    go false t h =
        let same : rows ≡ kept = cc in
        let few : length rows ≤ 2147483647 = grind (arith, nat_tests, t) in
        (sym same, omega (arith, few, ap length same))

-- an order of all rows tells the order of the kept ones
pub order_presorted : (condition : Option Formula) (segments : List (List Row)) (kept : NumberedRows)
    → IsNumbered condition segments kept → (order : RowOrder) (refs : List RowRef) → IsOrderFor segments order refs
    → order (rows_seen kept.rows.items) ≡ Ok (presorted_numbers kept refs)
order_presorted condition segments kept is order refs of =
    ap order is.rows ∙ of.orders (holds_by condition) ∙ ap Ok (sym (numbers_are condition segments kept is refs of.within))
