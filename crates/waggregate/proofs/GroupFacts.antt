-- Folds of groups, one row after another, and what they come to.
use Rattle.std.proofs.Common.{◌≡◌, ◌≢◌, ℕ, zero, suc, pos, ◌+◌, ◌<◌, ◌≤◌, ◌^◌, ◌==◌, ◌⊎◌, inl, inr, Bool, true, false}
use Rattle.std.proofs.Common.{cond, eqb, List, [], ◌∷◌, ◌++◌, length, map, filter, fold, get_or, slice_set, take, Vec}
use Rattle.std.proofs.Common.{Global, Option, Some, None, Ordering, Result, Ok, Err, subst, refl, sym, ap, ◌∙◌, arith}
use Rattle.std.specs.Prelude.{All, unwrap_or}
use Rattle.std.specs.List.{AllByRecursion, list_any}
use Rattle.std.specs.Option.{is_none}
use Rattle.std.specs.Cmp.{IsTotalOrder}
use Rattle.std.proofs.lemmas.Bool.Decides.{eqb_tells}
use Rattle.std.proofs.lemmas.List.{append-nil, get_or-map, length-map, map-append, take_more}
use Rattle.std.proofs.lemmas.List.Elements.{filter-append, recursion_from_All}
use Rattle.std.proofs.lemmas.List.Sums.{count_by-le-length, fold_push, length-filter}
use Rattle.wvalues.specs.Meaning.{Meaning, Null, Int, meaning}
use Rattle.wvalues.specs.declared.value.Value.{Value}
use Rattle.wframe.specs.Places.{places, places_from}
use Rattle.wframe.specs.Sorting.{sorted}
use Rattle.wslide.specs.Aggregates.{count_of, count_of_rows, fed, is_value, sum_of, IsInRange}
use Rattle.wslide.specs.Counts.{counts_joined, count_at}
use Rattle.wslide.specs.Laws.{rows_fold}
use Rattle.wslide.specs.Leasts.{leasts_joined, place_at}
use Rattle.wslide.specs.Sums.{sum_part, sums_joined}
use Rattle.wplan.specs.declared.resolved.AggregateFunction.TheVariants.{CountRows, Count, Sum}
use Rattle.wrows.specs.declared.fault.AnswerFault.{AnswerFault}
use Rattle.wrows.specs.declared.fault.AnswerFault.TheVariants.{OutOfRange}
use Rattle.wrows.specs.Columns.{in_range}
use Rattle.wrows.specs.Outcomes.{Gives, unless}
use Rattle.wrows.proofs.RowFacts.{length-places, map-map, ok_is_false, places_more, refused, same_at}
use Rattle.waggregate.specs.Aggregating.{Feed, aggregate_of, fed_values, first_or_null, sum_answer, sum_or_null, value_or_null}
use Rattle.waggregate.specs.FrameAnswers.{values_or_null}
use Rattle.waggregate.specs.Grouped.{rows_of_group}
use Rattle.waggregate.proofs.FoldFacts.{sum_as_answer}
use Rattle.waggregate.proofs.FrameFacts.{LeastLaw}
use Rattle.waggregate.proofs.LeastFacts.{FirstLaw, least_value}
use Rattle.waggregate.proofs.PickedFacts.{CountedRowsLaw, CountedLaw, SummedLaw}

-- what a group's rows come to, of so many rows
abbrev pub part_of : {P : Type 0} → P → (P → P → P) → (ℕ → P) → List ℕ → ℕ → ℕ → P
part_of neutral joined part_at groups rows group =
    rows_fold neutral joined part_at (filter (λ row. get_or groups row 0 == group) (places rows))

-- the number at a place of numbers that follow each other
pub place_at_from : (a n k d : ℕ) → k < n → get_or (places_from a n) k d ≡ a + k
place_at_from a zero k d h = absurd (omega arith)
place_at_from a (suc n) zero d h = omega arith
place_at_from a (suc n) (suc k) d h = place_at_from (a + 1) n k d (omega arith) ∙ (omega arith)

-- one of a list over all places
pub mapped_at : {P : Type 0} (f : ℕ → P) (n k : ℕ) (d : P) → k < n → get_or (map f (places n)) k d ≡ f k
mapped_at f n k d h =
    let long : length (places n) ≡ n = length-places 0 n in
    let e : 0 + k ≡ k = omega arith in
    get_or-map f (places n) k 0 d (omega (arith, long)) ∙ ap f (place_at_from 0 n k 0 h ∙ e)

map_same : {P : Type 0} (f h : ℕ → P) (a n : ℕ) → ((j : ℕ) → a ≤ j → f j ≡ h j) → map f (places_from a n) ≡ map h (places_from a n)
map_same f h a zero same = refl
map_same f h a (suc n) same = ap (λ x. x ∷ map f (places_from (a + 1) n)) (same a (omega arith))
    ∙ ap (λ l. h a ∷ l) (map_same f h (a + 1) n (λ j k. same j (omega arith)))

set_mapped : {P : Type 0} (f h : ℕ → P) (a n k : ℕ) (x : P) → k < n → x ≡ h (a + k) → ((j : ℕ) → a + k ≢ j → f j ≡ h j)
    → slice_set (map f (places_from a n)) k x ≡ map h (places_from a n)
set_mapped f h a zero k x l is others = absurd (omega arith)
set_mapped f h a (suc n) zero x l is others =
    let here : a + 0 ≡ a = omega arith in
    ap (λ y. y ∷ map f (places_from (a + 1) n)) (is ∙ ap h here)
    ∙ ap (λ l. h a ∷ l) (map_same f h (a + 1) n (λ j m. others j (λ e. omega arith)))
set_mapped f h a (suc n) (suc k) x l is others =
    let next : a + suc k ≡ a + 1 + k = omega arith in
    ap (λ y. y ∷ slice_set (map f (places_from (a + 1) n)) k x) (others a (λ e. omega arith))
    ∙ ap (λ l. h a ∷ l) (set_mapped f h (a + 1) n k x (omega arith) (is ∙ ap h next) (λ j m. others j (λ e. m (sym next ∙ e))))

module _ {P : Type 0} (neutral : P) (joined : P → P → P) (part_at : ℕ → P) (groups : List ℕ) (row : ℕ) where
  abbrev before : ℕ → P
  before = part_of neutral joined part_at groups row

  abbrev after : ℕ → P
  after = part_of neutral joined part_at groups (row + 1)

  cut : (g : ℕ) (b : Bool) → (get_or groups row 0 == g) ≡ b → filter (λ row. get_or groups row 0 == g) (places (row + 1))
      ≡ filter (λ row. get_or groups row 0 == g) (places row) ++ cond b (row ∷ []) []
  cut g b e =
      ap (filter (λ row. get_or groups row 0 == g)) (places_more 0 row row (omega arith))
      ∙ filter-append (λ row. get_or groups row 0 == g) (places row) (row ∷ [])
      ∙ ap (λ b. filter (λ row. get_or groups row 0 == g) (places row) ++ cond b (row ∷ []) []) e

  -- the group of the row has it joined
  own : (g : ℕ) → (get_or groups row 0 == g) ≡ true → after g ≡ joined (before g) (part_at row)
  own g e =
      let rows = filter (λ row. get_or groups row 0 == g) (places row) in
      ap (rows_fold neutral joined part_at) (cut g true e)
      ∙ ap (fold joined neutral) (map-append part_at rows (row ∷ []))
      ∙ fold_push joined neutral (map part_at rows) (part_at row)

  -- another group stays
  other : (g : ℕ) → (get_or groups row 0 == g) ≡ false → before g ≡ after g
  other g e =
      let rows = filter (λ row. get_or groups row 0 == g) (places row) in
      sym (ap (rows_fold neutral joined part_at) (cut g false e ∙ append-nil rows))

  is_own : (g : ℕ) → get_or groups row 0 ≡ g → (get_or groups row 0 == g) ≡ true
  is_own g e = go (eqb_tells (get_or groups row 0) g)
    where
      go : ((eqb (get_or groups row 0) g ≡ true) × (get_or groups row 0 ≡ g)) ⊎ ((eqb (get_or groups row 0) g ≡ false)
          × (get_or groups row 0 ≢ g)) → (get_or groups row 0 == g) ≡ true
      go (inl (h, k)) = h
      go (inr (h, k)) = absurd (k e)

  is_other : (g : ℕ) → get_or groups row 0 ≢ g → (get_or groups row 0 == g) ≡ false
  is_other g e = go (eqb_tells (get_or groups row 0) g)
    where
      go : ((eqb (get_or groups row 0) g ≡ true) × (get_or groups row 0 ≡ g)) ⊎ ((eqb (get_or groups row 0) g ≡ false)
          × (get_or groups row 0 ≢ g)) → (get_or groups row 0 == g) ≡ false
      go (inl (h, k)) = absurd (e k)
      go (inr (h, k)) = h

  -- one row more
  pub parts_more : (count group : ℕ) (parts : List P) (left right part : P) → parts ≡ map before (places count)
      → group ≡ get_or groups row 0 → group < count → left ≡ get_or parts group left → right ≡ part_at row → part ≡ joined left right
      → slice_set parts group part ≡ map after (places count)
  parts_more count group parts left right part so_far is h here own_part joins =
      let e : 0 + group ≡ group = omega arith in
      let was : left ≡ before group = here ∙ ap (λ ps. get_or ps group left) so_far ∙ mapped_at before count group left h in
      ap (λ ps. slice_set ps group part) so_far
      ∙ set_mapped before after 0 count group part h
      (joins ∙ ap (joined left) own_part ∙ ap (λ p. joined p (part_at row)) was ∙ sym (own group (is_own group (sym is)))
      ∙ ap after (sym e))
      (λ j apart. other j (is_other j (λ here. apart (e ∙ is ∙ here))))

-- no row so far
pub no_rows : {P : Type 0} (neutral : P) (n : ℕ) (parts : List P) → parts ≡ map (λ k. neutral) (places n) → length parts ≡ n
no_rows neutral n parts e = ap length e ∙ length-map (places n) (λ k. neutral) ∙ length-places 0 n

-- the parts that were taken are parts
pub ordered_parts : {P : Type 0} (is : P → Type 0) (parts ordered : List P) (order : List ℕ)
    → ((d : P) → ordered ≡ map (λ g. get_or parts g d) order) → All (λ g. g < length parts) order → All is parts → All is ordered
ordered_parts is parts ordered order same below all = λ i d h.
    let long : length ordered ≡ length order = ap length (same d) ∙ length-map order (λ g. get_or parts g d) in
    let within : i < length order = omega (arith, long) in
    subst is (sym (ap (λ l. get_or l i d) (same d) ∙ get_or-map (λ g. get_or parts g d) order i 0 d within))
    (all (get_or order i 0) d (below i 0 within))

-- what is answered of each group's rows
pub given_alike : (r : Result (Vec Value Global) AnswerFault) (xs ys : List (Option Meaning)) → xs ≡ ys
    → Gives (λ (column : Vec Value Global). map meaning column.items) r (in_range xs)
    → Gives (λ (column : Vec Value Global). map meaning column.items) r (in_range ys)
given_alike r xs ys e h = subst (λ l. Gives (λ (column : Vec Value Global). map meaning column.items) r (in_range l)) e h

module _ (groups order : List ℕ) (few : length groups < 2 ^ 31) where
  group_few : (g : ℕ) → length (rows_of_group groups g) < 2 ^ 31
  group_few g =
      let at = λ (row : ℕ). get_or groups row 0 == g in
      let all = places (length groups) in
      let kept : length (filter at all) ≤ length all = subst (λ n. n ≤ length all) (sym (length-filter at all))
      (count_by-le-length at all) in
      let long : length all ≡ length groups = length-places 0 (length groups) in
      omega (arith, kept, long, few)

  each_alike : (f h : List ℕ → Option Meaning) → ((rows : List ℕ) → length rows < 2 ^ 31 → f rows ≡ h rows) → (gs : List ℕ)
      → map (λ g. f (rows_of_group groups g)) gs ≡ map (λ g. h (rows_of_group groups g)) gs
  each_alike f h same [] = refl
  each_alike f h same (g ∷ gs) = ap (λ x. x ∷ map (λ g. f (rows_of_group groups g)) gs)
      (same (rows_of_group groups g) (group_few g)) ∙ ap (λ l. h (rows_of_group groups g) ∷ l) (each_alike f h same gs)

  module _ (feed : Feed) (values : List Meaning) (tests : Option (List Bool)) (valued : values ≡ feed.values)
      (tested : tests ≡ feed.filter) where
    pub rows_answered : CountedRowsLaw → map
        (λ g. Some (Int (pos (rows_fold 0 counts_joined (count_at None tests) (rows_of_group groups g))))) order
        ≡ map (λ g. aggregate_of CountRows feed (rows_of_group groups g)) order
    rows_answered law =
        each_alike (λ rows. Some (Int (pos (rows_fold 0 counts_joined (count_at None tests) rows)))) (aggregate_of CountRows feed)
        (λ rows short. ap (λ n. Some (Int (pos n))) (law tests rows (omega arith))
        ∙ ap (λ t. Some (Int (pos (count_of_rows t rows)))) tested) order

    pub values_answered : CountedLaw → map (λ g. Some
        (Int (pos (rows_fold 0 counts_joined (count_at (Some values) tests) (rows_of_group groups g))))) order
        ≡ map (λ g. aggregate_of Count feed (rows_of_group groups g)) order
    values_answered law =
        each_alike (λ rows. Some (Int (pos (rows_fold 0 counts_joined (count_at (Some values) tests) rows)))) (aggregate_of Count feed)
        (λ rows short. ap (λ n. Some (Int (pos n))) (law values tests rows (omega arith))
        ∙ ap (λ vs. Some (Int (pos (count_of (fed vs tests) rows)))) valued
        ∙ ap (λ t. Some (Int (pos (count_of (fed feed.values t) rows)))) tested) order

    pub sums_answered : SummedLaw → ((row : ℕ) → IsInRange (fed values tests row))
        → map (λ g. sum_answer (rows_fold None sums_joined (λ row. sum_part (fed values tests row))
        (rows_of_group groups g))) order ≡ map (λ g. aggregate_of Sum feed (rows_of_group groups g)) order
    sums_answered law ranges =
        each_alike (λ rows. sum_answer (rows_fold None sums_joined (λ row. sum_part (fed values tests row)) rows)) (aggregate_of Sum feed)
        (λ rows short. ap sum_answer (law (fed values tests) rows
        (omega (arith, count_by-le-length (λ row. is_value (fed values tests row)) rows)) (λ k d h. ranges (get_or rows k d)))
        ∙ sum_as_answer (fed values tests) rows (sum_of (fed values tests) rows)
        ∙ ap (λ vs. sum_or_null (filter is_value (map (fed vs tests) rows)) (sum_of (fed vs tests) rows)) valued
        ∙ ap (λ t. sum_or_null (filter is_value (map (fed feed.values t) rows)) (sum_of (fed feed.values t) rows)) tested) order

    pub firsts_answered : FirstLaw → (cmp : Meaning → Meaning → Ordering) → IsTotalOrder cmp → LeastLaw cmp
        → map (λ g. Some (value_or_null values (rows_fold None (leasts_joined cmp values) (place_at values tests)
        (rows_of_group groups g)))) order
        ≡ map (λ g. Some (first_or_null (sorted cmp (fed_values feed (rows_of_group groups g))))) order
    firsts_answered first cmp total least =
        each_alike (λ rows. Some (value_or_null values (rows_fold None (leasts_joined cmp values) (place_at values tests)
        rows))) (λ rows. Some (first_or_null (sorted cmp (fed_values feed rows))))
        (λ rows short. ap (λ m. Some m) (least_value first cmp total values tests rows
        (rows_fold None (leasts_joined cmp values) (place_at values tests) rows) (least values tests rows)
        ∙ ap (λ vs. first_or_null (sorted cmp (filter is_value (map (fed vs tests) rows)))) valued
        ∙ ap (λ t. first_or_null (sorted cmp (filter is_value (map (fed feed.values t) rows)))) tested)) order

-- one place more
pub mapped_more : {P : Type 0} (f : ℕ → P) (n : ℕ) (so_far next : List P) (x : P) → so_far ≡ map f (places n)
    → next ≡ so_far ++ x ∷ [] → x ≡ f n → next ≡ map f (places (n + 1))
mapped_more f n so_far next x e h is =
    h ∙ ap (λ l. l ++ x ∷ []) e ∙ ap (λ y. map f (places n) ++ y ∷ []) is
    ∙ sym (ap (map f) (places_more 0 n n (omega arith)) ∙ map-append f (places n) (n ∷ []))

-- one group more
pub ordered_more : {P : Type 0} (parts : List P) (order : List ℕ) (i : ℕ) (so_far next : List P) (x d : P)
    → i < length order → get_or order i 0 < length parts → so_far ≡ map (λ g. get_or parts g d) (take i order)
    → next ≡ so_far ++ x ∷ [] → x ≡ get_or parts (get_or order i 0) x
    → next ≡ map (λ g. get_or parts g d) (take (i + 1) order)
ordered_more parts order i so_far next x d h within e more is =
    more ∙ ap (λ l. l ++ x ∷ []) e ∙ ap (λ y. map (λ g. get_or parts g d) (take i order) ++ y ∷ [])
    (is ∙ same_at parts (get_or order i 0) x d within)
    ∙ sym (ap (map (λ g. get_or parts g d)) (take_more order i 0 h) ∙ map-append (λ g. get_or parts g d) (take i order)
    (get_or order i 0 ∷ []))

known : {P : Type 0} (f : ℕ → P) (n : ℕ) (parts : List P) (d : P) → parts ≡ map f (places n) → (gs : List ℕ)
    → AllByRecursion (λ g. g < n) gs → map (λ g. get_or parts g d) gs ≡ map f gs
known f n parts d e [] all = refl
known f n parts d e (g ∷ gs) all = ap (λ x. x ∷ map (λ g. get_or parts g d) gs) (ap (λ ps. get_or ps g d) e
    ∙ mapped_at f n g d all.0) ∙ ap (λ l. f g ∷ l) (known f n parts d e gs all.1)

-- the parts of the groups that are answered, where all parts are known
pub known_parts : {P : Type 0} (f : ℕ → P) (n : ℕ) (parts ordered : List P) (order : List ℕ) → parts ≡ map f (places n)
    → ((d : P) → ordered ≡ map (λ g. get_or parts g d) order) → All (λ g. g < n) order → ordered ≡ map f order
known_parts f n parts ordered order e same below = same (f 0) ∙ known f n parts (f 0) e order (recursion_from_All (λ g. g < n) order below)

pub known_length : {P : Type 0} (f : ℕ → P) (n : ℕ) (parts : List P) → parts ≡ map f (places n) → length parts ≡ n
known_length f n parts e = ap length e ∙ length-map (places n) f ∙ length-places 0 n

-- the answers of the groups that are asked for
pub answers_in_order : {P : Type 0} (answer : P → Option Meaning) (f : ℕ → P) (n : ℕ) (parts ordered seen : List P)
    (order : List ℕ) → parts ≡ map f (places n) → ((d : P) → ordered ≡ map (λ g. get_or parts g d) order)
    → All (λ g. g < n) order → seen ≡ ordered → map answer seen ≡ map (λ g. answer (f g)) order
answers_in_order answer f n parts ordered seen order e same below is =
    ap (map answer) (is ∙ known_parts f n parts ordered order e same below) ∙ map-map answer f order

pub fault_of_answers : (fault : AnswerFault) (seen results : List (Option Meaning)) → seen ≡ results
    → Gives {X = Unit {0}} {Y = Unit {0}} (λ u. u) (Err fault) (unless (list_any is_none seen) OutOfRange (tt {0}))
    → Gives (λ (column : Vec Value Global). map meaning column.items) (Err fault) (in_range results)
fault_of_answers fault seen results e h =
    refused (λ (column : Vec Value Global). map meaning column.items) fault (list_any is_none seen)
    (list_any is_none results) (values_or_null results) h (λ some. sym (ap (list_any is_none) e) ∙ some)

pub answers_column : (first column : List Value) (seen results : List (Option Meaning)) → seen ≡ results → first ≡ []
    → unless (list_any is_none seen) OutOfRange (tt {0}) ≡ Ok (tt {0})
    → map meaning column ≡ map meaning first ++ values_or_null seen → in_range results ≡ Ok (map meaning column)
answers_column first column seen results e none gives added =
    ap in_range (sym e) ∙ ap (λ b. unless b OutOfRange (values_or_null seen)) (ok_is_false (list_any is_none seen) (tt {0}) (tt {0}) gives)
    ∙ ap (λ l. Ok l) (sym (added ∙ ap (λ l. map meaning l ++ values_or_null seen) none))

pub answers_length : (first column : List Value) (seen : List (Option Meaning)) (f : ℕ → Option Meaning) (order : List ℕ)
    → seen ≡ map f order → first ≡ [] → map meaning column ≡ map meaning first ++ values_or_null seen → length column ≡ length order
answers_length first column seen f order e none added =
    sym (length-map column meaning) ∙ ap length (added ∙ ap (λ l. map meaning l ++ values_or_null seen) none)
    ∙ length-map seen (λ r. unwrap_or r Null) ∙ ap length e ∙ length-map order f
