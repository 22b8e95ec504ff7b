-- What aggregates of groups come to, by those of finer groups.
use Rattle.std.proofs.Common.{◌≡◌, ℕ, ℤ, pos, ◌<◌, ◌≤◌, ◌^◌, ◌==◌, nat_lt, ◌||◌, ◌+ℤ◌, Bool, true, false, cond, List, [], ◌∷◌, length}
use Rattle.std.proofs.Common.{map, filter, get_or, All, Some, None, option_map, Ordering, Equal, refl, sym, ap, ◌∙◌, arith, true≢false}
use Rattle.std.specs.Cmp.{IsTotalOrder}
use Rattle.std.specs.List.{AllByRecursion, count_by, list_any}
use Rattle.std.proofs.Math.IntN.{+ℤ_assoc, +ℤ_comm, +ℤ_idl}
use Rattle.std.proofs.lemmas.Bool.Decides.{nat_tests}
use Rattle.std.proofs.lemmas.List.{get_or-map, length-map}
use Rattle.std.proofs.lemmas.List.Sums.{count_by-le-length}
use Rattle.wvalues.specs.declared.key.SortKey.{SortKey}
use Rattle.wvalues.specs.Meaning.{Meaning, Null, Int, Text}
use Rattle.wvalues.specs.Whole.{if_whole, is_whole}
use Rattle.wvalues.specs.OrderLaws.{key_total, tie_is_same}
use Rattle.wframe.specs.Places.{places}
use Rattle.wframe.specs.Sorting.{sorted}
use Rattle.wslide.specs.Aggregates.{by_value, by_value_descending, fed, is_value, number_of, passes, sum_of}
use Rattle.wplan.specs.declared.resolved.AggregateFunction.{AggregateFunction}
use Rattle.wplan.specs.declared.resolved.AggregateFunction.TheVariants.{CountRows, Count, Sum, Min, Max}
use Rattle.wrows.proofs.RowFacts.{length-places}
use Rattle.waggregate.specs.Aggregating.{Feed, aggregate_of, fed_values, first_or_null, sum_answer}
use Rattle.waggregate.specs.Grouped.{rows_of_group}
use Rattle.waggregate.proofs.FoldFacts.{sum_as_answer}
use Rattle.wgroup.specs.Finer.{function_of_parts}
use Rattle.wgroup.proofs.ListFacts.{all_implied, all_kept, below_all, filter_le, filter_same}
use Rattle.wgroup.proofs.PartFacts.{any_is_total, count_is_total, least_is_total, lesser, lesser_assoc, lesser_comm, sum_is_total}
use Rattle.wgroup.proofs.TotalFacts.{of_parts_in_order, of_places, of_same, total}

pub or_comm : (a b : Bool) → (a || b) ≡ (b || a)
or_comm true true = refl
or_comm true false = refl
or_comm false true = refl
or_comm false false = refl

pub or_assoc : (a b c : Bool) → ((a || b) || c) ≡ (a || (b || c))
or_assoc true b c = refl
or_assoc false b c = refl

abbrev key_in : Bool → SortKey
key_in descending = record { col = 0; desc = descending; nulls_first = false }

-- what is no value adds nothing
no_sum : (feed : ℕ → Meaning) (rows : List ℕ) → list_any (λ r. is_value (feed r)) rows ≡ false → sum_of feed rows ≡ pos 0
no_sum feed [] h = refl
no_sum feed (r ∷ rows) h = ap (λ z. z +ℤ sum_of feed rows)
    (number (feed r) (parts (is_value (feed r)) (list_any (λ r. is_value (feed r)) rows) h).0) ∙ +ℤ_idl (sum_of feed rows)
    ∙ no_sum feed rows (parts (is_value (feed r)) (list_any (λ r. is_value (feed r)) rows) h).1
  where
    parts : (a b : Bool) → (a || b) ≡ false → (a ≡ false) × (b ≡ false)
    parts true b e = absurd (true≢false e)
    parts false b e = (refl, e)

    number : (v : Meaning) → is_value v ≡ false → number_of v ≡ pos 0
    number Null e = refl
    number (Int x) e = absurd (true≢false e)
    number (Text x) e = refl

-- what a sum says of its rows
sum_says : (b : Bool) (z : ℤ) (a : Meaning) → (b ≡ false → z ≡ pos 0) → sum_answer (cond b (Some z) None) ≡ Some a
    → (is_value a ≡ b) × (number_of a ≡ z)
sum_says false z a zero h = let e : Null ≡ a = cc in (ap is_value (sym e), ap number_of (sym e) ∙ sym (zero refl))
sum_says true z a zero h = by (is_whole z) h
  where
    by : (c : Bool) → option_map (λ z. Int z) (cond c (Some z) None) ≡ Some a → (is_value a ≡ true) × (number_of a ≡ z)
    by true h = let e : Int z ≡ a = cc in (ap is_value (sym e), ap number_of (sym e))
    by false h = absurd (cc)

some_kept : (q : ℕ → Bool) (xs : List ℕ) → list_any q xs ≡ true → list_any (λ x. true) (filter q xs) ≡ true
some_kept q [] h = h
some_kept q (x ∷ xs) h = go (q x) h (some_kept q xs)
  where
    go : (b : Bool) → (b || list_any q xs) ≡ true → (list_any q xs ≡ true → list_any (λ x. true) (filter q xs) ≡ true)
        → list_any (λ x. true) (cond b (x ∷ filter q xs) (filter q xs)) ≡ true
    go true h more = refl
    go false h more = more h

-- finer groups by number: of each row, of which coarser group each is, their order, and what an aggregate comes to on them
module _ (feed : Feed) (numbers links order : List ℕ) (cmp : ℕ → ℕ
    → Ordering) (in_order : order ≡ sorted cmp (places (length links))) (below : All (λ f. f < length links) numbers) (a : ℕ
    → Meaning) (c : ℕ) where
  abbrev is_of : ℕ → Bool
  is_of f = get_or links f 0 == c

  abbrev of : ℕ → Meaning
  of = fed feed.values feed.filter

  abbrev numbered : ℕ → Meaning
  numbered = fed (map a order) None

  -- the rows of the coarser group, and the places of its finer ones
  abbrev rows : List ℕ
  rows = rows_of_group (map (λ f. get_or links f 0) numbers) c

  abbrev finer : List ℕ
  finer = rows_of_group (map (λ f. get_or links f 0) order) c

  rows_through : (xs : List ℕ) → rows_of_group (map (λ f. get_or links f 0) xs) c ≡ filter (λ r. is_of (get_or xs r 0)) (places (length xs))
  rows_through xs =
      ap (λ n. filter (λ r. get_or (map (λ f. get_or links f 0) xs) r 0 == c) (places n)) (length-map xs (λ f. get_or links f 0))
      ∙ filter_same (λ r. get_or (map (λ f. get_or links f 0) xs) r 0 == c) (λ r. is_of (get_or xs r 0)) (places (length xs))
      (below_all (λ r. (get_or (map (λ f. get_or links f 0) xs) r 0 == c) ≡ is_of (get_or xs r 0)) (length xs)
      (λ r h. ap (λ x. x == c) (get_or-map (λ f. get_or links f 0) xs r 0 0 h)))

  module _ {M : Type 0} (none : M) (plus : M → M → M) (left : (x : M) → plus none x ≡ x) (comm : (x y : M)
      → plus x y ≡ plus y x) (assoc : (x y z : M) → plus (plus x y) z ≡ plus x (plus y z)) where
    -- of the finer groups, by their places or by their numbers
    by_number : (h : Meaning → M) → total none plus (λ j. h (numbered j)) finer ≡ total none plus (λ f. h (a f)) (filter is_of order)
    by_number h =
        ap (total none plus (λ j. h (numbered j))) (rows_through order)
        ∙ of_same none plus left comm assoc (λ j. h (numbered j)) (λ j. h (a (get_or order j 0)))
        (filter (λ j. is_of (get_or order j 0)) (places (length order)))
        (all_kept (λ j. h (numbered j) ≡ h (a (get_or order j 0))) (λ j. is_of (get_or order j 0)) (places (length order))
        (below_all (λ j. h (numbered j) ≡ h (a (get_or order j 0))) (length order) (λ j l. ap h (get_or-map a order j 0 Null l))))
        ∙ of_places none plus left comm assoc is_of (λ f. h (a f)) order

    through : (h : Meaning → M) (w : ℕ → M) → AllByRecursion (λ f. h (a f) ≡ total none plus w (rows_of_group numbers f))
        order → total none plus (λ j. h (numbered j)) finer ≡ total none plus w rows
    through h w all =
        by_number h
        ∙ of_same none plus left comm assoc (λ f. h (a f)) (λ f. total none plus w (rows_of_group numbers f))
        (filter is_of order) (all_kept (λ f. h (a f) ≡ total none plus w (rows_of_group numbers f)) is_of order all)
        ∙ of_parts_in_order none plus left comm assoc cmp is_of (λ r. get_or numbers r 0) w (length links) (places (length numbers)) order
        (below_all (λ r. get_or numbers r 0 < length links) (length numbers) (λ r h. below r 0 h)) in_order
        ∙ ap (total none plus w) (sym (rows_through numbers))

  abbrev part_of : AggregateFunction → ℕ → Type 0
  part_of function f = aggregate_of function feed (rows_of_group numbers f) ≡ Some (a f)

  abbrev parts : Feed
  parts = record { values = map a order; filter = None }

  of_sums : AllByRecursion (part_of Sum) order → aggregate_of Sum parts finer ≡ aggregate_of Sum feed rows
  of_sums all =
      sym (sum_as_answer numbered finer (sum_of numbered finer))
      ∙ ap (λ b. sum_answer (cond b (Some (sum_of numbered finer)) None))
      (any_is_total (λ j. is_value (numbered j)) finer
      ∙ through false (λ a b. a || b) (λ x. refl) or_comm or_assoc is_value (λ r. is_value (of r))
      (all_implied (part_of Sum) (λ f. is_value (a f) ≡ total false (λ a b. a || b) (λ r. is_value (of r))
      (rows_of_group numbers f)) (λ f e. (says f e).0 ∙ any_is_total (λ r. is_value (of r)) (rows_of_group numbers f)) order all)
      ∙ sym (any_is_total (λ r. is_value (of r)) rows))
      ∙ ap (λ z. sum_answer (cond (list_any (λ r. is_value (of r)) rows) (Some z) None))
      (sum_is_total numbered finer
      ∙ through (pos 0) (λ a b. a +ℤ b) +ℤ_idl +ℤ_comm +ℤ_assoc number_of (λ r. number_of (of r))
      (all_implied (part_of Sum) (λ f. number_of (a f) ≡ total (pos 0) (λ a b. a +ℤ b) (λ r. number_of (of r))
      (rows_of_group numbers f)) (λ f e. (says f e).1 ∙ sum_is_total of (rows_of_group numbers f)) order all)
      ∙ sym (sum_is_total of rows))
      ∙ sum_as_answer of rows (sum_of of rows)
    where
      says : (f : ℕ) → part_of Sum f → (is_value (a f) ≡ list_any (λ r. is_value (of r)) (rows_of_group numbers f))
          × (number_of (a f) ≡ sum_of of (rows_of_group numbers f))
      says f e =
          sum_says (list_any (λ r. is_value (of r)) (rows_of_group numbers f)) (sum_of of (rows_of_group numbers f)) (a f)
          (no_sum of (rows_of_group numbers f))
          (sum_as_answer of (rows_of_group numbers f) (sum_of of (rows_of_group numbers f)) ∙ e)

  of_counts : (p : ℕ → Bool) → length numbers < 2 ^ 31 → list_any is_of order ≡ true
      → AllByRecursion (λ f. Int (pos (count_by p (rows_of_group numbers f))) ≡ a f) order
      → aggregate_of Sum parts finer ≡ Some (Int (pos (count_by p rows)))
  of_counts p few met all =
      sym (sum_as_answer numbered finer (sum_of numbered finer))
      ∙ ap (λ b. sum_answer (cond b (Some (sum_of numbered finer)) None))
      (any_is_total (λ j. is_value (numbered j)) finer ∙ by_number false (λ a b. a || b) (λ x. refl) or_comm or_assoc is_value
      ∙ of_same false (λ a b. a || b) (λ x. refl) or_comm or_assoc (λ f. is_value (a f)) (λ f. true) (filter is_of order)
      (all_kept (λ f. is_value (a f) ≡ true) is_of order (all_implied (λ f. Int (pos (count_by p (rows_of_group numbers f)))
      ≡ a f) (λ f. is_value (a f) ≡ true) (λ f e. ap is_value (sym e)) order all))
      ∙ sym (any_is_total (λ f. true) (filter is_of order)) ∙ some_kept is_of order met)
      ∙ ap (λ z. sum_answer (Some z))
      (sum_is_total numbered finer
      ∙ through (pos 0) (λ a b. a +ℤ b) +ℤ_idl +ℤ_comm +ℤ_assoc number_of (λ r. cond (p r) (pos 1) (pos 0))
      (all_implied (λ f. Int (pos (count_by p (rows_of_group numbers f))) ≡ a f) (λ f. number_of (a f)
      ≡ total (pos 0) (λ a b. a +ℤ b) (λ r. cond (p r) (pos 1) (pos 0)) (rows_of_group numbers f))
      (λ f e. ap number_of (sym e) ∙ count_is_total p (rows_of_group numbers f)) order all)
      ∙ sym (count_is_total p rows))
      ∙ ap (option_map (λ z. Int z)) (small_is_whole (count_by p rows) small)
    where
      small : count_by p (rows_of_group (map (λ f. get_or links f 0) numbers) c) < 2 ^ 31
      small =
          let kept : length (rows_of_group (map (λ f. get_or links f 0) numbers) c) ≤ length
          (places (length (map (λ f. get_or links f 0) numbers)))
          = filter_le (λ r. get_or (map (λ f. get_or links f 0) numbers) r 0 == c)
          (places (length (map (λ f. get_or links f 0) numbers))) in
          omega (
            arith,
            count_by-le-length p (rows_of_group (map (λ f. get_or links f 0) numbers) c),
            kept,
            length-places 0 (length (map (λ f. get_or links f 0) numbers)),
            length-map numbers (λ f. get_or links f 0),
            few,
          )

      small_is_whole : (n : ℕ) → n < 2 ^ 31 → if_whole (pos n) ≡ Some (pos n)
      small_is_whole n h =
          let below : nat_lt n (2 ^ 95) ≡ true = grind (arith, nat_tests) in
          ap (λ b. cond b (Some (pos n)) None) below

  of_leasts : (cmp : Meaning → Meaning → Ordering) → IsTotalOrder cmp → ((a b : Meaning) → cmp a b ≡ Equal → a ≡ b)
      → AllByRecursion (λ f. first_or_null (sorted cmp (fed_values feed (rows_of_group numbers f))) ≡ a f) order
      → first_or_null (sorted cmp (fed_values parts finer)) ≡ first_or_null (sorted cmp (fed_values feed rows))
  of_leasts cmp total_order tie all =
      least_is_total cmp total_order tie numbered finer
      ∙ through Null (lesser cmp) (λ x. refl) (lesser_comm cmp total_order tie) (lesser_assoc cmp total_order tie) (λ v. v) of
      (all_implied (λ f. first_or_null (sorted cmp (fed_values feed (rows_of_group numbers f))) ≡ a f)
      (λ f. a f ≡ total Null (lesser cmp) of (rows_of_group numbers f))
      (λ f e. sym e ∙ least_is_total cmp total_order tie of (rows_of_group numbers f)) order all)
      ∙ sym (least_is_total cmp total_order tie of rows)

  -- what an aggregate comes to on what it came to on the finer groups
  pub of_answers : (function : AggregateFunction) → length numbers < 2 ^ 31 → list_any is_of order ≡ true
      → AllByRecursion (part_of function) order → aggregate_of (function_of_parts function) parts finer ≡ aggregate_of function feed rows
  of_answers CountRows few met all = of_counts (passes feed.filter) few met
      (all_implied (part_of CountRows) (λ f. Int (pos (count_by (passes feed.filter) (rows_of_group numbers f))) ≡ a f)
      (λ f e. cc) order all)
  of_answers Count few met all = of_counts (λ r. is_value (of r)) few met
      (all_implied (part_of Count) (λ f. Int (pos (count_by (λ r. is_value (of r)) (rows_of_group numbers f))) ≡ a f) (λ f e. cc) order all)
  of_answers Sum few met all = of_sums all
  of_answers Min few met all = ap (λ v. Some v) (of_leasts by_value (key_total (key_in false)) (tie_is_same (key_in false))
      (all_implied (part_of Min) (λ f. first_or_null (sorted by_value (fed_values feed (rows_of_group numbers f))) ≡ a f)
      (λ f e. cc) order all))
  of_answers Max few met all = ap (λ v. Some v) (of_leasts by_value_descending (key_total (key_in true))
      (tie_is_same (key_in true)) (all_implied (part_of Max)
      (λ f. first_or_null (sorted by_value_descending (fed_values feed (rows_of_group numbers f))) ≡ a f) (λ f e. cc) order all))
