-- What a call answers for the rows of each partition is what it answers for each row.
use Rattle.std.proofs.Common.{◌≡◌, ℕ, zero, suc, ◌+◌, ◌-◌, ◌<◌, ◌≤◌, ◌==◌, ◌||◌, ◌++◌, nat_le, nat_lt, Bool, true, false, cond}
use Rattle.std.proofs.Common.{List, [], ◌∷◌, length, map, filter, take, drop, get_or, Option, Ok, Err, Ordering, is_gt, refl}
use Rattle.std.proofs.Common.{sym, ap, ◌∙◌, arith, length-take-le, length-drop, length-append, take-append-drop, subst}
use Rattle.std.specs.Prelude.{min, slice_range}
use Rattle.std.specs.List.{All, AllByRecursion, flat_map, list_any}
use Rattle.std.specs.Option.{is_none}
use Rattle.std.proofs.lemmas.Bool.Decides.{nat_tests}
use Rattle.std.proofs.lemmas.List.{length-map, map-append, length-take, drop-drop}
use Rattle.std.proofs.Math.ListN.{drop_of_length-le}
use Rattle.std.proofs.lemmas.List.Elements.{All-get_or, All-from_recursion, All-same, recursion_from_All}
use Rattle.wvalues.specs.declared.key.SortKey.{SortKey}
use Rattle.wvalues.specs.Meaning.{Meaning}
use Rattle.wvalues.specs.Order.{keys_cmp}
use Rattle.wframe.specs.declared.frame.Frame.{Frame}
use Rattle.wframe.specs.declared.frame.Span.{Span}
use Rattle.wframe.specs.KeyRows.{key_lists, sort_keys}
use Rattle.wframe.specs.declared.key_rows.KeyRows.{KeyRows}
use Rattle.wframe.specs.Peers.{key_at}
use Rattle.wframe.specs.Places.{places_from, places, span_at, is_in_span, Tiles}
use Rattle.wframe.specs.Partition.{Partition, Partitioned, partition_of}
use Rattle.wframe.specs.Partitions.{IsPartition}
use Rattle.wrows.specs.declared.fault.AnswerFault.{AnswerFault}
use Rattle.wrows.specs.declared.fault.AnswerFault.TheVariants.{OutOfRange}
use Rattle.wrows.specs.Outcomes.{Gives, unless}
use Rattle.wrows.specs.Columns.{in_range}
use Rattle.wframe.specs.Sorting.{inserted, sorted}
use Rattle.wcalls.specs.Windows.{Windowed, partition_rows, partition_at, place_at}
use Rattle.wcalls.specs.Calls.{each_row}
use Rattle.wcalls.specs.Arranged.{window_cmp, IsArranged, Answer, answer_on, answered}
use Rattle.wcalls.proofs.Answering.{partition_answers, window_answers, answer_values, HasEachOnce}
use Rattle.wframe.proofs.SortFacts as sorts
use Rattle.wframe.proofs.SortFacts.{filter_sorted}
use Rattle.wrows.proofs.RowFacts.{map-map, refused, map-taken, map-dropped, length-places, places_below}
use Rattle.wcalls.proofs.WindowFacts.{whole_total, at_places, span_rows}
use Rattle.wcalls.proofs.PlaceFacts.{once_from, place_in_span}

-- two functions that agree on two runs of places
pub pointwise : {X : Type 0} (f g : ℕ → X) (a b n : ℕ) → ((j : ℕ) → j < n → f (a + j) ≡ g (b + j))
    → map f (places_from a n) ≡ map g (places_from b n)
pointwise f g a b zero h = refl
pointwise f g a b (suc n) h =
    let e : a ≡ a + 0 = omega arith in
    let d : b + 0 ≡ b = omega arith in
    ap (λ y. y ∷ map f (places_from (a + 1) n)) (ap f e ∙ h 0 (omega arith) ∙ ap g d)
    ∙ ap (λ ys. g b ∷ ys) (pointwise f g (a + 1) (b + 1) n (λ j l. let k : a + 1 + j ≡ a + suc j = omega arith in
    let m : b + suc j ≡ b + 1 + j = omega arith in ap f k ∙ h (suc j) (omega arith) ∙ ap g m))

in_span : (s : Span) (i : ℕ) → s.from ≤ i → i < s.to → is_in_span s i ≡ true
in_span s i l h =
    let a : nat_le s.from i ≡ true = grind (arith, nat_tests) in
    let b : nat_lt i s.to ≡ true = grind (arith, nat_tests) in
    rw (a, b) refl

-- a slice, and what comes behind it
pub slice_on : {X : Type 0} (xs : List X) (from to : ℕ) → from ≤ to → slice_range xs from to ++ drop to xs ≡ drop from xs
slice_on xs from to h =
    let e : to ≡ from + (to - from) = omega arith in
    ap (λ n. slice_range xs from to ++ drop n xs) e
    ∙ ap (λ l. slice_range xs from to ++ l) (sym (drop-drop (to - from) from xs))
    ∙ take-append-drop (to - from) (drop from xs)

pub any_append : {X : Type 0} (p : X → Bool) (xs ys : List X) → list_any p (xs ++ ys) ≡ (list_any p xs || list_any p ys)
any_append p [] ys = refl
any_append p (x ∷ xs) ys = go (p x) (any_append p xs ys)
  where
    go : (b : Bool) → list_any p (xs ++ ys) ≡ (list_any p xs || list_any p ys)
        → (b || list_any p (xs ++ ys)) ≡ ((b || list_any p xs) || list_any p ys)
    go true e = refl
    go false e = e

abbrev made : List SortKey → List (List Meaning) → Frame → Partition
made o ks f = record { order = o; keys = ks; frame = f }

module _ (w : Windowed) (rows : List ℕ) (all : Partitioned) (arranged : IsArranged w rows all) (answer : Answer) where
  abbrev row : ℕ → ℕ
  row j = get_or rows j 0

  pub rows_long : length rows ≡ length w.values
  rows_long = ap length arranged.sorted ∙ sorts.length_sorted (window_cmp w) (whole_total w) (places (length w.values))
      ∙ length-places 0 (length w.values)

  row_below : (i : ℕ) → i < length rows → row i < length w.values
  row_below i h =
      let n = length w.values in
      let below : All (λ k. k < n) rows = All-same (λ k. k < n) rows (sorted (window_cmp w) (places n)) arranged.sorted
      (All-from_recursion (λ k. k < n) (sorted (window_cmp w) (places n))
      (sorts.all_sorted (window_cmp w) (whole_total w) (λ k. k < n) (places n) (places_below 0 n n (omega arith)))) in
      All-get_or (λ k. k < n) rows i 0 h below

  slice_keys : (s : Span) → slice_range all.keys s.from s.to ≡ map (key_at w.keys) (slice_range rows s.from s.to)
  slice_keys s =
      ap (λ ks. take (s.to - s.from) (drop s.from ks)) arranged.keys
      ∙ ap (take (s.to - s.from)) (sym (map-dropped (key_at w.keys) s.from rows))
      ∙ sym (map-taken (key_at w.keys) (s.to - s.from) (drop s.from rows))

  -- the answers for a partition's rows are those for the rows of its span
  pub span_answers : (s : Span) → IsPartition (keys_cmp w.value_order) (map (key_at w.values) rows) s
      → partition_answers answer (partition_of all s) (slice_range rows s.from s.to) ≡ map (answer_on w answer)
      (slice_range rows s.from s.to)
  span_answers s part =
      let n : ℕ = s.to - s.from in
      let within : s.to ≤ length rows = omega (arith, part.within, length-map rows (key_at w.values)) in
      let some = part.some in
      let wide : length (slice_range rows s.from s.to) ≡ n =
      length-take-le n (drop s.from rows) (omega (arith, length-drop s.from rows, within)) in
      let long : length (partition_of all s).keys ≡ n = ap length (slice_keys s) ∙ length-map (slice_range rows s.from s.to)
      (key_at w.keys) ∙ wide in
      let fits : s.from + n ≤ length rows = omega (arith, within, some) in
      ap (λ m. map (answer (partition_of all s) (slice_range rows s.from s.to)) (places m)) long
      ∙ pointwise (answer (partition_of all s) (slice_range rows s.from s.to)) (λ i. answer_on w answer (row i)) 0 s.from n
      (λ j l. at_one s part (s.from + j) j (omega arith) (omega arith) (omega (arith, within, l)))
      ∙ sym (map-map (answer_on w answer) row (places_from s.from n))
      ∙ ap (map (answer_on w answer)) (at_places 0 rows s.from n fits)
    where
      at_one : (s : Span) → IsPartition (keys_cmp w.value_order) (map (key_at w.values) rows) s → (i j : ℕ) → s.from + j ≡ i
          → i < s.to → i < length rows
          → answer (partition_of all s) (slice_range rows s.from s.to) (0 + j) ≡ answer_on w answer (row i)
      at_one s part i j e h l =
          let within : s.to ≤ length rows = omega (arith, part.within, length-map rows (key_at w.values)) in
          let same : slice_range rows s.from s.to ≡ partition_rows w (row i) =
          span_rows w rows s arranged.sorted part i (in_span s i (omega arith) h) l in
          let place : place_at w (row i) ≡ i - s.from = place_in_span w rows s.from s.to i (omega arith) h within (row_below i l) same in
          let at : 0 + j ≡ place_at w (row i) = omega (arith, place, e) in
          let p : partition_of all s ≡ partition_at w (row i)
          = ap (λ o. made o (slice_range all.keys s.from s.to) all.frame) arranged.order
          ∙ ap (λ f. made w.order (slice_range all.keys s.from s.to) f) arranged.frame
          ∙ ap (λ ks. made w.order ks w.frame) (slice_keys s ∙ ap (map (key_at w.keys)) same) in
          ap (λ q. answer q (slice_range rows s.from s.to) (0 + j)) p
          ∙ ap (λ rs. answer (partition_at w (row i)) rs (0 + j)) same
          ∙ ap (answer (partition_at w (row i)) (partition_rows w (row i))) at

  pub part_at : (k : ℕ) → k < length all.spans → IsPartition (keys_cmp w.value_order) (map (key_at w.values) rows) (span_at all.spans k)
  part_at k h = All-get_or (IsPartition (keys_cmp w.value_order) (map (key_at w.values) rows)) all.spans k
      (record { from = 0; to = 0 }) h arranged.each

  pub each_once : HasEachOnce (length w.values) rows
  each_once i h =
      ap (filter (λ k. k == i)) arranged.sorted
      ∙ filter_sorted (window_cmp w) (whole_total w) (λ k. k == i) (places (length w.values))
      ∙ ap (sorted (window_cmp w)) (once_from i 0 (length w.values) (omega arith) (omega arith))

module _ (w : Windowed) (rows : List ℕ) (all : Partitioned) (arranged : IsArranged w rows all) (answer : Answer) where
  abbrev part_is : Span → Type 0
  part_is = IsPartition (keys_cmp w.value_order) (map (key_at w.values) rows)

  abbrev answers_in : Span → List (Option Meaning)
  answers_in s = partition_answers answer (partition_of all s) (slice_range rows s.from s.to)

  from_on : (low : ℕ) (ss : List Span) → Tiles low ss (length rows) → AllByRecursion part_is ss
      → flat_map answers_in ss ≡ map (answer_on w answer) (drop low rows)
  from_on low [] tiles each = sym (ap (map (answer_on w answer)) (drop_of_length-le rows (omega (arith, tiles))))
  from_on low (s ∷ ss) tiles each =
      let first : s.from ≡ low = tiles.0 in
      let some : s.from < s.to = tiles.1 in
      ap (λ l. l ++ flat_map answers_in ss) (span_answers w rows all arranged answer s each.0)
      ∙ ap (λ l. map (answer_on w answer) (slice_range rows s.from s.to) ++ l) (from_on s.to ss tiles.2 each.1)
      ∙ sym (map-append (answer_on w answer) (slice_range rows s.from s.to) (drop s.to rows))
      ∙ ap (map (answer_on w answer)) (slice_on rows s.from s.to (omega arith) ∙ ap (λ n. drop n rows) first)

  -- the answers of one partition after another are those for each row
  pub window_is : window_answers answer all rows ≡ map (answer_on w answer) rows
  window_is =
      let long : length all.keys ≡ length rows = ap length arranged.keys ∙ length-map rows (key_at w.keys) in
      from_on 0 all.spans (subst (Tiles 0 all.spans) long arranged.tiles) (recursion_from_All part_is all.spans arranged.each)

-- a slice of each of two lists of one length
pub sliced_alike : {X Y : Type 0} (xs : List X) (ys : List Y) (from to : ℕ) → length xs ≡ length ys
    → length (slice_range xs from to) ≡ length (slice_range ys from to)
sliced_alike xs ys from to e =
    let same : length (drop from xs) ≡ length (drop from ys) = omega (arith, length-drop from xs, length-drop from ys) in
    length-take (to - from) (drop from xs) ∙ ap (min (to - from)) same ∙ sym (length-take (to - from) (drop from ys))

-- a slice has no more elements than its list
pub slice_few : {X : Type 0} (xs : List X) (from to : ℕ) → length (slice_range xs from to) ≤ length xs
slice_few xs from to = omega (arith, length-take (to - from) (drop from xs), length-drop from xs)

-- how many answers there are
pub answers_long : (answer : Answer) (all : Partitioned) (rows : List ℕ) (low : ℕ) (ss : List Span) (high : ℕ)
    → Tiles low ss high → high ≤ length all.keys
    → low + length (flat_map (λ s. partition_answers answer (partition_of all s) (slice_range rows s.from s.to)) ss) ≡ high
answers_long answer all rows low [] high tiles h = omega (arith, tiles)
answers_long answer all rows low (s ∷ ss) high tiles h =
    let here = partition_answers answer (partition_of all s) (slice_range rows s.from s.to) in
    let others = flat_map (λ s. partition_answers answer (partition_of all s) (slice_range rows s.from s.to)) ss in
    let first : s.from ≡ low = tiles.0 in
    let some : s.from < s.to = tiles.1 in
    let more : s.to + length others ≡ high = answers_long answer all rows s.to ss high tiles.2 h in
    let cut : length (slice_range all.keys s.from s.to) ≡ s.to - s.from =
    length-take-le (s.to - s.from) (drop s.from all.keys) (omega (arith, length-drop s.from all.keys)) in
    let wide : length here ≡ s.to - s.from = length-map (places (length (partition_of all s).keys))
    (answer (partition_of all s) (slice_range rows s.from s.to)) ∙ length-places 0 (length (partition_of all s).keys) ∙ cut in
    omega (arith, length-append here others)

-- answers in a window's order, where none is out of range
pub all_answers : (answers : List (Option Meaning)) (answer : List Meaning) (b : Bool) → list_any is_none answers ≡ b
    → unless b OutOfRange (tt {0}) ≡ Ok (tt {0}) → answer ≡ answer_values answers → in_range answers ≡ Ok answer
all_answers answers answer true e h same = absurd (cc)
all_answers answers answer false e h same = ap (λ b. unless b OutOfRange (answer_values answers)) e ∙ ap Ok (sym same)

module _ {X : Type 0} (cmp : X → X → Ordering) (p : X → Bool) where
  swapped : (a b c : Bool) → (a || (b || c)) ≡ (b || (a || c))
  swapped true true c = refl
  swapped true false c = refl
  swapped false true c = refl
  swapped false false c = refl

  any_inserted : (x : X) (ys : List X) → list_any p (inserted cmp x ys) ≡ (p x || list_any p ys)
  any_inserted x [] = refl
  any_inserted x (y ∷ ys) =
      elim (is_gt (cmp x y)) as (λ b. list_any p (cond b (y ∷ inserted cmp x ys) (x ∷ y ∷ ys)) ≡ (p x || (p y || list_any p ys))) [
        | true ↦ ap (λ b. p y || b) (any_inserted x ys) ∙ swapped (p y) (p x) (list_any p ys)
        | false ↦ refl
      ]

  pub any_sorted : (xs : List X) → list_any p (sorted cmp xs) ≡ list_any p xs
  any_sorted [] = refl
  any_sorted (x ∷ xs) = any_inserted x (sorted cmp xs) ∙ ap (λ b. p x || b) (any_sorted xs)

any_mapped : {X Y : Type 0} (p : Y → Bool) (f : X → Y) (xs : List X) → list_any p (map f xs) ≡ list_any (λ x. p (f x)) xs
any_mapped p f [] = refl
any_mapped p f (x ∷ xs) = ap (λ b. p (f x) || b) (any_mapped p f xs)

pub any_of_rows : (w : Windowed) (rows : List ℕ) (all : Partitioned) (of : ℕ → Option Meaning) → IsArranged w rows all
    → list_any is_none (map of rows) ≡ list_any is_none (each_row w of)
any_of_rows w rows all of arranged =
    any_mapped is_none of rows
    ∙ ap (list_any (λ i. is_none (of i))) arranged.sorted
    ∙ any_sorted (window_cmp w) (λ i. is_none (of i)) (places (length w.values))
    ∙ sym (any_mapped is_none of (places (length w.values)))

-- whether any is out of range does not depend on the order
pub refused_answers : {X : Type 0} (view : X → List Meaning) (fault : AnswerFault) (w : Windowed) (rows : List ℕ)
    (all : Partitioned) → IsArranged w rows all → (answer : Answer)
    → Gives {X = Unit {0}} (λ u. u) (Err fault) (unless (list_any is_none (window_answers answer all rows)) OutOfRange
    (tt {0})) → Gives view (Err fault) (answered w answer)
refused_answers view fault w rows all arranged answer h =
    let of = answer_on w answer in
    refused view fault (list_any is_none (window_answers answer all rows)) (list_any is_none (each_row w of))
    (answer_values (each_row w of)) h
    (λ e. sym (any_of_rows w rows all of arranged) ∙ ap (list_any is_none) (sym (window_is w rows all arranged answer)) ∙ e)

-- rows in the order of a window, as they are given to those who build partitions
pub arranged_as : (w : Windowed) (rows given : List ℕ) (all : Partitioned) (values keys : KeyRows) → given ≡ rows
    → rows ≡ sorted (window_cmp w) (places (length w.values))
    → key_lists values ≡ map (key_at w.values) rows → sort_keys values ≡ w.value_order
    → key_lists keys ≡ map (key_at w.keys) rows → sort_keys keys ≡ w.order
    → all.order ≡ sort_keys keys → all.keys ≡ key_lists keys → all.frame ≡ w.frame → Tiles 0 all.spans (length all.keys)
    → All (IsPartition (keys_cmp (sort_keys values)) (key_lists values)) all.spans → IsArranged w given all
arranged_as w rows given all values keys e is_sorted values_listed values_by keys_listed keys_by order listed frame tiles each =
    let P : List SortKey → Type 0 = λ k. All (IsPartition (keys_cmp k) (map (key_at w.values) given)) all.spans in
    let Q : List (List Meaning) → Type 0 = λ l. All (IsPartition (keys_cmp (sort_keys values)) l) all.spans in
    record {
      sorted = e ∙ is_sorted;
      keys = listed ∙ keys_listed ∙ ap (map (key_at w.keys)) (sym e);
      order = order ∙ keys_by;
      frame = frame;
      tiles = tiles;
      each = subst P values_by (subst Q (values_listed ∙ ap (map (key_at w.values)) (sym e)) each);
    }
