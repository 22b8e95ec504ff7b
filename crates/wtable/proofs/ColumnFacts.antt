-- Orders by plain columns: an order of all rows of the table, of which some are kept, tells the order of these.
use Rattle.std.proofs.Common.{◌≡◌, ℕ, zero, suc, ◌+◌, ◌-◌, ◌<◌, ◌≤◌, ◌||◌, Bool, true, false, cond, List, [], ◌∷◌, ◌++◌}
use Rattle.std.proofs.Common.{length, map, filter, get_or, Result, Ok, Err, Ordering, refl, sym, ap, ◌∙◌, subst, arith}
use Rattle.std.specs.Prelude.{All, IfSome, Option, Some}
use Rattle.std.specs.List.{AllByRecursion, list_any}
use Rattle.std.specs.Ordering.{is_gt, on, ordering_then, then_cmp}
use Rattle.std.proofs.lemmas.List.{get_or-map, length-map, map-append}
use Rattle.std.proofs.lemmas.List.Elements.{All-from_recursion, recursion_from_All}
use Rattle.wvalues.specs.declared.key.SortKey.{SortKey}
use Rattle.wvalues.specs.Meaning.{Meaning, Null, Int, Text}
use Rattle.wvalues.specs.Order.{key_cmp, keys_cmp}
use Rattle.wvalues.specs.OrderLaws.{keys_total}
use Rattle.std.proofs.lemmas.Cmp.{on_total}
use Rattle.wframe.proofs.SortFacts.{all_sorted}
use Rattle.wframe.specs.Peers.{key_at}
use Rattle.wframe.specs.Places.{places_from, places}
use Rattle.wframe.specs.Sorting.{inserted, sorted}
use Rattle.wplan.specs.Formula.{At, Formula}
use Rattle.wplan.specs.Plans.{KeyPlan, WindowPlan}
use Rattle.wrows.specs.declared.fault.AnswerFault.{AnswerFault}
use Rattle.wrows.specs.declared.fault.AnswerFault.TheVariants.{OutOfRange}
use Rattle.wrows.specs.Outcomes.{unless, ◌>>=◌}
use Rattle.wrows.specs.Columns.{Row, beside, is_out_of_range, lists_of, value_at, value_on}
use Rattle.wrows.specs.Plain.{numbers_by}
use Rattle.wrows.specs.Picked.{numbers_of}
use Rattle.wrows.specs.Sorting.{ascending}
use Rattle.wrows.proofs.MoreSorting.{sorted_same}
use Rattle.wrows.proofs.RowFacts.{all_of_each, length-places, map-map, places_below, then_ok}
use Rattle.wruns.specs.Lists.{ref}
use Rattle.wruns.specs.Orderings.{KeptInOrder, WindowInOrder, kept_numbers}
use Rattle.wruns.specs.Refs.{pieces_from, ref_cmp, refs, refs_by}
use Rattle.wruns.specs.Runs.{joined, keys_at, row_keys, run_of}
use Rattle.wruns.specs.declared.refs.RowRef.{RowRef}
use Rattle.wcalls.specs.Frames as frames
use Rattle.wcalls.specs.Windows.{Windowed, windowed}
use Rattle.wcalls.specs.Ordered.{Ordered, both_cmp, in_order, ordered_rows}
use Rattle.wtable.specs.TableOrders.{AreColumns, IsOrderFor, IsRowOf, RowOrder, by_keys, by_window, direction}
use Rattle.wcalls.proofs.WindowFacts.{all_places}

-- what keys are on rows
none_in_range : (keys : List SortKey) (row : Row) → list_any (λ t. is_out_of_range t row) (map (λ k. At k.col) keys) ≡ false
none_in_range [] row = refl
none_in_range (k ∷ keys) row = none_in_range keys row

none_at_fault : (keys : List SortKey) (rows : List Row)
    → list_any (λ row. list_any (λ t. is_out_of_range t row) (map (λ k. At k.col) keys)) rows ≡ false
none_at_fault keys [] = refl
none_at_fault keys (row ∷ rows) = ap (λ b. b || list_any (λ row. list_any (λ t. is_out_of_range t row)
    (map (λ k. At k.col) keys)) rows) (none_in_range keys row) ∙ none_at_fault keys rows

keys_on : (keys : List SortKey) (row : Row) → map (λ t. value_on t row) (map (λ k. At k.col) keys) ≡ row_keys keys row
keys_on [] row = refl
keys_on (k ∷ keys) row = ap (λ l. get_or row k.col Null ∷ l) (keys_on keys row)

keys_on_all : (keys : List SortKey) (rows : List Row) → map (λ row. map (λ t. value_on t row) (map (λ k. At k.col) keys))
    rows ≡ map (row_keys keys) rows
keys_on_all keys [] = refl
keys_on_all keys (row ∷ rows) = ap (λ r. r ∷ map (λ row. map (λ t. value_on t row) (map (λ k. At k.col) keys)) rows)
    (keys_on keys row) ∙ ap (λ l. row_keys keys row ∷ l) (keys_on_all keys rows)

pub columns_presorted : (keys : List SortKey) (rows : List Row) → lists_of (map (λ k. At k.col) keys) rows ≡ Ok (map (row_keys keys) rows)
columns_presorted keys rows =
    ap (λ b. unless b OutOfRange (map (λ row. map (λ t. value_on t row) (map (λ k. At k.col) keys)) rows)) (none_at_fault keys rows)
    ∙ ap Ok (keys_on_all keys rows)

-- the column of a key plays no part in its order
direction_same : (k : SortKey) (x y : Meaning) → key_cmp k x y ≡ key_cmp (direction k) x y
direction_same k Null Null = refl
direction_same k Null (Int y) = refl
direction_same k Null (Text y) = refl
direction_same k (Int x) Null = refl
direction_same k (Text x) Null = refl
direction_same k (Int x) (Int y) = refl
direction_same k (Text x) (Text y) = refl
direction_same k (Int x) (Text y) = refl
direction_same k (Text x) (Int y) = refl

directed : (order : List SortKey) (x y : List Meaning) → keys_cmp order x y ≡ keys_cmp (map direction order) x y
directed [] x y = refl
directed (k ∷ ks) [] [] = refl
directed (k ∷ ks) [] (y ∷ ys) = refl
directed (k ∷ ks) (x ∷ xs) [] = refl
directed (k ∷ ks) (x ∷ xs) (y ∷ ys) = ap (λ o. ordering_then o (keys_cmp ks xs ys)) (direction_same k x y)
    ∙ ap (ordering_then (key_cmp (direction k) x y)) (directed ks xs ys)

pub same_cmp : (order keys : List SortKey) → map direction order ≡ map direction keys → (x y : List Meaning)
    → keys_cmp order x y ≡ keys_cmp keys x y
same_cmp order keys e x y = directed order x y ∙ ap (λ ks. keys_cmp ks x y) e ∙ sym (directed keys x y)

-- rows by what their columns are
pub by_columns : (order keys : List SortKey) (rows : List Row) → map direction order ≡ map direction keys
    → numbers_by order (map (row_keys keys) rows) (length rows) ≡ run_of keys rows
by_columns order keys rows e =
    let lists = map (row_keys keys) rows in
    sorted_same (λ i. i < length rows) (on (key_at lists) (keys_cmp order)) (on (keys_at keys rows) (keys_cmp keys))
    (λ i j h k. same_cmp order keys e (key_at lists i) (key_at lists j) ∙ ap (λ a. keys_cmp keys a (key_at lists j))
    (get_or-map (row_keys keys) rows i [] [] h) ∙ ap (keys_cmp keys (keys_at keys rows i)) (get_or-map (row_keys keys) rows j [] [] k))
    (places (length rows)) (places_below 0 (length rows) (length rows) (omega arith))

-- a window of columns: its partition values and keys are what these are on the rows
abbrev pub window_made : WindowPlan → List SortKey → List SortKey → List Row → Windowed
window_made plan pk kk rows = record {
  values = map (row_keys pk) rows;
  value_order = ascending plan.partition;
  keys = map (row_keys kk) rows;
  order = map (λ (k : KeyPlan). k.order) plan.keys;
  frame = frames.frame_of plan.frame;
}

pub window_ordered : (width : ℕ) (plan : WindowPlan) (pk kk : List SortKey)
    → AreColumns width plan.partition (ascending plan.partition) pk
    → AreColumns width (map (λ k. k.value) plan.keys) (map (λ k. k.order) plan.keys) kk
    → (rows : List Row) → ordered_rows rows plan ≡ Ok (in_order (window_made plan pk kk rows))
window_ordered width plan pk kk p k rows =
    let V = map (row_keys pk) rows in
    let K = map (row_keys kk) rows in
    let values : lists_of plan.partition rows ≡ Ok V = ap (λ ts. lists_of ts rows) p.named ∙ columns_presorted pk rows in
    let others : lists_of (map (λ (k : KeyPlan). k.value) plan.keys) rows ≡ Ok K = ap (λ ts. lists_of ts rows) k.named
    ∙ columns_presorted kk rows in
    let made : List (List Meaning) → List (List Meaning) → Windowed = λ v b. record {
      values = v;
      value_order = ascending plan.partition;
      keys = b;
      order = map (λ (k : KeyPlan). k.order) plan.keys;
      frame = frames.frame_of plan.frame;
    } in
    let is : windowed rows plan ≡ Ok (window_made plan pk kk rows) =
    then_ok V (lists_of plan.partition rows) (λ v. lists_of (map (λ (k : KeyPlan). k.value) plan.keys) rows >>= λ b.
    Ok (made v b)) values ∙ then_ok K (lists_of (map (λ (k : KeyPlan). k.value) plan.keys) rows) (λ b. Ok (made V b)) others in
    then_ok (window_made plan pk kk rows) (windowed rows plan) (λ w. Ok (in_order w)) is

-- the order of a window of columns
pub window_presorted : (width : ℕ) (plan : WindowPlan) (pk kk : List SortKey)
    → AreColumns width plan.partition (ascending plan.partition) pk
    → AreColumns width (map (λ k. k.value) plan.keys) (map (λ k. k.order) plan.keys) kk → WindowInOrder
    → (rows : List Row) → by_window plan rows ≡ Ok (run_of (pk ++ kk) rows)
window_presorted width plan pk kk p k law rows =
    let V = map (row_keys pk) rows in
    let K = map (row_keys kk) rows in
    let vo = ascending plan.partition in
    let ko = map (λ (k : KeyPlan). k.order) plan.keys in
    then_ok (in_order (window_made plan pk kk rows)) (ordered_rows rows plan) (λ (o : Ordered). Ok o.rows)
    (window_ordered width plan pk kk p k rows)
    ∙ ap Ok (
    sorted_same (λ i. i ≡ i) (both_cmp V vo K ko) (then_cmp (on (key_at V) (keys_cmp pk)) (on (key_at K) (keys_cmp kk)))
    (λ x y h g. ap (λ o. ordering_then o (keys_cmp ko (key_at K x) (key_at K y))) (same_cmp vo pk p.directed (key_at V x)
    (key_at V y)) ∙ ap (ordering_then (keys_cmp pk (key_at V x) (key_at V y))) (same_cmp ko kk k.directed (key_at K x) (key_at K y)))
    (places (length V)) (all_of_each (λ i. i ≡ i) (λ i. refl) (places (length V)))
    ∙ ap (λ n. sorted (then_cmp (on (key_at V) (keys_cmp pk)) (on (key_at K) (keys_cmp kk))) (places n)) (length-map rows (row_keys pk))
    ∙ sym (law pk kk rows)
    )

-- columns that are reached in front of others
front : {X : Type 0} (xs ys : List X) (k : ℕ) (d : X) → k < length xs → get_or (xs ++ ys) k d ≡ get_or xs k d
front [] ys k d h = absurd (omega arith)
front (x ∷ xs) ys zero d h = refl
front (x ∷ xs) ys (suc k) d h = front xs ys k d (omega arith)

keys_front : (width : ℕ) (keys : List SortKey) (row more : Row) → AllByRecursion (λ (k : SortKey). k.col < width) keys
    → length row ≡ width → row_keys keys (row ++ more) ≡ row_keys keys row
keys_front width [] row more all h = refl
keys_front width (k ∷ keys) row more all h =
    ap (λ v. v ∷ row_keys keys (row ++ more)) (front row more k.col Null (omega (arith, all.0, h)))
    ∙ ap (λ l. get_or row k.col Null ∷ l) (keys_front width keys row more all.1 h)

pub map-alike : {X Y : Type 0} (P : X → Type 0) (f g : X → Y) (xs : List X) → ((x : X) → P x → f x ≡ g x) → AllByRecursion P xs
    → map f xs ≡ map g xs
map-alike P f g [] same all = refl
map-alike P f g (x ∷ xs) same all = ap (λ y. y ∷ map f xs) (same x all.0) ∙ ap (λ l. g x ∷ l) (map-alike P f g xs same all.1)

at_row : (width : ℕ) (rows : List Row) (i : ℕ) → AllByRecursion (λ row. length row ≡ width) rows → i < length rows
    → length (get_or rows i []) ≡ width
at_row width [] i all h = absurd (omega arith)
at_row width (row ∷ rows) zero all h = all.0
at_row width (row ∷ rows) (suc i) all h = at_row width rows i all.1 (omega arith)

pub beside_long : (rows : List Row) (columns : List (List Meaning)) → length (beside rows columns) ≡ length rows
beside_long rows columns = length-map (places (length rows)) (λ i. key_at rows i ++ map (λ column. value_at column i)
    columns) ∙ length-places 0 (length rows)

-- what stands behind the cells of rows plays no part in orders by columns
keys_beside : (width : ℕ) (keys : List SortKey) (rows : List Row) (columns : List (List Meaning))
    → AllByRecursion (λ (k : SortKey). k.col < width) keys → AllByRecursion (λ row. length row ≡ width) rows
    → map (row_keys keys) (beside rows columns) ≡ map (row_keys keys) rows
keys_beside width keys rows columns cols all =
    let more : ℕ → Row = λ i. map (λ column. value_at column i) columns in
    map-map (row_keys keys) (λ i. key_at rows i ++ more i) (places (length rows))
    ∙ map-alike (λ i. i < length rows) (λ i. row_keys keys (key_at rows i ++ more i)) (λ i. row_keys keys (key_at rows i))
    (places (length rows))
    (λ i h. keys_front width keys (key_at rows i) (more i) cols (at_row width rows i all h))
    (places_below 0 (length rows) (length rows) (omega arith))
    ∙ sym (map-map (row_keys keys) (key_at rows) (places (length rows))) ∙ ap (map (row_keys keys)) (all_places [] rows)

-- the order that ORDER BY asks for, by columns
pub keys_given : (width : ℕ) (plans : List KeyPlan) (keys : List SortKey)
    → AreColumns width (map (λ k. k.value) plans) (map (λ k. k.order) plans) keys
    → (columns : List (List Meaning)) (rows : List Row) → AllByRecursion (λ row. length row ≡ width) rows
    → by_keys plans columns rows ≡ Ok (run_of keys rows)
keys_given width plans keys are columns rows wide =
    let order = map (λ (k : KeyPlan). k.order) plans in
    let R = beside rows columns in
    ap (λ ts. numbers_of ts order R) are.named
    ∙ then_ok (map (row_keys keys) R) (lists_of (map (λ k. At k.col) keys) R) (λ by. Ok (numbers_by order by (length R)))
    (columns_presorted keys R)
    ∙ ap (λ by. Ok (numbers_by order by (length R))) (keys_beside width keys rows columns
    (recursion_from_All (λ (k : SortKey). k.col < width) keys are.within) wide)
    ∙ ap (λ n. Ok (numbers_by order (map (row_keys keys) rows) n)) (beside_long rows columns)
    ∙ ap Ok (by_columns order keys rows are.directed)

-- keys so far, and one more
pub columns_more : (width : ℕ) (values more : List Formula) (order orders : List SortKey) (keys found : List SortKey)
    (value : Formula) (asked key : SortKey) → AreColumns width values order keys → more ≡ values ++ value ∷ []
    → orders ≡ order ++ asked ∷ [] → found ≡ keys ++ key ∷ []
    → value ≡ At key.col → direction asked ≡ direction key → key.col < width → AreColumns width more orders found
columns_more width values more order orders keys found value asked key are v o f is by below = record {
  named = v ∙ ap (λ l. l ++ value ∷ []) are.named ∙ ap (λ x. map (λ k. At k.col) keys ++ x ∷ []) is
      ∙ sym (map-append (λ k. At k.col) keys (key ∷ [])) ∙ ap (map (λ k. At k.col)) (sym f);
  directed = ap (map direction) o ∙ map-append direction order (asked ∷ []) ∙ ap (λ l. l ++ direction asked ∷ [])
      are.directed ∙ ap (λ x. map direction keys ++ x ∷ []) by ∙ sym (map-append direction keys (key ∷ [])) ∙ ap (map direction) (sym f);
  within = subst (All (λ (k : SortKey). k.col < width)) (sym f) (All-from_recursion (λ (k : SortKey). k.col < width)
      (keys ++ key ∷ []) (all_more keys (recursion_from_All (λ (k : SortKey). k.col < width) keys are.within)));
}
  where
    all_more : (ks : List SortKey) → AllByRecursion (λ (k : SortKey). k.col < width) ks
        → AllByRecursion (λ (k : SortKey). k.col < width) (ks ++ key ∷ [])
    all_more [] all = (below, tt)
    all_more (k ∷ ks) all = (all.0, all_more ks all.1)

-- references are to rows of the segments
module _ (P : RowRef → Type 0) (cmp : RowRef → RowRef → Ordering) where
  put : (x : RowRef) (ys : List RowRef) → P x → AllByRecursion P ys → AllByRecursion P (inserted cmp x ys)
  put x [] h all = (h, tt)
  put x (y ∷ ys) h all = elim (is_gt (cmp x y)) as (λ b. AllByRecursion P
      (cond b (y ∷ inserted cmp x ys) (x ∷ y ∷ ys))) [ true ↦ (all.0, put x ys h all.1) | false ↦ (h, all) ]

  in_order_all : (xs : List RowRef) → AllByRecursion P xs → AllByRecursion P (sorted cmp xs)
  in_order_all [] all = tt
  in_order_all (x ∷ xs) all = put x (sorted cmp xs) all.0 (in_order_all xs all.1)

all_joined : (P : RowRef → Type 0) (xs ys : List RowRef) → AllByRecursion P xs → AllByRecursion P ys → AllByRecursion P (xs ++ ys)
all_joined P [] ys h k = k
all_joined P (x ∷ xs) ys h k = (h.0, all_joined P xs ys h.1 k)

weaken : (P Q : RowRef → Type 0) → ((r : RowRef) → P r → Q r) → (xs : List RowRef) → AllByRecursion P xs → AllByRecursion Q xs
weaken P Q f [] all = tt
weaken P Q f (x ∷ xs) all = (f x all.0, weaken P Q f xs all.1)

-- a row of the segments from a number on
record IsFrom (i : ℕ) (segments : List (List Row)) (r : RowRef) : Type 0 where
  pub low : i ≤ r.segment
  pub segment : r.segment < i + length segments
  pub row : r.row < length (get_or segments (r.segment - i) [])

piece_from : (i : ℕ) (rows : List Row) (more : List (List Row)) (a n : ℕ) → a + n ≤ length rows
    → AllByRecursion (IsFrom i (rows ∷ more)) (map (ref i) (places_from a n))
piece_from i rows more a zero h = tt
piece_from i rows more a (suc n) h =
    let none : i - i ≡ 0 = omega arith in (
      record {
        low = omega arith;
        segment = omega arith;
        row = subst (λ k. a < length (get_or (rows ∷ more) k [])) (sym none)
            (omega arith);
      },
      piece_from i rows more (a + 1) n (omega arith),
    )

next_from : (i : ℕ) (rows : List Row) (more : List (List Row)) (r : RowRef) → IsFrom (i + 1) more r → IsFrom i (rows ∷ more) r
next_from i rows more r p =
    let back : r.segment - i ≡ suc (r.segment - (i + 1)) = omega (arith, p.low) in
    record {
      low = omega (arith, p.low);
      segment = omega (arith, p.segment);
      row =
          subst (λ k. r.row < length (get_or (rows ∷ more) k [])) (sym back) p.row;
    }

all_from : (i : ℕ) (segments : List (List Row)) → AllByRecursion (IsFrom i segments) (joined (pieces_from i segments))
all_from i [] = tt
all_from i (rows ∷ more) =
    all_joined (IsFrom i (rows ∷ more)) (map (ref i) (places (length rows))) (joined (pieces_from (i + 1) more))
    (piece_from i rows more 0 (length rows) (omega arith))
    (weaken (IsFrom (i + 1) more) (IsFrom i (rows ∷ more)) (next_from i rows more) (joined (pieces_from (i + 1) more))
    (all_from (i + 1) more))

refs_within : (keys : List SortKey) (segments : List (List Row)) → AllByRecursion (IsRowOf segments) (refs_by keys segments)
refs_within keys segments =
    in_order_all (IsRowOf segments) (ref_cmp keys segments) (refs segments)
    (weaken (IsFrom 0 segments) (IsRowOf segments) (λ r p. record {
      segment = omega (arith, p.segment);
      row =
          subst (λ k. r.row < length (get_or segments k [])) (let e : r.segment - 0 ≡ r.segment = omega arith in e) p.row;
    })
    (refs segments) (all_from 0 segments))

wide_kept : (width : ℕ) (holds : Row → Bool) (rows : List Row) → AllByRecursion (λ row. length row ≡ width) rows
    → AllByRecursion (λ row. length row ≡ width) (filter holds rows)
wide_kept width holds [] all = tt
wide_kept width holds (row ∷ rows) all =
    elim (holds row) as (λ b. AllByRecursion (λ row. length row ≡ width)
    (cond b (row ∷ filter holds rows) (filter holds rows))) [
      | true ↦ (all.0, wide_kept width holds rows all.1)
      | false ↦ wide_kept width holds rows all.1
    ]

-- an order by keys that are columns is had from all rows
pub order_had : (width : ℕ) (segments : List (List Row)) (order : RowOrder) (keys : List SortKey) (found : List RowRef)
    → KeptInOrder → AllByRecursion (λ row. length row ≡ width) (joined segments)
    → ((rows : List Row) → AllByRecursion (λ row. length row ≡ width) rows → order rows ≡ Ok (run_of keys rows))
    → found ≡ refs_by keys segments → IsOrderFor segments order found
order_had width segments order keys found law wide presorted is = record {
  orders = λ holds. presorted (filter holds (joined segments)) (wide_kept width holds (joined segments) wide)
      ∙ ap Ok (sym (law holds keys segments)) ∙ ap (λ l. Ok (kept_numbers holds segments l)) (sym is);
  within = subst (All (IsRowOf segments)) (sym is) (All-from_recursion (IsRowOf segments) (refs_by keys segments)
      (refs_within keys segments));
}

-- numbers that are presorted are those of rows
pub below_presorted : (ts : List Formula) (order : List SortKey) (R : List Row) (numbers : List ℕ) (n : ℕ)
    → numbers_of ts order R ≡ Ok numbers → length R ≡ n → All (λ i. i < n) numbers
below_presorted ts order R numbers n e long = go (lists_of ts R) e
  where
    go : (by : Result (List (List Meaning)) AnswerFault) → (by >>= λ by. Ok (numbers_by order by (length R))) ≡ Ok numbers
        → All (λ i. i < n) numbers
    go (Ok by) h =
        let same : numbers_by order by (length R) ≡ numbers = cc in
        let cmp = on (key_at by) (keys_cmp order) in
        subst (All (λ i. i < n)) same (All-from_recursion (λ i. i < n) (sorted cmp (places (length R)))
        (all_sorted cmp (on_total (key_at by) (keys_total order)) (λ i. i < n) (places (length R))
        (places_below 0 (length R) n (omega (arith, long)))))
    go (Err fault) h = absurd (cc)

-- those that ORDER BY tells
pub below_keys : (plans : List KeyPlan) (columns : List (List Meaning)) (rows : List Row) (numbers : List ℕ) (n : ℕ)
    → by_keys plans columns rows ≡ Ok numbers → length rows ≡ n → All (λ i. i < n) numbers
below_keys plans columns rows numbers n e long = below_presorted (map (λ k. k.value) plans) (map (λ k. k.order) plans)
    (beside rows columns) numbers n e (beside_long rows columns ∙ long)

-- what holds where there is something
pub some_presorted : {X : Type 0} (P : X → Type 0) (o : Option X) (x : X) → o ≡ Some x → IfSome o P → P x
some_presorted {X = X} P o x e h =
    let Q : Option X → Type 0 = λ o. IfSome o P in
    subst Q e h
