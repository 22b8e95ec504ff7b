-- Rows that are held in place of all that were gone over, and what a SELECT answers of them.
use Rattle.std.proofs.Common.{◌≡◌, ℕ, ◌+◌, ◌-◌, ◌<◌, ◌≤◌, ◌||◌, Bool, true, false, not, List, [], ◌∷◌, ◌++◌}
use Rattle.std.proofs.Common.{length, map, filter, take, drop, get_or, append_assoc, Option, Some, None, Ok}
use Rattle.std.proofs.Common.{append-nil, Global, Vec, true≢false, refl, sym, ap, ◌∙◌, subst, arith}
use Rattle.std.specs.Prelude.{IfSome}
use Rattle.std.specs.Borrow.{Bor}
use Rattle.std.specs.Cmp.{IsTotalOrder}
use Rattle.std.specs.List.{list_any}
use Rattle.std.specs.Ordering.{is_lt, on}
use Rattle.std.proofs.lemmas.Cmp.{on_total}
use Rattle.std.proofs.lemmas.List.{get_or-map, get_or-take, length-map, map-append}
use Rattle.wvalues.specs.declared.key.SortKey.{SortKey}
use Rattle.wvalues.specs.declared.value.Value.{Value}
use Rattle.wvalues.specs.Order.{keys_cmp}
use Rattle.wvalues.specs.OrderLaws.{keys_total}
use Rattle.wframe.specs.Peers.{key_at}
use Rattle.wframe.specs.Places.{places}
use Rattle.wframe.proofs.SortFacts.{all_sorted}
use Rattle.wrows.proofs.MoreSorting.{sorted_map}
use Rattle.wplan.specs.Formula.{Formula}
use Rattle.wplan.specs.Plans.{KeyPlan, OutputPlan, SelectPlan}
use Rattle.wrows.specs.declared.fault.AnswerFault.TheVariants.{OutOfRange}
use Rattle.wrows.specs.Outcomes.{unless, ◌>>=◌}
use Rattle.wrows.specs.Columns.{Row, is_out_of_range, lists_of, value_on}
use Rattle.wrows.specs.Laid.{row_seen, rows_seen}
use Rattle.wrows.specs.Plain.{cut, items_of, numbers_by, ordered}
use Rattle.wrows.proofs.RowFacts.{map-cut, places_below, then_ok}
use Rattle.wruns.specs.Runs.{keys_at, row_keys, run_of}
use Rattle.wtable.specs.declared.leading.LeadingRows.{LeadingRows}
use Rattle.wtable.specs.Leading.{AnswerForAll, AreInRange, Lead, comes_by, is_behind, row_cmp, rows_by}
use Rattle.wtable.specs.TableOrders.{AreColumns}
use Rattle.wtable.proofs.ColumnFacts.{by_columns, columns_presorted, map-alike}
use Rattle.wtable.proofs.FirstFacts as first
use Rattle.wcalls.proofs.WindowFacts.{all_places}

pub rows_total : (keys : List SortKey) → IsTotalOrder (row_cmp keys)
rows_total keys = on_total (row_keys keys) (keys_total keys)

pub none_yet : (keys : List SortKey) (most : ℕ) (l : LeadingRows) → l.rows.items ≡ [] → l.pivot ≡ None → Lead keys most [] l
none_yet keys most l e p = record {
  first = λ more. ap (λ rows. take most (rows_by keys (rows_seen rows ++ more))) e;
  pivot = subst (λ pivot. IfSome pivot (λ row. most ≤ length (filter (comes_by keys (row_seen row)) (rows_seen l.rows.items)))) (sym p) tt;
}

-- a row that is left out
late : (keys : List SortKey) (most : ℕ) (held : List Row) (row : Row) (pivot : Option (Bor (List Value)))
    → is_behind keys row pivot ≡ true → IfSome pivot (λ p. most ≤ length (filter (comes_by keys (row_seen p)) held))
    → most ≤ length (filter (comes_by keys row) held)
late keys most held row None h many = absurd (true≢false (sym h))
late keys most held row (Some p) h many =
    let not_before : is_lt (row_cmp keys row (row_seen p)) ≡ false = turned (is_lt (row_cmp keys row (row_seen p))) h in
    omega (arith, many, first.more_come (row_cmp keys) (rows_total keys) (row_seen p) row held not_before)
  where
    turned : (b : Bool) → not b ≡ true → b ≡ false
    turned false e = refl
    turned true e = absurd (true≢false (sym e))

pub left_out : (keys : List SortKey) (most : ℕ) (all : List Row) (l : LeadingRows) (row : Row) → Lead keys most all l
    → is_behind keys row l.pivot ≡ true → Lead keys most (all ++ row ∷ []) l
left_out keys most all l row lead h =
    let held : List Row = rows_seen l.rows.items in
    record {
      first = λ more.
          sym (first.left_out (row_cmp keys) (rows_total keys) row most held more (late keys most held row l.pivot h lead.pivot))
          ∙ lead.first (row ∷ more) ∙ ap (λ rows. take most (rows_by keys rows)) (sym (append_assoc all (row ∷ []) more));
      pivot = lead.pivot;
    }

-- a row that is held
pub held_too : (keys : List SortKey) (most : ℕ) (all : List Row) (l new : LeadingRows) (r : Bor (List Value)) → Lead keys most all l
    → new.rows.items ≡ l.rows.items ++ r ∷ [] → new.pivot ≡ l.pivot → Lead keys most (all ++ row_seen r ∷ []) new
held_too keys most all l new r lead e p =
    let held : List Row = rows_seen l.rows.items in
    let row : Row = row_seen r in
    let more_held : rows_seen new.rows.items ≡ held ++ row ∷ [] = ap rows_seen e ∙ map-append row_seen l.rows.items (r ∷ []) in
    record {
      first = λ more. ap (λ rows. take most (rows_by keys (rows ++ more))) more_held
          ∙ ap (λ rows. take most (rows_by keys rows)) (append_assoc held (row ∷ []) more) ∙ lead.first (row ∷ more)
          ∙ ap (λ rows. take most (rows_by keys rows)) (sym (append_assoc all (row ∷ []) more));
      pivot = subst (λ pivot. IfSome pivot (λ q. most ≤ length (filter (comes_by keys (row_seen q)) (rows_seen new.rows.items)))) (sym p)
          (subst (λ rows. IfSome l.pivot (λ q. most ≤ length (filter (comes_by keys (row_seen q)) rows))) (sym more_held)
          (go l.pivot lead.pivot));
    }
  where
    go : (pivot : Option (Bor (List Value)))
        → IfSome pivot (λ q. most ≤ length (filter (comes_by keys (row_seen q)) (rows_seen l.rows.items)))
        → IfSome pivot (λ q. most ≤ length (filter (comes_by keys (row_seen q)) (rows_seen l.rows.items ++ row_seen r ∷ [])))
    go None many = tt
    go (Some q) many =
        omega (arith, many, first.count_more (row_cmp keys) (rows_total keys) (row_seen q) (row_seen r) (rows_seen l.rows.items))

-- those that come first are left
pub pruned : (keys : List SortKey) (most : ℕ) (all : List Row) (l new : LeadingRows) → 0 < most → Lead keys most all l
    → rows_seen new.rows.items ≡ take most (rows_by keys (rows_seen l.rows.items))
    → IfSome new.pivot (λ last. most ≤ length new.rows.items)
    → IfSome new.pivot (λ last. last ≡ get_or new.rows.items (most - 1) last) → Lead keys most all new
pruned keys most all l new some lead is within last =
    record {
      first = λ more. ap (λ rows. take most (rows_by keys (rows ++ more))) is
          ∙ first.pruned (row_cmp keys) (rows_total keys) most (rows_seen l.rows.items) more ∙ lead.first more;
      pivot = go new.pivot within last;
    }
  where
    go : (pivot : Option (Bor (List Value))) → IfSome pivot (λ q. most ≤ length new.rows.items)
        → IfSome pivot (λ q. q ≡ get_or new.rows.items (most - 1) q)
        → IfSome pivot (λ q. most ≤ length (filter (comes_by keys (row_seen q)) (rows_seen new.rows.items)))
    go None w e = tt
    go (Some q) w e =
        let held : List Row = rows_seen l.rows.items in
        let ys : List Row = take most (rows_by keys held) in
        let seen : length ys ≡ length new.rows.items = sym (ap length is) ∙ length-map new.rows.items row_seen in
        let row : get_or ys (most - 1) (row_seen q) ≡ row_seen q =
        ap (λ rows. get_or rows (most - 1) (row_seen q)) (sym is)
        ∙ get_or-map row_seen new.rows.items (most - 1) q (row_seen q) (omega (arith, some, w)) ∙ ap row_seen (sym e) in
        let many : most ≤ length (filter (comes_by keys (get_or ys (most - 1) (row_seen q))) ys) =
        first.last_is_pivot (row_cmp keys) (rows_total keys) most (row_seen q) held some (omega (arith, some, w, seen)) in
        subst (λ rows. most ≤ length (filter (comes_by keys (row_seen q)) rows)) (sym is)
        (subst (λ r. most ≤ length (filter (comes_by keys r) ys)) row many)

-- the last of those that are left
pub last_left : (keys : List SortKey) (most : ℕ) (held rows : List (Bor (List Value))) (pivot : Option (Bor (List Value))) → 0 < most
    → rows_seen rows ≡ take most (rows_by keys (rows_seen held)) → IfSome pivot (λ last. most ≤ length rows)
    → IfSome pivot (λ last. last ≡ get_or rows (most - 1) last)
    → IfSome pivot (λ last. row_seen last ≡ get_or (rows_by keys (rows_seen held)) (most - 1) [])
last_left keys most held rows None some is within last = tt
last_left keys most held rows (Some q) some is within last =
    ap row_seen last ∙ sym (get_or-map row_seen rows (most - 1) q [] (omega (arith, some, within)))
    ∙ ap (λ ys. get_or ys (most - 1) []) is ∙ get_or-take most (rows_by keys (rows_seen held)) (most - 1) [] (omega (arith, some))

-- what a SELECT without windows answers of rows, by the rows in order
abbrev pub item_row : SelectPlan → Row → Row
item_row s row = map (λ t. value_on t row) (map (λ (o : OutputPlan). o.value) s.items)

none_at_fault : (ts : List Formula) → AreInRange ts → (rows : List Row)
    → list_any (λ row. list_any (λ t. is_out_of_range t row) ts) rows ≡ false
none_at_fault ts none [] = refl
none_at_fault ts none (row ∷ rows) =
    ap (λ b. b || list_any (λ row. list_any (λ t. is_out_of_range t row) ts) rows) (none row) ∙ none_at_fault ts none rows

rows_in_order : (keys : List SortKey) (f : Row → Row) (rows : List Row)
    → map (key_at (map f rows)) (run_of keys rows) ≡ map f (rows_by keys rows)
rows_in_order keys f rows =
    map-alike (λ i. i < length rows) (key_at (map f rows)) (λ i. f (key_at rows i)) (run_of keys rows)
    (λ i h. get_or-map f rows i [] [] h)
    (all_sorted (on (keys_at keys rows) (keys_cmp keys)) (on_total (keys_at keys rows) (keys_total keys)) (λ i. i < length rows)
    (places (length rows)) (places_below 0 (length rows) (length rows) (omega arith)))
    ∙ sym (map-map-rows (run_of keys rows))
    ∙ ap (map f) (sym (sorted_map (row_cmp keys) (key_at rows) (places (length rows))) ∙ ap (rows_by keys) (all_places [] rows))
  where
    map-map-rows : (is : List ℕ) → map f (map (key_at rows) is) ≡ map (λ i. f (key_at rows i)) is
    map-map-rows [] = refl
    map-map-rows (i ∷ is) = ap (λ l. f (key_at rows i) ∷ l) (map-map-rows is)

items_in_order : (width : ℕ) (s : SelectPlan) (keys : List SortKey) → AreInRange (map (λ (o : OutputPlan). o.value) s.items)
    → AreColumns width (map (λ (k : KeyPlan). k.value) s.keys) (map (λ (k : KeyPlan). k.order) s.keys) keys → (rows : List Row)
    → items_of s rows ≡ Ok (cut s.offset s.limit (map (item_row s) (rows_by keys rows)))
items_in_order width s keys none are rows =
    let ts = map (λ (o : OutputPlan). o.value) s.items in
    let order = map (λ (k : KeyPlan). k.order) s.keys in
    let items : List Row = map (item_row s) rows in
    let by : List Row = map (row_keys keys) rows in
    then_ok items (lists_of ts rows) (λ listed. lists_of (map (λ (k : KeyPlan). k.value) s.keys) rows >>= λ by. Ok (cut s.offset s.limit
    (ordered order by listed))) (ap (λ b. unless b OutOfRange items) (none_at_fault ts none rows))
    ∙ then_ok by (lists_of (map (λ (k : KeyPlan). k.value) s.keys) rows) (λ by. Ok (cut s.offset s.limit (ordered order by items)))
    (ap (λ fs. lists_of fs rows) are.named ∙ columns_presorted keys rows)
    ∙ ap (λ n. Ok (cut s.offset s.limit (map (key_at items) (numbers_by order by n)))) (length-map rows (item_row s))
    ∙ ap (λ ns. Ok (cut s.offset s.limit (map (key_at items) ns))) (by_columns order keys rows are.directed)
    ∙ ap (λ l. Ok (cut s.offset s.limit l)) (rows_in_order keys (item_row s) rows)

-- rows that agree in the first that are asked for
pub same_items : (width : ℕ) (s : SelectPlan) (keys : List SortKey) (most : ℕ) → AreInRange (map (λ (o : OutputPlan). o.value) s.items)
    → AreColumns width (map (λ (k : KeyPlan). k.value) s.keys) (map (λ (k : KeyPlan). k.order) s.keys) keys
    → ((rows all : List Row) → take most rows ≡ take most all → cut s.offset s.limit rows ≡ cut s.offset s.limit all)
    → (rows all : List Row) → take most (rows_by keys rows) ≡ take most (rows_by keys all) → items_of s rows ≡ items_of s all
same_items width s keys most none are asked rows all same =
    let f : Row → Row = item_row s in
    let R : List Row = rows_by keys rows in
    let A : List Row = rows_by keys all in
    items_in_order width s keys none are rows
    ∙ ap Ok (sym (map-cut f s.offset s.limit R) ∙ ap (map f) (asked R A same) ∙ map-cut f s.offset s.limit A)
    ∙ sym (items_in_order width s keys none are all)

-- so many of the first tell what is cut of all
pub cut_alike : (offset : ℕ) (limit : Option ℕ) (n most : ℕ) → limit ≡ Some n → most ≡ offset + n → (rows all : List Row)
    → take most rows ≡ take most all → cut offset limit rows ≡ cut offset limit all
cut_alike offset limit n most e sum rows all same =
    ap (λ l. cut offset l rows) e ∙ first.cut_of_taken offset n most rows sum ∙ ap (drop offset) same
    ∙ sym (first.cut_of_taken offset n most all sum) ∙ sym (ap (λ l. cut offset l all) e)

pub answers : (width : ℕ) (s : SelectPlan) (keys : List SortKey) (most : ℕ)
    → s.condition ≡ None → s.grouping ≡ None → length s.windows ≡ 0 → AreInRange (map (λ (o : OutputPlan). o.value) s.items)
    → AreColumns width (map (λ (k : KeyPlan). k.value) s.keys) (map (λ (k : KeyPlan). k.order) s.keys) keys
    → ((rows all : List Row) → take most rows ≡ take most all → cut s.offset s.limit rows ≡ cut s.offset s.limit all)
    → (all : List Row) (found : Option (Vec (Bor (List Value)) Global))
    → IfSome found (λ rows. take most (rows_by keys (rows_seen rows.items)) ≡ take most (rows_by keys all))
    → IfSome found (λ rows. length rows.items < 2048) → IfSome found (λ rows. AnswerForAll s all (rows_seen rows.items))
answers width s keys most condition grouping windows none are asked all None leads few = tt
answers width s keys most condition grouping windows none are asked all (Some rows) leads few = record {
  condition = condition;
  grouping = grouping;
  windows = windows;
  items = same_items width s keys most none are asked (rows_seen rows.items) all leads;
  few = subst (λ n. n < 2048) (sym (length-map rows.items row_seen)) few;
}

-- rows that stand for all, whatever follows
pub leads_alone : (keys : List SortKey) (most : ℕ) (all : List Row) (found : Option (Vec (Bor (List Value)) Global))
    → IfSome found (λ rows. (more : List Row)
    → take most (rows_by keys (rows_seen rows.items ++ more)) ≡ take most (rows_by keys (all ++ more)))
    → IfSome found (λ rows. take most (rows_by keys (rows_seen rows.items)) ≡ take most (rows_by keys all))
leads_alone keys most all None leads = tt
leads_alone keys most all (Some rows) leads =
    ap (λ l. take most (rows_by keys l)) (sym (append-nil (rows_seen rows.items))) ∙ leads []
    ∙ ap (λ l. take most (rows_by keys l)) (append-nil all)
