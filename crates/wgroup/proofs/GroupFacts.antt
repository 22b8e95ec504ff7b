-- Groups by the order of first sight, and by their keys.
use Rattle.std.proofs.Common.{◌≡◌, ℕ, ◌<◌, ◌==◌, true, false, not, List, [], ◌∷◌, length}
use Rattle.std.proofs.Common.{map, filter, get_or, All, Ordering, sym, ap, ◌∙◌, arith}
use Rattle.std.specs.Borrow.{Bor}
use Rattle.std.specs.List.{list_any, AllByRecursion}
use Rattle.std.specs.Ordering.{on}
use Rattle.std.proofs.lemmas.Bool.Decides.{nat_tests}
use Rattle.std.proofs.lemmas.List.{length-map, get_or-map}
use Rattle.std.proofs.lemmas.List.Elements.{recursion_from_All}
use Rattle.wvalues.specs.declared.value.Value.{Value}
use Rattle.wvalues.specs.Meaning.{Meaning, Null, meaning}
use Rattle.wvalues.specs.Order.{keys_cmp}
use Rattle.wframe.specs.Places.{places}
use Rattle.wframe.specs.Peers.{key_at}
use Rattle.wframe.specs.Sorting.{sorted}
use Rattle.wrows.specs.Columns.{Row}
use Rattle.wrows.specs.LaidRows.{laid}
use Rattle.wrows.specs.Laid.{row_seen, rows_seen}
use Rattle.wrows.specs.Plain.{numbers_by}
use Rattle.wrows.specs.Sorting.{ascending}
use Rattle.wrows.proofs.RowFacts.{all_of_each, row_at, map-map, places_below}
use Rattle.wgroup.specs.Grouping.{Group, SetColumns, agree, first_rows, group_cmp, group_key}
use Rattle.wgroup.specs.Grouping.{group_of, groups_by, groups_of_set, set_columns, set_value}
use Rattle.waggregate.specs.Grouped.{rows_of_group}
use Rattle.wgroup.specs.Sight.{IsSight, first_of, key_in, same_row, slice_at}
use Rattle.wgroup.proofs.ListFacts.{map_same, all_implied, at_places}
use Rattle.wgroup.proofs.KeyFacts.{cells_agree}
use Rattle.wgroup.proofs.SeenFacts.{agree_equiv}
use Rattle.wgroup.proofs.SightFacts.{rows_numbered}
use Rattle.wgroup.proofs.CoarserFacts.{sights_agree}
use Rattle.wrows.proofs.MoreSorting.{sorted_map, sorted_same}

pub keys_wide : (columns : SetColumns) (rows : List (Bor (List Value)))
    → AllByRecursion (λ r. length (key_in columns (row_seen r)) ≡ length columns) rows
keys_wide columns rows = all_of_each (λ r. length (key_in columns (row_seen r)) ≡ length columns)
    (λ r. length-map columns (set_value (row_seen r))) rows

pub group_keys_wide : (columns : SetColumns) (rows : List Row) (is : List ℕ)
    → AllByRecursion (λ i. length (group_key columns rows i) ≡ length columns) is
group_keys_wide columns rows is = all_of_each (λ i. length (group_key columns rows i) ≡ length columns)
    (λ i. length-map columns (set_value (key_at rows i))) is

module _ (columns : SetColumns) (rows : List (Bor (List Value))) where
  abbrev n : ℕ
  n = length rows

  abbrev w : ℕ
  w = length columns

  abbrev seen : List Row
  seen = rows_seen rows

  long : length seen ≡ length rows
  long = length-map rows row_seen

  -- rows are the same by their cells where they agree
  module _ (cells : List Value) (keyed : laid w n cells ≡ map (key_in columns) seen) where
    key_of : (i : ℕ) → i < n → key_at (laid w n cells) i ≡ group_key columns seen i
    key_of i h = ap (λ ks. get_or ks i []) keyed ∙ get_or-map (key_in columns) seen i [] [] (omega (arith, long, h))

    slice_key : (i : ℕ) → i < n → map meaning (slice_at w cells i) ≡ group_key columns seen i
    slice_key i h = sym (row_at w n cells i h) ∙ key_of i h

    key_wide : (i : ℕ) → length (group_key columns seen i) ≡ length columns
    key_wide i = length-map columns (set_value (key_at seen i))

    same_agrees : (i j : ℕ) → i < n → j < n → same_row w cells i j ≡ agree columns seen i j
    same_agrees i j h k = cells_agree columns (slice_at w cells i) (slice_at w cells j) (group_key columns seen i)
        (group_key columns seen j) (slice_key i h) (slice_key j k) (key_wide i) (key_wide j)

    pub rows_agree : (firsts numbers : List ℕ) → IsSight (same_row w cells) n firsts numbers → IsSight (agree columns seen) n firsts numbers
    rows_agree = sights_agree (same_row w cells) (agree columns seen) n same_agrees

  firsts_here : first_of (agree columns seen) n ≡ first_rows columns seen
  firsts_here = ap (λ m. filter (λ i. not (list_any (agree columns seen i) (places i))) (places m)) (sym long)

  module _ (set firsts order numbers : List ℕ) (keys : List Value) (count : ℕ)
      (sight : IsSight (agree columns seen) n firsts numbers)
      (are_keys : laid w (length firsts) keys ≡ map (group_key columns seen) firsts) (are_so_many : count ≡ length firsts)
      (in_order : order ≡ numbers_by (ascending columns) (laid w (length firsts) keys) (length firsts))
      (below : All (λ i. i < length firsts) order) where
    abbrev first : ℕ → ℕ
    first g = get_or firsts g 0

    key_here : (g : ℕ) → g < length firsts → key_at (laid w (length firsts) keys) g ≡ group_key columns seen (first g)
    key_here g h = ap (λ ks. get_or ks g []) are_keys ∙ get_or-map (group_key columns seen) firsts g 0 [] h

    rows_here : (g : ℕ) → g < length firsts → rows_of_group numbers g ≡ filter (agree columns seen (first g)) (places (length seen))
    rows_here g h = rows_numbered (agree columns seen) (agree_equiv columns seen) n firsts numbers sight g h
        ∙ ap (λ m. filter (agree columns seen (first g)) (places m)) (sym long)

    abbrev group : ℕ → Group
    group g = record { set = set; key = key_at (laid w count keys) g; rows = rows_of_group numbers g }

    group_here : (g : ℕ) → g < length firsts → group g ≡ group_of set columns seen (first g)
    group_here g h =
        let key : key_at (laid w count keys) g ≡ group_key columns seen (first g) =
        ap (λ m. key_at (laid w m keys) g) are_so_many ∙ key_here g h in
        let one : List Meaning → List ℕ → Group = λ k rs. record { set = set; key = k; rows = rs } in
        ap (λ k. one k (rows_of_group numbers g)) key ∙ ap (λ rs. one (group_key columns seen (first g)) rs) (rows_here g h)

    abbrev by_key : ℕ → ℕ → Ordering
    by_key = on (group_key columns seen) (group_cmp columns)

    order_here : map first order ≡ sorted by_key (first_rows columns seen)
    order_here =
        ap (map first) (in_order ∙ sorted_same (λ g. g < length firsts) (on (key_at (laid w (length firsts) keys))
        (keys_cmp (ascending columns))) (on first by_key)
        (λ x y h k. ap (λ a. group_cmp columns a (key_at (laid w (length firsts) keys) y)) (key_here x h)
        ∙ ap (λ b. group_cmp columns (group_key columns seen (first x)) b) (key_here y k))
        (places (length firsts)) (places_below 0 (length firsts) (length firsts) (omega arith)))
        ∙ sym (sorted_map by_key first (places (length firsts))) ∙ ap (sorted by_key) (at_places firsts 0 ∙ sight.are_firsts ∙ firsts_here)

    -- the groups in memory are those that are meant
    pub are_groups : map group order ≡ groups_by set columns seen
    are_groups =
        map_same group (λ g. group_of set columns seen (first g)) order
        (all_implied (λ g. g < length firsts) (λ g. group g ≡ group_of set columns seen (first g)) group_here order
        (recursion_from_All (λ i. i < length firsts) order below))
        ∙ sym (map-map (group_of set columns seen) first order) ∙ ap (map (group_of set columns seen)) order_here

pub some_length : {X : Type 0} (xs : List X) → false ≡ (length xs == 0) → 0 < length xs
some_length [] h = absurd (grind (arith, nat_tests))
some_length (x ∷ xs) h = omega arith

pub no_length : {X : Type 0} (xs : List X) → (length xs == 0) ≡ true → length xs ≡ 0
no_length xs h = grind (arith, nat_tests)

-- the groups of a set, which is empty or not
pub of_no_columns : (columns set : List ℕ) (rows : List (Bor (List Value))) (groups : List Group) → length set ≡ 0
    → groups ≡ record { set = []; key = map (λ c. Null) columns; rows = places (length rows) } ∷ []
    → groups ≡ groups_of_set columns (rows_seen rows) set
of_no_columns columns [] rows groups h e =
    let one : ℕ → List Group = λ n. record { set = []; key = map (λ c. Null) columns; rows = places n } ∷ [] in
    e ∙ ap one (sym (length-map rows row_seen))
of_no_columns columns (c ∷ cs) rows groups h e = absurd (omega arith)

pub of_columns : (columns set : List ℕ) (rows : List Row) (groups : List Group) → 0 < length set
    → groups ≡ groups_by set (set_columns columns set) rows → groups ≡ groups_of_set columns rows set
of_columns columns [] rows groups h e = absurd (omega arith)
of_columns columns (c ∷ cs) rows groups h e = e
