-- Rows of groups, and those that a condition keeps.
use Rattle.std.proofs.Common.{◌≡◌, ◌⊎◌, inl, inr, ℕ, zero, suc, ◌+◌, ◌*◌, ◌-◌, ◌<◌, ◌≤◌, ◌^◌, Bool, true, false, List, [], ◌∷◌, ◌++◌}
use Rattle.std.proofs.Common.{length, map, filter, take, drop, get_or, append_assoc, length-append, length-take-le, length-drop}
use Rattle.std.proofs.Common.{Result, Ok, Err, Option, Some, None, nat_lt, Vec, Global, refl, sym, ap, subst, ◌∙◌, arith}
use Rattle.std.specs.Borrow.{Bor}
use Rattle.std.specs.List.{list_any, flat_map, AllByRecursion}
use Rattle.std.proofs.lemmas.Bool.{cases_lt}
use Rattle.std.proofs.lemmas.Bool.Decides.{nat_tests}
use Rattle.std.proofs.lemmas.List.{length-map, map-append, get_or-map, flat_map_more, take_more}
use Rattle.std.proofs.lemmas.List.Elements.{All-get_or}
use Rattle.wvalues.specs.declared.value.Value.{Value}
use Rattle.wvalues.specs.Meaning.{Meaning, meaning}
use Rattle.wframe.specs.Places.{places}
use Rattle.wframe.specs.Peers.{key_at}
use Rattle.wplan.specs.Formula.{Formula}
use Rattle.wrows.specs.declared.fault.AnswerFault.{AnswerFault}
use Rattle.wrows.specs.declared.fault.AnswerFault.TheVariants.{OutOfRange, TooManyRows, NoMemory}
use Rattle.wrows.specs.Outcomes.{Gives, unless, ◌>>=◌, each}
use Rattle.wrows.specs.Columns.{Row, beside, held_rows, holds_on, in_range, is_out_of_range, not_too_many, value_at}
use Rattle.wrows.specs.LaidRows.{laid}
use Rattle.wrows.specs.Laid.{row_seen, rows_seen}
use Rattle.wrows.specs.Plain.{kept_of}
use Rattle.wrows.proofs.RowFacts.{laid_rows, laid_length, map-map, row_at, row_wide, places_more, length-places, then_ok}
use Rattle.waggregate.specs.Aggregating.{feed_of, aggregate_of}
use Rattle.wgroupby.specs.Held.{lists_in}
use Rattle.wgroup.specs.declared.found.Groups as memory
use Rattle.wplan.specs.Plans.{GroupCallPlan, GroupAggregate, GroupingOf, GroupingPlan}
use Rattle.wgroup.specs.Grouping.{Group, call_column, group_rows, grouping_answer, groups_of, groups_of_set}
use Rattle.wgroup.specs.Held.{all_groups, column_over, group_in, group_row, groups_in}
use Rattle.wgroup.specs.Sight.{slice_at}
use Rattle.wgroup.proofs.ListFacts.{all_kept, all_mapped, below_all, filter_le}
use Rattle.wgroup.proofs.ColumnFacts.{drop_next, drop_whole}
use Rattle.wgroup.proofs.SetFacts.{all_append, flat_append, front_le, flat-map, keyed_append, keyed_rows, map_itself}
use Rattle.wgroup.proofs.SetFacts.{map_of_flat, mapped_all, nothing_behind, rows_of_keys, rows_of_sets}

pub few_ok : {X : Type 0} (rows : List X) → length rows < 2 ^ 31 → not_too_many rows ≡ Ok rows
few_ok rows h =
    let e : nat_lt 2147483647 (length rows) ≡ false = grind (arith, nat_tests) in
    ap (λ b. unless b TooManyRows rows) e

pub many_err : {X : Type 0} (rows : List X) → 2147483647 < length rows → not_too_many rows ≡ Err TooManyRows
many_err rows h =
    let e : nat_lt 2147483647 (length rows) ≡ true = grind (arith, nat_tests) in
    ap (λ b. unless b TooManyRows rows) e

ok_same : {X : Type 0} (a b : List X) → ◌≡◌ {A = Result (List X) AnswerFault} (Ok a) (Ok b) → a ≡ b
ok_same a b e = cc

not_ok : {X : Type 0} (b : List X) → ◌≡◌ {A = Result (List X) AnswerFault} (Err TooManyRows) (Ok b) → ⊥
not_ok b e = cc

pub few_from_ok : {X : Type 0} (rows kept : List X) → not_too_many rows ≡ Ok kept → length kept < 2 ^ 31
few_from_ok rows kept e = by (cases_lt 2147483647 (length rows))
  where
    by : (2147483647 < length rows) ⊎ (length rows ≤ 2147483647) → length kept < 2 ^ 31
    by (inl h) = absurd (not_ok kept (sym (many_err rows h) ∙ e))
    by (inr h) = let is : rows ≡ kept = ok_same rows kept (sym (few_ok rows (omega (arith, h))) ∙ e) in omega (arith, h, ap length is)

-- few rows stay few
pub kept_is_held : (condition : Option Formula) (rows : List Row) → length rows < 2 ^ 31 → kept_of condition rows ≡ held_rows condition rows
kept_is_held None rows h = few_ok rows h
kept_is_held (Some t) rows h =
    elim (list_any (is_out_of_range t) rows) as (λ b. unless b OutOfRange (filter (holds_on t) rows) >>= not_too_many
    ≡ unless b OutOfRange (filter (holds_on t) rows)) [
      | true ↦ refl
      | false ↦ few_ok (filter (holds_on t) rows) (omega (arith, h, filter_le (holds_on t) rows))
    ]

held_all : (P : Row → Type 0) (condition : Option Formula) (rows held : List Row) → AllByRecursion P rows
    → held_rows condition rows ≡ Ok held → AllByRecursion P held
held_all P None rows held all e = let s : rows ≡ held = cc in subst (AllByRecursion P) s all
held_all P (Some t) rows held all e = by (list_any (is_out_of_range t) rows) e
  where
    by : (b : Bool) → unless b OutOfRange (filter (holds_on t) rows) ≡ Ok held → AllByRecursion P held
    by true e = absurd (cc)
    by false e = let s : filter (holds_on t) rows ≡ held = cc in subst (AllByRecursion P) s (all_kept P (holds_on t) rows all)

laid_wide : (w n : ℕ) (cells : List Value) → length cells ≡ n * w → AllByRecursion (λ row. length row ≡ w) (laid w n cells)
laid_wide w zero cells e = tt
laid_wide w (suc n) cells e =
    let s : suc n * w ≡ w + n * w = omega arith in
    let rest : length (drop w cells) ≡ length cells - w = length-drop w cells in (
      length-map (take w cells) meaning ∙ length-take-le w cells (omega (arith, e, s)),
      laid_wide w n (drop w cells)
          (omega (arith, e, s, rest)),
    )

-- the rows that are kept are as wide as all
pub kept_wide : (w n : ℕ) (cells : List Value) (condition : Option Formula) (rows kept : List (Bor (List Value)))
    → length cells ≡ n * w → rows_seen rows ≡ laid w n cells → n < 2 ^ 31 → length rows ≡ n
    → kept_of condition (rows_seen rows) ≡ Ok (rows_seen kept)
    → AllByRecursion (λ row. length (row_seen row) ≡ w) kept
kept_wide w n cells condition rows kept wide are few long e =
    let l : length (rows_seen rows) ≡ length rows = length-map rows row_seen in
    all_mapped (λ row. length row ≡ w) row_seen kept
    (held_all (λ row. length row ≡ w) condition (rows_seen rows) (rows_seen kept)
    (subst (AllByRecursion (λ row. length row ≡ w)) (sym are) (laid_wide w n cells wide))
    (sym (kept_is_held condition (rows_seen rows) (omega (arith, l, long, few))) ∙ e))

-- a group's row more
pub cells_more : (f : ℕ → List Meaning) (old before a b new : List Meaning) (place : ℕ)
    → before ≡ old ++ flat_map f (places place) → new ≡ (before ++ a) ++ b → a ++ b ≡ f place → new ≡ old ++ flat_map f (places (place + 1))
cells_more f old before a b new place so_far e here =
    e ∙ append_assoc before a b ∙ ap (λ l. before ++ l) here ∙ ap (λ l. l ++ f place) so_far
    ∙ flat_map_more f old (places place) place ∙ ap (λ l. old ++ flat_map f l) (sym (places_more 0 place place (omega arith)))

module _ (groups : memory.Groups) (columns : List (List Meaning)) (from : ℕ) where
  abbrev keys : List (List Meaning)
  keys = map (λ group. group.key) (groups_in groups)

  abbrev order : List ℕ
  order = groups.order.items

  pub keys_long : length keys ≡ length order
  keys_long = length-map (groups_in groups) (λ group. group.key) ∙ length-map order (group_in groups)

  there : (place : ℕ) → place < length order → get_or order place 0 < groups.count
  there place h = All-get_or (λ i. i < groups.count) order place 0 h groups.below

  key_there : (place : ℕ) → place < length order
      → key_at keys place ≡ key_at (laid groups.width groups.count groups.keys.items) (get_or order place 0)
  key_there place h =
      ap (λ ks. get_or ks place []) (map-map (λ group. group.key) (group_in groups) order)
      ∙ get_or-map (λ i. key_at (laid groups.width groups.count groups.keys.items) i) order place 0 [] h

  pub key_is : (place : ℕ) → place < length order
      → map meaning (slice_at groups.width groups.keys.items (get_or order place 0)) ≡ key_at keys place
  key_is place h = sym (row_at groups.width groups.count groups.keys.items (get_or order place 0) (there place h)) ∙ sym (key_there place h)

  row_long : (place : ℕ) → place < length order → length (group_row groups columns from place) ≡ groups.width + length columns
  row_long place h =
      let k : length (key_at keys place) ≡ groups.width = ap length (key_there place h) ∙ row_wide groups.width groups.count
      groups.keys.items (get_or order place 0) groups.laid (there place h) in
      let c : length (map (λ column. value_at column (from + place)) columns) ≡ length columns =
      length-map columns (λ column. value_at column (from + place)) in
      omega (arith, length-append (key_at keys place) (map (λ column. value_at column (from + place)) columns), k, c)

  pub rows_long : AllByRecursion (λ place. length (group_row groups columns from place) ≡ groups.width + length columns)
      (places (length order))
  rows_long = below_all (λ place. length (group_row groups columns from place) ≡ groups.width + length columns) (length order) row_long

-- the rows of the groups of some sets
abbrev pub sets_rows : List (List Meaning) → ℕ → List memory.Groups → List Row
sets_rows columns from [] = []
sets_rows columns from (g ∷ gs) = map (group_row g columns from) (places (length g.order.items)) ++ sets_rows columns
    (from + length g.order.items) gs

-- they are those of all groups
sets_are : (columns : List (List Meaning)) (from : ℕ) (sets : List memory.Groups)
    → sets_rows columns from sets ≡ keyed_rows columns from (map (λ group. group.key) (all_groups sets))
sets_are columns from [] = refl
sets_are columns from (g ∷ gs) =
    let keys : List memory.Groups → List (List Meaning) = λ sets. map (λ group. group.key) (all_groups sets) in
    let own : List (List Meaning) = map (λ group. group.key) (groups_in g) in
    let long : length own ≡ length g.order.items = keys_long g columns from in
    ap (λ n. map (group_row g columns from) (places n) ++ sets_rows columns (from + length g.order.items) gs) (sym long)
    ∙ ap (λ l. l ++ sets_rows columns (from + length g.order.items) gs) (rows_of_keys columns from own)
    ∙ ap (λ l. keyed_rows columns from own ++ l) (sets_are columns (from + length g.order.items) gs
    ∙ ap (λ n. keyed_rows columns (from + n) (keys gs)) (sym long))
    ∙ sym (keyed_append columns from own (keys gs)) ∙ ap (keyed_rows columns from)
    (sym (map-append (λ group. group.key) (groups_in g) (all_groups gs)))

rows_are : (columns : List (List Meaning)) (sets : List memory.Groups)
    → sets_rows columns 0 sets ≡ beside (map (λ group. group.key) (all_groups sets)) columns
rows_are columns sets = sets_are columns 0 sets ∙ rows_of_sets columns (map (λ group. group.key) (all_groups sets))

-- and of one width
sets_wide : (columns : List (List Meaning)) (width from : ℕ) (sets : List memory.Groups)
    → AllByRecursion (λ (g : memory.Groups). g.width ≡ width) sets
    → AllByRecursion (λ (row : Row). length row ≡ width + length columns) (sets_rows columns from sets)
sets_wide columns width from [] all = tt
sets_wide columns width from (g ∷ gs) all =
    all_append (λ (row : Row). length row ≡ width + length columns)
    (map (group_row g columns from) (places (length g.order.items))) (sets_rows columns (from + length g.order.items) gs)
    (mapped_all (λ (row : Row). length row ≡ width + length columns) (group_row g columns from) (places (length g.order.items))
    (subst (λ w. AllByRecursion (λ place. length (group_row g columns from place) ≡ w + length columns)
    (places (length g.order.items))) all.0 (rows_long g columns from)))
    (sets_wide columns width (from + length g.order.items) gs all.1)

-- the rows of a set more
pub cells_next : (columns : List (List Meaning)) (sets : List memory.Groups) (i : ℕ) (g : memory.Groups) (from next : ℕ)
    (all before after : List Meaning) → i < length sets → g ≡ get_or sets i g → next ≡ from + length g.order.items
    → all ≡ before ++ flat_map (λ row. row) (sets_rows columns from (drop i sets))
    → after ≡ before ++ flat_map (group_row g columns from) (places (length g.order.items))
    → all ≡ after ++ flat_map (λ row. row) (sets_rows columns next (drop (i + 1) sets))
cells_next columns sets i g from next all before after lt is e so_far new =
    let rest : List memory.Groups = drop (i + 1) sets in
    let rows : List Row = map (group_row g columns from) (places (length g.order.items)) in
    so_far ∙ ap (λ l. before ++ flat_map (λ row. row) (sets_rows columns from l)) (drop_next sets i g lt is)
    ∙ ap (λ l. before ++ l) (flat_append (λ row. row) rows (sets_rows columns (from + length g.order.items) rest)
    ∙ ap (λ l. l ++ flat_map (λ row. row) (sets_rows columns (from + length g.order.items) rest))
    (flat-map (λ row. row) (group_row g columns from) (places (length g.order.items))))
    ∙ sym (append_assoc before (flat_map (group_row g columns from) (places (length g.order.items)))
    (flat_map (λ row. row) (sets_rows columns (from + length g.order.items) rest)))
    ∙ ap (λ l. l ++ flat_map (λ row. row) (sets_rows columns (from + length g.order.items) rest)) (sym new)
    ∙ ap (λ n. after ++ flat_map (λ row. row) (sets_rows columns n rest)) (sym e)

pub count_next : (sets : List memory.Groups) (i : ℕ) (g : memory.Groups) (from next all : ℕ) → i < length sets
    → g ≡ get_or sets i g → next ≡ from + length g.order.items → from + length (all_groups (drop i sets)) ≡ all
    → next + length (all_groups (drop (i + 1) sets)) ≡ all
count_next sets i g from next all lt is e so_far =
    let one : length (all_groups (drop i sets)) ≡ length (groups_in g ++ all_groups (drop (i + 1) sets)) =
    ap (λ l. length (all_groups l)) (drop_next sets i g lt is) in
    omega (arith, e, so_far, one, length-append (groups_in g) (all_groups (drop (i + 1) sets)), length-map g.order.items (group_in g))

-- all rows, as they lie in memory
module _ (columns : List (List Meaning)) (width : ℕ) (sets : List memory.Groups) (cells : List Value) (count : ℕ) (i : ℕ)
    (wide : AllByRecursion (λ (g : memory.Groups). g.width ≡ width) sets) (end : length sets ≤ i)
    (as_cells : flat_map (λ row. row) (sets_rows columns 0 sets) ≡ map meaning cells ++ flat_map (λ row. row)
    (sets_rows columns count (drop i sets))) (counted : count + length (all_groups (drop i sets)) ≡ length (all_groups sets)) where
  none_left : drop i sets ≡ []
  none_left = drop_whole i sets end

  lie : map meaning cells ≡ flat_map (λ row. row) (sets_rows columns 0 sets)
  lie = sym (as_cells ∙ ap (λ l. map meaning cells ++ flat_map (λ row. row) (sets_rows columns count l)) none_left
      ∙ nothing_behind (map meaning cells))

  pub so_many : count ≡ length (all_groups sets)
  so_many = let none : length (all_groups (drop i sets)) ≡ 0 = ap (λ l. length (all_groups l)) none_left in omega (arith, counted, none)

  long : length (sets_rows columns 0 sets) ≡ count
  long = let l : length (sets_rows columns 0 sets) ≡ length (beside (map (λ group. group.key) (all_groups sets)) columns) =
      ap length (rows_are columns sets) in
      let keys : List (List Meaning) = map (λ group. group.key) (all_groups sets) in
      omega (
        arith,
        l,
        so_many,
        length-map (all_groups sets) (λ group. group.key),
        length-map (places (length keys))
            (λ i. key_at keys i ++ map (λ column. value_at column i) columns),
        length-places 0 (length keys),
      )

  pub lie_long : length cells ≡ count * (width + length columns)
  lie_long =
      sym (length-map cells meaning) ∙ ap length lie ∙ laid_length (width + length columns) (λ row. row)
      (sets_rows columns 0 sets) (sets_wide columns width 0 sets wide) ∙ ap (λ n. n * (width + length columns)) long

  pub lie_so : laid (width + length columns) count cells ≡ beside (map (λ group. group.key) (all_groups sets)) columns
  lie_so =
      ap (λ n. laid (width + length columns) n cells) (sym long) ∙ laid_rows (width + length columns) (λ row. row)
      (sets_rows columns 0 sets) (sets_wide columns width 0 sets wide) cells lie
      ∙ map_itself (sets_rows columns 0 sets) ∙ rows_are columns sets

-- what calls answer for each group, over the groups in memory
call_over : (rows : List Row) (sets : List memory.Groups) (call : GroupCallPlan) → call_column rows (all_groups sets) call
    ≡ column_over rows sets call
call_over rows sets (GroupAggregate a) =
    λ j. feed_of a rows >>= λ feed. in_range (map_of_flat (λ (group : Group). aggregate_of a.function feed group.rows)
    group_in (λ (g : memory.Groups). g.order.items) sets j)
call_over rows sets (GroupingOf columns) =
    ap in_range (map_of_flat (λ (group : Group). grouping_answer columns group.set) group_in (λ (g : memory.Groups). g.order.items) sets)

-- the meaning of grouped rows, over the groups in memory
pub grouped : (plan : GroupingPlan) (rows : List Row) (sets : List memory.Groups)
    → not_too_many (groups_of plan.columns plan.sets rows) ≡ Ok (all_groups sets)
    → group_rows plan rows ≡ (each (column_over rows sets) plan.calls >>= λ columns. held_rows plan.having
    (beside (map (λ group. group.key) (all_groups sets)) columns))
grouped plan rows sets are =
    then_ok (all_groups sets) (not_too_many (groups_of plan.columns plan.sets rows))
    (λ groups. each (call_column rows groups) plan.calls >>= λ columns. held_rows plan.having
    (beside (map (λ group. group.key) groups) columns)) are
    ∙ ap (λ column. each column plan.calls >>= λ columns. held_rows plan.having
    (beside (map (λ group. group.key) (all_groups sets)) columns)) (λ j call. call_over rows sets call j)

-- the same fault, of what is meant
pub same_fault : {A B Y : Type 0} (inner : A → Y) (view : B → Y) (fault : AnswerFault) (m n : Result Y AnswerFault) → m ≡ n
    → Gives inner (Err fault) m → Gives view (Err fault) n
same_fault inner view OutOfRange m n e h = sym e ∙ h
same_fault inner view TooManyRows m n e h = sym e ∙ h
same_fault inner view NoMemory m n e h = tt

-- the groups of one set more
pub groups_next : (columns : List ℕ) (rows : List Row) (sets : List (Vec ℕ Global)) (i : ℕ) (set : Vec ℕ Global)
    (g : memory.Groups) (found more : List memory.Groups) → i < length sets → set ≡ get_or sets i set
    → all_groups found ≡ groups_of columns (lists_in (take i sets)) rows
    → groups_in g ≡ groups_of_set columns rows set.items → more ≡ found ++ g ∷ []
    → all_groups more ≡ groups_of columns (lists_in (take (i + 1) sets)) rows
groups_next columns rows sets i set g found more lt is so_far here new =
    let of : List ℕ → List Group = groups_of_set columns rows in
    ap all_groups new ∙ flat_append groups_in found (g ∷ []) ∙ ap (λ l. all_groups found ++ l)
    (nothing_behind (groups_in g)) ∙ ap (λ l. l ++ groups_in g) so_far
    ∙ ap (λ l. groups_of columns (lists_in (take i sets)) rows ++ l) here
    ∙ sym (ap (λ l. groups_of columns (lists_in l) rows) (take_more sets i set lt ∙ ap (λ s. take i sets ++ s ∷ [])
    (sym is)) ∙ ap (flat_map of) (map-append (λ (s : Vec ℕ Global). s.items) (take i sets) (set ∷ []))
    ∙ flat_append of (lists_in (take i sets)) (set.items ∷ []) ∙ ap (λ l. flat_map of (lists_in (take i sets)) ++ l)
    (nothing_behind (of set.items)))

pub count_more : (found more : List memory.Groups) (g : memory.Groups) (count : ℕ) → count ≡ length (all_groups found)
    → more ≡ found ++ g ∷ [] → count + length g.order.items ≡ length (all_groups more)
count_more found more g count so_far new =
    let e : length (all_groups more) ≡ length (all_groups found ++ groups_in g) = ap (λ l. length (all_groups l)) new
    ∙ ap length (flat_append groups_in found (g ∷ []) ∙ ap (λ l. all_groups found ++ l) (nothing_behind (groups_in g))) in
    omega (arith, e, so_far, length-append (all_groups found) (groups_in g), length-map g.order.items (group_in g))

-- too many groups of the sets so far are too many of all
pub too_many : (columns : List ℕ) (rows : List Row) (sets : List (Vec ℕ Global)) (k : ℕ) (so_far : List Group)
    → so_far ≡ groups_of columns (lists_in (take k sets)) rows → 2147483647 < length so_far
    → not_too_many (groups_of columns (lists_in sets) rows) ≡ Err TooManyRows
too_many columns rows sets k so_far e h =
    let part : length (flat_map (λ (s : Vec ℕ Global). groups_of_set columns rows s.items) (take k sets)) ≤ length
    (flat_map (λ (s : Vec ℕ Global). groups_of_set columns rows s.items) sets) =
    front_le (λ (s : Vec ℕ Global). groups_of_set columns rows s.items) sets k in
    let a : length so_far ≡ length (flat_map (λ (s : Vec ℕ Global). groups_of_set columns rows s.items) (take k sets)) =
    ap length (e ∙ flat-map (groups_of_set columns rows) (λ (s : Vec ℕ Global). s.items) (take k sets)) in
    let b : length (groups_of columns (lists_in sets) rows)
    ≡ length (flat_map (λ (s : Vec ℕ Global). groups_of_set columns rows s.items) sets) =
    ap length (flat-map (groups_of_set columns rows) (λ (s : Vec ℕ Global). s.items) sets) in
    many_err (groups_of columns (lists_in sets) rows) (omega (arith, h, part, a, b))
