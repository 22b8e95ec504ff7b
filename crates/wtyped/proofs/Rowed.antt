-- The rows of groups, the columns of calls and the rows of items have the types that are foretold.
use Rattle.std.proofs.Common.{◌≡◌, ◌&&◌, Bool, true, false, ℕ, zero, suc, pos, List, [], ◌∷◌, ◌++◌, map, length}
use Rattle.std.proofs.Common.{drop, Option, Some, None, Result, Ok, IfOk, refl, sym, ap, subst, ◌∙◌, true≢false}
use Rattle.std.specs.Prelude.{if◌then◌else◌, nat_lt, option_map, slice_get, slice_index_or, unwrap_or}
use Rattle.std.specs.List.{list_all, list_any}
use Rattle.std.specs.Ordering.{on}
use Rattle.std.proofs.lemmas.Bool.{and_parts, and_from, lt-ltb, ltb-true}
use Rattle.wvalues.specs.declared.key.SortKey.{SortKey}
use Rattle.wvalues.specs.Meaning.{Meaning, Null, Int}
use Rattle.wvalues.specs.Order.{keys_cmp}
use Rattle.wvalues.specs.Whole.{if_whole}
use Rattle.wscope.specs.declared.data_type.DataType.{DataType}
use Rattle.wscope.specs.declared.data_type.DataType.TheVariants as types
use Rattle.wframe.specs.Peers.{key_at}
use Rattle.wframe.specs.Places.{places}
use Rattle.wframe.specs.Sorting.{sorted}
use Rattle.wgroupby.specs.Sets.{grouping_of, is_among}
use Rattle.wplan.specs.Formula.{Formula, At}
use Rattle.wplan.specs.Plans.{GroupCallPlan, GroupAggregate, GroupingOf, GroupingPlan, KeyPlan, FunctionPlan, Lag}
use Rattle.wplan.specs.Plans.{Lead, FirstValue, LastValue, NthValue, Aggregated, CallPlan, OutputPlan, SelectPlan}
use Rattle.wrows.specs.declared.fault.AnswerFault.{AnswerFault}
use Rattle.wrows.specs.declared.fault.AnswerFault.TheVariants.{OutOfRange, TooManyRows}
use Rattle.wrows.specs.Columns as columns
use Rattle.wrows.specs.Columns.{Row, beside, column_of, held_rows, holds_on, is_out_of_range, lists_of, not_too_many, value_at}
use Rattle.wrows.specs.Outcomes.{◌>>=◌, each}
use Rattle.wrows.specs.Plain.{cut, kept_of, ordered}
use Rattle.wsort.specs.Ordered.{numbers_by}
use Rattle.wgroup.specs.Grouping.{Group, call_column, first_rows, group_cmp, group_key, group_of, group_rows}
use Rattle.wgroup.specs.Grouping.{grouping_answer, groups_of, groups_of_set, set_columns, set_value}
use Rattle.wcalls.specs.Calls.{each_row, numbers, values_read}
use Rattle.wcalls.specs.Functions.{function_column}
use Rattle.wcalls.specs.Windows.{Windowed, frame_of, row_at, windowed}
use Rattle.wplanner.specs.Answers as answers
use Rattle.wplanner.specs.Answers.{call_columns, items_of}
use Rattle.wtyped.specs.Exact.{are_of, is_of}
use Rattle.wtyped.specs.Plans.{call_types, function_type, group_call_type, group_call_types}
use Rattle.wtyped.specs.Plans.{item_types, known, types_at, with_type, with_types}
use Rattle.wtyped.specs.Typing.{beside as common_of, common, constant_type, formula_type, type_at, valued}
use Rattle.wtyped.proofs.Exactly.{constant, typed_is_exact}
use Rattle.wtyped.proofs.Feeding.{AllOf, AreNullable, Each, as_type, cell_typed, column_typed, folded_typed, in_range_typed}
use Rattle.wtyped.proofs.Feeding.{is_aggregate_nullable, is_nullable, number_typed, value_is}
use Rattle.wtyped.proofs.Lists.{at_below, at_or, dropped_all, each_flat, each_mapped, filtered_all, mapped_all, none_some}
use Rattle.wtyped.proofs.Lists.{places_all, some_is, sorted_all, taken_all, then_any, then_ok, unless_ok}
use Rattle.wtyped.proofs.Types as found
use Rattle.wtyped.proofs.Types.{parts}

-- types one after another

pub record First (o : Option DataType) (p : Option (List DataType)) (us : List DataType) : Type 0 where
  pub type : DataType
  pub rest : List DataType
  pub is : o ≡ Some type
  pub rest_is : p ≡ Some rest
  pub whole : us ≡ type ∷ rest

pub first_of_types : (o : Option DataType) (p : Option (List DataType)) (us : List DataType) → with_type o p ≡ Some us → First o p us
first_of_types None p us e = absurd (none_some us e)
first_of_types (Some t) None us e = absurd (none_some us e)
first_of_types (Some t) (Some ts) us e = record { type = t; rest = ts; is = refl; rest_is = refl; whole = sym (some_is (t ∷ ts) us e) }

pub record Both (o p : Option (List DataType)) (us : List DataType) : Type 0 where
  pub front : List DataType
  pub back : List DataType
  pub is_front : o ≡ Some front
  pub is_back : p ≡ Some back
  pub whole : us ≡ front ++ back

pub both_types : (o p : Option (List DataType)) (us : List DataType) → with_types o p ≡ Some us → Both o p us
both_types None p us e = absurd (none_some us e)
both_types (Some ts) None us e = absurd (none_some us e)
both_types (Some ts) (Some vs) us e = record {
  front = ts;
  back = vs;
  is_front = refl;
  is_back = refl;
  whole =
      sym (some_is (ts ++ vs) us e);
}

abbrev types_by : {C : Type 0} → (C → Option DataType) → List C → Option (List DataType)
types_by type [] = Some []
types_by type (c ∷ cs) = with_type (type c) (types_by type cs)

group_types_by : (ts : List DataType) (columns : List ℕ) (cs : List GroupCallPlan)
    → group_call_types ts columns cs ≡ types_by (group_call_type ts columns) cs
group_types_by ts columns [] = refl
group_types_by ts columns (c ∷ cs) = ap (with_type (group_call_type ts columns c)) (group_types_by ts columns cs)

abbrev call_type : List DataType → CallPlan → Option DataType
call_type ts c = function_type ts c.function

call_types_by : (ts : List DataType) (cs : List CallPlan) → call_types ts cs ≡ types_by (call_type ts) cs
call_types_by ts [] = refl
call_types_by ts (c ∷ cs) = ap (with_type (call_type ts c)) (call_types_by ts cs)

abbrev item_type : List DataType → OutputPlan → Option DataType
item_type ts i = known (valued (formula_type ts i.value))

item_types_by : (ts : List DataType) (is : List OutputPlan) → item_types ts is ≡ types_by (item_type ts) is
item_types_by ts [] = refl
item_types_by ts (i ∷ is) = ap (with_type (item_type ts i)) (item_types_by ts is)

places_by : (ts : List DataType) (ps : List ℕ) → types_at ps ts ≡ types_by (λ p. type_at p ts) ps
places_by ts [] = refl
places_by ts (p ∷ ps) = ap (with_type (type_at p ts)) (places_by ts ps)

all_nullable : {C : Type 0} (type : C → Option DataType) → ((c : C) (u : DataType) → type c ≡ Some u → is_nullable u ≡ true) → (cs : List C)
    (us : List DataType) → types_by type cs ≡ Some us → AreNullable us
all_nullable type step [] us e = ap (list_all is_nullable) (sym (some_is [] us e))
all_nullable type step (c ∷ cs) us e =
    let f = first_of_types (type c) (types_by type cs) us e in
    ap (list_all is_nullable) f.whole ∙ and_from _ _ (step c f.type f.is) (all_nullable type step cs f.rest f.rest_is)

-- columns

-- columns of which each has values of its type
abbrev pub are_columns : List DataType → List (List Meaning) → Bool
are_columns [] [] = true
are_columns (t ∷ ts) (c ∷ cs) = list_all (is_of t) c && are_columns ts cs
are_columns _ _ = false

abbrev pub Columns : List DataType → List (List Meaning) → Type 0
Columns us cs = are_columns us cs ≡ true

each_typed : {C : Type 0} (type : C → Option DataType) (column : C → Result (List Meaning) AnswerFault)
    → ((c : C) (u : DataType) → type c ≡ Some u → IfOk (column c) (Each u)) → (cs : List C) (us : List DataType)
    → types_by type cs ≡ Some us → IfOk (each column cs) (Columns us)
each_typed type column step [] us e = ap (λ (x : List DataType). are_columns x []) (sym (some_is [] us e))
each_typed type column step (c ∷ cs) us e =
    let f = first_of_types (type c) (types_by type cs) us e in
    then_ok (column c) (λ y. each column cs >>= λ ys. Ok (y ∷ ys)) (Each f.type) (Columns us) (step c f.type f.is)
    (λ y first. then_ok (each column cs) (λ ys. Ok (y ∷ ys)) (Columns f.rest) (Columns us) (each_typed type column step cs f.rest f.rest_is)
    (λ ys rest. ap (λ (x : List DataType). are_columns x (y ∷ ys)) f.whole ∙ and_from _ _ first rest))

cells_typed : (us : List DataType) (cs : List (List Meaning)) (i : ℕ) → Columns us cs → AreNullable us
    → are_of us (map (λ column. value_at column i) cs) ≡ true
cells_typed [] [] i c n = refl
cells_typed [] (x ∷ cs) i c n = absurd (true≢false (sym c))
cells_typed (u ∷ us) [] i c n = absurd (true≢false (sym c))
cells_typed (u ∷ us) (x ∷ cs) i c n =
    let p = and_parts _ _ c in
    let m = and_parts _ _ n in
    and_from _ _ (at_or (is_of u) x i Null p.0 m.0) (cells_typed us cs i p.1 m.1)

behind_of : (ts us : List DataType) (row cells : Row) → are_of ts row ≡ true → are_of us cells ≡ true
    → are_of (ts ++ us) (row ++ cells) ≡ true
behind_of [] us [] cells a b = b
behind_of [] us (m ∷ row) cells a b = absurd (true≢false (sym a))
behind_of (t ∷ ts) us [] cells a b = absurd (true≢false (sym a))
behind_of (t ∷ ts) us (m ∷ row) cells a b =
    let p = and_parts _ _ a in
    and_from _ _ p.0 (behind_of ts us row cells p.1 b)

abbrev is_below : {X : Type 0} → List X → ℕ → Bool
is_below xs i = nat_lt i (length xs)

all_below : {X : Type 0} (xs : List X) → list_all (is_below xs) (places (length xs)) ≡ true
all_below xs = places_all (is_below xs) (length xs) (λ i l. lt-ltb i (length xs) l)

pub beside_typed : (ts us : List DataType) (rows : List Row) (cs : List (List Meaning)) → AllOf ts rows → Columns us cs → AreNullable us
    → AllOf (ts ++ us) (beside rows cs)
beside_typed ts us rows cs a c n =
    mapped_all (is_below rows) (are_of (ts ++ us)) (λ i. key_at rows i ++ map (λ column. value_at column i) cs) (places (length rows))
    (λ i l. behind_of ts us (key_at rows i) (map (λ column. value_at column i) cs)
    (at_below (are_of ts) rows i [] a (ltb-true i (length rows) l)) (cells_typed us cs i c n))
    (all_below rows)

-- kept rows

held_typed : (ts : List DataType) (f : Option Formula) (rows : List Row) → AllOf ts rows → IfOk (held_rows f rows) (AllOf ts)
held_typed ts None rows a = a
held_typed ts (Some f) rows a =
    unless_ok (list_any (is_out_of_range f) rows) OutOfRange _ (AllOf ts) (filtered_all (are_of ts) (holds_on f) rows a)

pub few_typed : {X : Type 0} (xs : List X) (P : List X → Type 0) → P xs → IfOk (not_too_many xs) P
few_typed xs P h = unless_ok (nat_lt 2147483647 (length xs)) TooManyRows xs P h

pub kept_typed : (ts : List DataType) (f : Option Formula) (rows : List Row) → AllOf ts rows → IfOk (kept_of f rows) (AllOf ts)
kept_typed ts f rows a =
    then_ok (held_rows f rows) not_too_many (AllOf ts) (AllOf ts) (held_typed ts f rows a) (λ kept k. few_typed kept (AllOf ts) k)

-- groups

pub place_nullable : (ts : List DataType) (place : ℕ) (t : DataType) → AreNullable ts → type_at place ts ≡ Some t → is_nullable t ≡ true
place_nullable [] place t n e = absurd (none_some t e)
place_nullable (u ∷ ts) zero t n e = ap is_nullable (sym (some_is u t e)) ∙ (and_parts _ _ n).0
place_nullable (u ∷ ts) (suc place) t n e = place_nullable ts place t (and_parts _ _ n).1 e

pub places_nullable : (ts : List DataType) → AreNullable ts → (ps : List ℕ) (ks : List DataType) → types_at ps ts ≡ Some ks → AreNullable ks
places_nullable ts n ps ks e = all_nullable (λ p. type_at p ts) (λ p t is. place_nullable ts p t n is) ps ks (sym (places_by ts ps) ∙ e)

-- a cell of the row of a number, if there is one
cell_of_row : (ts : List DataType) (rows : List Row) (i place : ℕ) (t : DataType) → AllOf ts rows → is_nullable t ≡ true
    → type_at place ts ≡ Some t
    → is_of t (slice_index_or (key_at rows i) place Null) ≡ true
cell_of_row ts [] i place t a n e = n
cell_of_row ts (row ∷ rows) zero place t a n e =
    (typed_is_exact ts row (At place) t (and_parts _ _ a).0 e).1
cell_of_row ts (row ∷ rows) (suc i) place t a n e =
    cell_of_row ts rows i place t (and_parts _ _ a).1 n e

key_typed : (ts : List DataType) (rows : List Row) (set : List ℕ) (i : ℕ) → AllOf ts rows → AreNullable ts
    → (columns : List ℕ) (ks : List DataType)
    → types_at columns ts ≡ Some ks → are_of ks (group_key (set_columns columns set) rows i) ≡ true
key_typed ts rows set i a n [] ks e = ap (λ (x : List DataType). are_of x []) (sym (some_is [] ks e))
key_typed ts rows set i a n (c ∷ cs) ks e =
    let f = first_of_types (type_at c ts) (types_at cs ts) ks e in
    let v = place_nullable ts c f.type n f.is in
    ap (λ (x : List DataType). are_of x (group_key (set_columns (c ∷ cs) set) rows i)) f.whole
    ∙ and_from _ _
    (go f.type (is_among c set) v (cell_of_row ts rows i c f.type a v f.is)) (key_typed ts rows set i a n cs f.rest f.rest_is)
  where
    go : (t : DataType) (b : Bool) → is_nullable t ≡ true → is_of t (slice_index_or (key_at rows i) c Null) ≡ true
        → is_of t (set_value (key_at rows i) (if b then Some c else None)) ≡ true
    go t true v h = h
    go t false v h = v

no_key_typed : (ts : List DataType) → AreNullable ts → (columns : List ℕ) (ks : List DataType) → types_at columns ts ≡ Some ks
    → are_of ks (map (λ c. Null) columns) ≡ true
no_key_typed ts n [] ks e = ap (λ (x : List DataType). are_of x []) (sym (some_is [] ks e))
no_key_typed ts n (c ∷ cs) ks e =
    let f = first_of_types (type_at c ts) (types_at cs ts) ks e in
    ap (λ (x : List DataType). are_of x (map (λ d. Null) (c ∷ cs))) f.whole
    ∙ and_from _ _ (place_nullable ts c f.type n f.is) (no_key_typed ts n cs f.rest f.rest_is)

abbrev has_key : List DataType → Group → Bool
has_key ks g = are_of ks g.key

set_typed : (ts : List DataType) (rows : List Row) (columns : List ℕ) (ks : List DataType) (set : List ℕ) → AllOf ts rows → AreNullable ts
    → types_at columns ts ≡ Some ks → list_all (has_key ks) (groups_of_set columns rows set) ≡ true
set_typed ts rows columns ks [] a n e =
    and_from _ _ (no_key_typed ts n columns ks e) refl
set_typed ts rows columns ks (c ∷ cs) a n e =
    each_mapped (has_key ks) (group_of (c ∷ cs) (set_columns columns (c ∷ cs)) rows)
    (sorted (on (group_key (set_columns columns (c ∷ cs)) rows) (group_cmp (set_columns columns (c ∷ cs))))
    (first_rows (set_columns columns (c ∷ cs)) rows))
    (λ i. key_typed ts rows (c ∷ cs) i a n columns ks e)

pub groups_typed : (ts : List DataType) (g : GroupingPlan) (rows : List Row) (ks : List DataType) → AllOf ts rows → AreNullable ts
    → types_at g.columns ts ≡ Some ks → AllOf ks (map (λ (group : Group). group.key) (groups_of g.columns g.sets rows))
groups_typed ts g rows ks a n e =
    mapped_all (has_key ks) (are_of ks) (λ (group : Group). group.key) (groups_of g.columns g.sets rows) (λ group h. h)
    (each_flat (has_key ks) (groups_of_set g.columns rows) g.sets (λ set. set_typed ts rows g.columns ks set a n e))

group_call_nullable : (ts : List DataType) (columns : List ℕ) (c : GroupCallPlan) (u : DataType) → group_call_type ts columns c ≡ Some u
    → is_nullable u ≡ true
group_call_nullable ts columns (GroupAggregate a) u e = is_aggregate_nullable ts a u e
group_call_nullable ts columns (GroupingOf ps) u e =
    ap is_nullable (sym (found.held (list_all (λ p. is_among p columns) ps) types.Integer u e).1)

pub calls_nullable : (ts : List DataType) (columns : List ℕ) (cs : List GroupCallPlan) (us : List DataType)
    → group_call_types ts columns cs ≡ Some us
    → AreNullable us
calls_nullable ts columns cs us e =
    all_nullable (group_call_type ts columns) (group_call_nullable ts columns) cs us (sym (group_types_by ts columns cs) ∙ e)

group_call_typed : (ts : List DataType) (columns : List ℕ) (rows : List Row) (groups : List Group) → AllOf ts rows
    → (c : GroupCallPlan) (u : DataType)
    → group_call_type ts columns c ≡ Some u → IfOk (call_column rows groups c) (Each u)
group_call_typed ts columns rows groups a (GroupAggregate p) u e = folded_typed ts p u rows (λ (g : Group). g.rows) groups e a
group_call_typed ts columns rows groups a (GroupingOf ps) u e =
    let is = (found.held (list_all (λ p. is_among p columns) ps) types.Integer u e).1 in
    in_range_typed u (map (λ (g : Group). grouping_answer ps g.set) groups)
    (each_mapped (λ r. is_of u (unwrap_or r Null)) (λ (g : Group). grouping_answer ps g.set) groups
    (λ g. as_type types.Integer u (unwrap_or (grouping_answer ps g.set) Null) is (number_typed (if_whole (pos (grouping_of g.set ps))))))

pub group_calls_typed : (ts : List DataType) (columns : List ℕ) (rows : List Row) (groups : List Group)
    (cs : List GroupCallPlan) (us : List DataType)
    → AllOf ts rows → group_call_types ts columns cs ≡ Some us → IfOk (each (call_column rows groups) cs) (Columns us)
group_calls_typed ts columns rows groups cs us a e =
    each_typed (group_call_type ts columns) (call_column rows groups) (group_call_typed ts columns rows groups a) cs us
    (sym (group_types_by ts columns cs) ∙ e)

pub group_rows_typed : (ts : List DataType) (g : GroupingPlan) (rows : List Row) (ks us : List DataType) → AllOf ts rows → AreNullable ts
    → types_at g.columns ts ≡ Some ks → group_call_types ts g.columns g.calls ≡ Some us → IfOk (group_rows g rows) (AllOf (ks ++ us))
group_rows_typed ts g rows ks us a n e f =
    let keys : List Group → List Row = λ groups. map (λ (group : Group). group.key) groups in
    then_ok (not_too_many (groups_of g.columns g.sets rows)) (λ groups. each (call_column rows groups) g.calls >>= λ cs.
    held_rows g.having (beside (keys groups) cs)) (λ groups. AllOf ks (keys groups)) (AllOf (ks ++ us))
    (few_typed (groups_of g.columns g.sets rows) (λ groups. AllOf ks (keys groups)) (groups_typed ts g rows ks a n e))
    (λ groups k. then_ok (each (call_column rows groups) g.calls) (λ cs. held_rows g.having (beside (keys groups) cs))
    (Columns us) (AllOf (ks ++ us)) (group_calls_typed ts g.columns rows groups g.calls us a f)
    (λ cs c. held_typed (ks ++ us) g.having (beside (keys groups) cs) (beside_typed ks us (keys groups) cs k c
    (calls_nullable ts g.columns g.calls us f))))

-- functions

counts_typed : (w : Windowed) (u : DataType) (count : ℕ → ℕ) → types.Integer ≡ u → IfOk (numbers w count) (Each u)
counts_typed w u count e =
    each_mapped (is_of u) (λ i. Int (pos (count i))) (places (length w.values)) (λ i. as_type types.Integer u (Int (pos (count i))) e refl)

at_place_typed : (t : DataType) (w : Windowed) (values : List Meaning) (default : Meaning) (at_place : ℕ → Option ℕ) (i : ℕ)
    → is_nullable t ≡ true
    → Each t values → is_of t default ≡ true
    → is_of t (unwrap_or (option_map (λ place. value_at values (row_at w i place)) (at_place i)) default) ≡ true
at_place_typed t w values default at_place i n e d = go (at_place i)
  where
    go : (o : Option ℕ) → is_of t (unwrap_or (option_map (λ place. value_at values (row_at w i place)) o) default) ≡ true
    go None = d
    go (Some place) = at_or (is_of t) values (row_at w i place) Null e n

-- values of a type, each as one of a wider type, or a default
values_typed : (ts : List DataType) (rows : List Row) (w : Windowed) (f : Formula) (default : Meaning) (at_place : ℕ
    → Option ℕ) (t u : DataType)
    → formula_type ts f ≡ Some t → is_nullable t ≡ true → is_nullable u ≡ true → ((m : Meaning) → is_of t m ≡ true → is_of u m ≡ true)
    → is_of u default ≡ true → AllOf ts rows → IfOk (values_read w f rows default at_place) (Each u)
values_typed ts rows w f default at_place t u e n v wide d a =
    then_ok (column_of f rows) (λ values.
    Ok (each_row w (λ i. unwrap_or (option_map (λ place. value_at values (row_at w i place)) (at_place i)) default)))
    (Each t) (Each u) (column_typed ts f t rows e n a)
    (λ values h. each_mapped (is_of u) (λ i. unwrap_or (option_map (λ place. value_at values (row_at w i place))
    (at_place i)) default) (places (length w.values))
    (λ i. at_place_typed u w values default at_place i v (widened t u values wide h) d))
  where
    widened : (t u : DataType) (values : List Meaning) → ((m : Meaning) → is_of t m ≡ true → is_of u m ≡ true)
        → Each t values → Each u values
    widened t u [] wide h = refl
    widened t u (m ∷ ms) wide h =
        let p = and_parts _ _ h in
        and_from _ _ (wide m p.0) (widened t u ms wide p.1)

null_wide : (u : DataType) → is_nullable u ≡ true → (m : Meaning) → is_of types.Null m ≡ true → is_of u m ≡ true
null_wide u n Null e = n
null_wide u n _ e = absurd (true≢false (sym e))

-- what two types have in common
pub record Widens (a b c : DataType) : Type 0 where
  pub is_left : is_nullable a ≡ true
  pub nullable : is_nullable c ≡ true
  pub left : (m : Meaning) → is_of a m ≡ true → is_of c m ≡ true
  pub right : (m : Meaning) → is_of b m ≡ true → is_of c m ≡ true

same_wide : (t : DataType) → is_nullable t ≡ true → Widens t t t
same_wide t n = record { is_left = n; nullable = n; left = λ m h. h; right = λ m h. h }

left_wide : (t : DataType) → is_nullable t ≡ true → Widens t types.Null t
left_wide t n = record { is_left = n; nullable = n; left = λ m h. h; right = null_wide t n }

right_wide : (t : DataType) → is_nullable t ≡ true → Widens types.Null t t
right_wide t n = record { is_left = refl; nullable = n; left = null_wide t n; right = λ m h. h }

is_wide : (a b c d : DataType) → Some d ≡ Some c → Widens a b d → Widens a b c
is_wide a b c d e w = subst (Widens a b) (some_is d c e) w

pub common_wide : (a b c : DataType) → common a b ≡ Some c → Widens a b c
common_wide types.Integer types.Integer c e = is_wide types.Integer types.Integer c types.Integer e (same_wide types.Integer refl)
common_wide types.Integer types.Null c e = is_wide types.Integer types.Null c types.Integer e (left_wide types.Integer refl)
common_wide types.Text types.Text c e = is_wide types.Text types.Text c types.Text e (same_wide types.Text refl)
common_wide types.Text types.Null c e = is_wide types.Text types.Null c types.Text e (left_wide types.Text refl)
common_wide types.Null types.Integer c e = is_wide types.Null types.Integer c types.Integer e (right_wide types.Integer refl)
common_wide types.Null types.Text c e = is_wide types.Null types.Text c types.Text e (right_wide types.Text refl)
common_wide types.Null types.Null c e = is_wide types.Null types.Null c types.Null e (same_wide types.Null refl)
common_wide _ _ c e = absurd (none_some c e)

-- a value behind or before, with its default
pub record Moved (ts : List DataType) (f : Formula) (default : Meaning) (u : DataType) : Type 0 where
  pub type : DataType
  pub is : formula_type ts f ≡ Some type
  pub wide : Widens type (constant_type default) u

pub moved_is : (ts : List DataType) (f : Formula) (default : Meaning) (u : DataType)
    → common_of (formula_type ts f) (Some (constant_type default)) ≡ Some u
    → Moved ts f default u
moved_is ts f default u e =
    let p = parts (formula_type ts f) (Some (constant_type default)) u e in
    record {
      type = p.left;
      is = p.is_left;
      wide = subst (λ (t : DataType). Widens p.left t u) (sym (some_is (constant_type default) p.right p.is_right))
          (common_wide p.left p.right u p.one);
    }

moved_typed : (ts : List DataType) (rows : List Row) (w : Windowed) (f : Formula) (default : Meaning) (at_place : ℕ
    → Option ℕ) (u : DataType)
    → common_of (formula_type ts f) (Some (constant_type default)) ≡ Some u → AllOf ts rows
    → IfOk (values_read w f rows default at_place) (Each u)
moved_typed ts rows w f default at_place u e a =
    let m = moved_is ts f default u e in
    values_typed ts rows w f default at_place m.type u m.is m.wide.is_left m.wide.nullable m.wide.left
    (m.wide.right default (constant default)) a

plain_typed : (ts : List DataType) (rows : List Row) (w : Windowed) (f : Formula) (at_place : ℕ → Option ℕ) (u : DataType)
    → valued (formula_type ts f) ≡ Some u → AllOf ts rows → IfOk (values_read w f rows Null at_place) (Each u)
plain_typed ts rows w f at_place u e a =
    let v = value_is (formula_type ts f) u e in values_typed ts rows w f Null at_place u u v.is v.nullable v.nullable
    (λ m h. h) v.nullable a

function_typed : (ts : List DataType) (rows : List Row) (w : Windowed) → AllOf ts rows → (f : FunctionPlan) (u : DataType)
    → function_type ts f ≡ Some u
    → IfOk (function_column rows w f) (Each u)
function_typed ts rows w a (Lag f n d) u e = moved_typed ts rows w f d _ u e a
function_typed ts rows w a (Lead f n d) u e = moved_typed ts rows w f d _ u e a
function_typed ts rows w a (FirstValue f) u e = plain_typed ts rows w f _ u e a
function_typed ts rows w a (LastValue f) u e = plain_typed ts rows w f _ u e a
function_typed ts rows w a (NthValue f n) u e = plain_typed ts rows w f _ u e a
function_typed ts rows w a (Aggregated p) u e = folded_typed ts p u rows (frame_of w) (places (length w.values)) e a
function_typed ts rows w a _ u e = counts_typed w u _ (some_is types.Integer u e)

function_nullable : (ts : List DataType) (f : FunctionPlan) (u : DataType) → function_type ts f ≡ Some u → is_nullable u ≡ true
function_nullable ts (Lag f n d) u e = (moved_is ts f d u e).wide.nullable
function_nullable ts (Lead f n d) u e = (moved_is ts f d u e).wide.nullable
function_nullable ts (FirstValue f) u e = (value_is (formula_type ts f) u e).nullable
function_nullable ts (LastValue f) u e = (value_is (formula_type ts f) u e).nullable
function_nullable ts (NthValue f n) u e = (value_is (formula_type ts f) u e).nullable
function_nullable ts (Aggregated a) u e = is_aggregate_nullable ts a u e
function_nullable ts _ u e = ap is_nullable (sym (some_is types.Integer u e))

pub answers_nullable : (ts : List DataType) (cs : List CallPlan) (us : List DataType) → call_types ts cs ≡ Some us → AreNullable us
answers_nullable ts cs us e =
    all_nullable (call_type ts) (λ c. function_nullable ts c.function) cs us (sym (call_types_by ts cs) ∙ e)

call_typed : (ts : List DataType) (rows : List Row) (windows : List Windowed) → AllOf ts rows
    → (c : CallPlan) (u : DataType) → call_type ts c ≡ Some u
    → IfOk (answers.call_column rows windows c) (Each u)
call_typed ts rows windows a c u e = go (slice_get windows c.window)
  where
    go : (o : Option Windowed) → IfOk (answers.column_in rows c.function o) (Each u)
    go None = refl
    go (Some w) = function_typed ts rows w a c.function u e

pub columns_typed : (ts : List DataType) (s : SelectPlan) (rows : List Row) (us : List DataType) → AllOf ts rows
    → call_types ts s.calls ≡ Some us
    → IfOk (call_columns s rows) (Columns us)
columns_typed ts s rows us a e =
    then_any (each (windowed rows) s.windows) (λ windows. each (answers.call_column rows windows) s.calls) (Columns us)
    (λ windows. each_typed (call_type ts) (answers.call_column rows windows) (call_typed ts rows windows a) s.calls us
    (sym (call_types_by ts s.calls) ∙ e))

-- items

-- the type of an item, and that of its values
pub record Shows (o : Option DataType) (u : DataType) : Type 0 where
  pub type : DataType
  pub is : o ≡ Some type
  pub is_nullable : is_nullable type ≡ true
  pub nullable : is_of u Null ≡ true
  pub wide : (m : Meaning) → is_of type m ≡ true → is_of u m ≡ true

shows_same : (t u : DataType) → is_nullable t ≡ true → Some t ≡ Some u → Shows (Some t) u
shows_same t u n e =
    record {
      type = t;
      is = refl;
      is_nullable = n;
      nullable = ap is_nullable (sym (some_is t u e)) ∙ n;
      wide =
          λ m h. as_type t u m (some_is t u e) h;
    }

shows_text : (u : DataType) → Some types.Text ≡ Some u → Shows (Some types.Null) u
shows_text u e =
    let text = some_is types.Text u e in
    let n : is_nullable u ≡ true = ap is_nullable (sym text) in
    record { type = types.Null; is = refl; is_nullable = refl; nullable = n; wide = null_wide u n }

pub item_is : (o : Option DataType) (u : DataType) → known (valued o) ≡ Some u → Shows o u
item_is None u e = absurd (none_some u e)
item_is (Some types.Integer) u e = shows_same types.Integer u refl e
item_is (Some types.Text) u e = shows_same types.Text u refl e
item_is (Some types.Null) u e = shows_text u e
item_is (Some types.Truth) u e = absurd (none_some u e)

pub items_nullable : (ts : List DataType) (is : List OutputPlan) (us : List DataType) → item_types ts is ≡ Some us → AreNullable us
items_nullable ts is us e =
    all_nullable (item_type ts) (λ i u h. (item_is (formula_type ts i.value) u h).nullable) is us (sym (item_types_by ts is) ∙ e)

row_typed : (ts : List DataType) (row : Row) → are_of ts row ≡ true → (is : List OutputPlan) (us : List DataType)
    → types_by (item_type ts) is ≡ Some us
    → are_of us (map (λ t. columns.value_on t row) (map (λ (o : OutputPlan). o.value) is)) ≡ true
row_typed ts row a [] us e = ap (λ (x : List DataType). are_of x []) (sym (some_is [] us e))
row_typed ts row a (i ∷ is) us e =
    let f = first_of_types (item_type ts i) (types_by (item_type ts) is) us e in
    let s = item_is (formula_type ts i.value) f.type f.is in
    ap (λ (x : List DataType). are_of x (map (λ t. columns.value_on t row) (map (λ (o : OutputPlan). o.value) (i ∷ is)))) f.whole
    ∙ and_from _ _ (s.wide (columns.value_on i.value row) (cell_typed ts i.value s.type row s.is s.is_nullable a))
    (row_typed ts row a is f.rest f.rest_is)

ordered_typed : (us : List DataType) (order : List SortKey) (by shown : List Row) → AllOf us shown → AllOf us (ordered order by shown)
ordered_typed us order by shown a =
    mapped_all (is_below shown) (are_of us) (key_at shown) (numbers_by order by (length shown))
    (λ i l. at_below (are_of us) shown i [] a (ltb-true i (length shown) l))
    (sorted_all (is_below shown) (on (key_at by) (keys_cmp order)) (places (length shown)) (all_below shown))

cut_typed : (us : List DataType) (offset : ℕ) (limit : Option ℕ) (rows : List Row) → AllOf us rows → AllOf us (cut offset limit rows)
cut_typed us offset None rows a = dropped_all (are_of us) offset rows a
cut_typed us offset (Some limit) rows a = taken_all (are_of us) limit (drop offset rows) (dropped_all (are_of us) offset rows a)

pub items_typed : (ts : List DataType) (s : SelectPlan) (rows : List Row) (us : List DataType) → AllOf ts rows
    → item_types ts s.items ≡ Some us
    → IfOk (items_of s rows) (AllOf us)
items_typed ts s rows us a e =
    let items : List Formula = map (λ (o : OutputPlan). o.value) s.items in
    let keys : List Formula = map (λ (k : KeyPlan). k.value) s.keys in
    let order : List SortKey = map (λ (k : KeyPlan). k.order) s.keys in
    then_ok (lists_of items rows) (λ shown. lists_of keys rows >>= λ by. Ok (cut s.offset s.limit (ordered order by shown)))
    (AllOf us) (AllOf us)
    (unless_ok (list_any (λ row. list_any (λ t. is_out_of_range t row) items) rows) OutOfRange
    (map (λ row. map (λ t. columns.value_on t row) items) rows) (AllOf us)
    (mapped_all (are_of ts) (are_of us) (λ row. map (λ t. columns.value_on t row) items) rows
    (λ row h. row_typed ts row h s.items us (sym (item_types_by ts s.items) ∙ e)) a))
    (λ shown h. then_any (lists_of keys rows) (λ by. Ok (cut s.offset s.limit (ordered order by shown))) (AllOf us)
    (λ by. cut_typed us s.offset s.limit (ordered order by shown) (ordered_typed us order by shown h)))
