-- What an accepted query evaluates is exact, on the rows that execution makes.
use Rattle.std.proofs.Common.{◌≡◌, ◌&&◌, Bool, true, false, ℕ, List, [], ◌∷◌, ◌++◌, map, Option}
use Rattle.std.proofs.Common.{Some, None, Result, Ok, Err, IfOk, refl, sym, ap, subst, ◌∙◌}
use Rattle.std.specs.List.{AllByRecursion, flat_map}
use Rattle.std.proofs.lemmas.Bool.{and_parts, and_from}
use Rattle.wsegment.specs.Declaration.{Described}
use Rattle.wvalues.specs.Meaning.{Meaning}
use Rattle.wscope.specs.declared.data_type.DataType.{DataType}
use Rattle.wscope.specs.Sources.{answer_columns, declared_columns}
use Rattle.wplan.specs.Formula.{At}
use Rattle.wplan.specs.Plans.{GroupCallPlan, GroupAggregate, GroupingOf, GroupingPlan, KeyPlan, WindowPlan, FunctionPlan}
use Rattle.wplan.specs.Plans.{Lag, Lead, FirstValue, LastValue, NthValue, Aggregated, CallPlan, OutputPlan, SelectPlan}
use Rattle.wresolve.specs.Selecting.{resolved_query}
use Rattle.wrows.specs.declared.fault.AnswerFault.{AnswerFault}
use Rattle.wrows.specs.Columns.{Row, beside, not_too_many}
use Rattle.wrows.specs.Outcomes.{◌>>=◌, each}
use Rattle.wrows.specs.Plain.{kept_of}
use Rattle.wgroup.specs.Grouping.{Group, call_column, group_rows, groups_of}
use Rattle.wplanner.specs.Answers.{answer_of, call_columns, items_of, left_items, left_rows, select_of}
use Rattle.wtable.specs.Tables.{rows_of_view}
use Rattle.wtyped.specs.Laws.{types_of}
use Rattle.wtyped.specs.Plans.{answer_types, are_keys, are_windows, call_types, function_type, group_call_type, group_call_types}
use Rattle.wtyped.specs.Plans.{is_condition, is_having, is_value, is_window, item_types, known, query_types, row_types}
use Rattle.wtyped.specs.Plans.{select_types, shown_types, types_at, unless_ill, with_types}
use Rattle.wtyped.specs.Running.{AcceptedRunsTyped, Evaluation, IsExact, after, condition_on, function_on, group_call_on, grouping_on}
use Rattle.wtyped.specs.Running.{having_on, items_on, kept_on, left_on, on_each, query_on, select_on, window_on}
use Rattle.wtyped.specs.Typing.{formula_type, type_at, valued}
use Rattle.wtyped.proofs.Accepted.{accepted_is_typed}
use Rattle.wtyped.proofs.Feeding.{AllOf, AreNullable, aggregate_exact, condition_exact, exact_rows}
use Rattle.wtyped.proofs.Feeding.{some_value_exact, suits_value, value_exact}
use Rattle.wtyped.proofs.Lists.{behind_each, flat_each, mapped_each, none_some, some_is, then_ok}
use Rattle.wtyped.proofs.Rowed as rowed
use Rattle.wtyped.proofs.Rowed.{Columns, beside_typed, both_types, first_of_types}
use Rattle.wtyped.proofs.Table.{null_of, table_typed}

abbrev AreExact : List Evaluation → Type 0
AreExact es = AllByRecursion IsExact es

after_exact : {X : Type 0} (r : Result X AnswerFault) (f : X → List Evaluation) (P : X → Type 0) → IfOk r P
    → ((x : X) → P x → AreExact (f x))
    → AreExact (after r f)
after_exact (Ok x) f P h step = step x h
after_exact (Err fault) f P h step = tt

-- GROUP BY and HAVING

columns_exact : (ts : List DataType) (rows : List Row) → AllOf ts rows → AreNullable ts → (ps : List ℕ) (ks : List DataType)
    → types_at ps ts ≡ Some ks
    → AreExact (map (λ place. on_each rows (At place)) ps)
columns_exact ts rows a n [] ks e = tt
columns_exact ts rows a n (p ∷ ps) ks e =
    let f = first_of_types (type_at p ts) (types_at ps ts) ks e in (
      exact_rows (on_each rows (At p)) ts f.type f.is (λ x c. suits_value f.type x (rowed.place_nullable ts p f.type n f.is)
          c) rows a,
      columns_exact ts rows a n ps f.rest f.rest_is,
    )

group_call_exact : (ts : List DataType) (rows : List Row) (columns : List ℕ) (c : GroupCallPlan) (u : DataType) → AllOf ts rows
    → group_call_type ts columns c ≡ Some u → AreExact (group_call_on rows c)
group_call_exact ts rows columns (GroupAggregate p) u a e = aggregate_exact ts p u rows e a
group_call_exact ts rows columns (GroupingOf places) u a e = tt

group_calls_exact : (ts : List DataType) (rows : List Row) (columns : List ℕ) → AllOf ts rows
    → (cs : List GroupCallPlan) (us : List DataType)
    → group_call_types ts columns cs ≡ Some us → AreExact (flat_map (group_call_on rows) cs)
group_calls_exact ts rows columns a [] us e = tt
group_calls_exact ts rows columns a (c ∷ cs) us e =
    let f = first_of_types (group_call_type ts columns c) (group_call_types ts columns cs) us e in
    behind_each IsExact (group_call_on rows c) (flat_map (group_call_on rows) cs) (group_call_exact ts rows columns c f.type
    a f.is) (group_calls_exact ts rows columns a cs f.rest f.rest_is)

group_exact : (ts : List DataType) (g : GroupingPlan) (rows : List Row) (ks us : List DataType) → AllOf ts rows → AreNullable ts
    → types_at g.columns ts ≡ Some ks → group_call_types ts g.columns g.calls ≡ Some us → is_condition (ks ++ us) g.having ≡ true
    → AreExact (grouping_on (Some g) rows)
group_exact ts g rows ks us a n e f h =
    let keys : List Group → List Row = λ groups. map (λ (group : Group). group.key) groups in
    let calls = flat_map (group_call_on rows) g.calls in let having = after (not_too_many (groups_of g.columns g.sets rows))
    (having_on g rows) in
    behind_each IsExact (map (λ place. on_each rows (At place)) g.columns) (calls ++ having) (columns_exact ts rows a n g.columns ks e)
    (behind_each IsExact calls having (group_calls_exact ts rows g.columns a g.calls us f)
    (after_exact (not_too_many (groups_of g.columns g.sets rows)) (having_on g rows) (λ groups. AllOf ks (keys groups))
    (rowed.few_typed (groups_of g.columns g.sets rows) (λ groups. AllOf ks (keys groups)) (rowed.groups_typed ts g rows ks a n e))
    (λ groups k. after_exact (each (call_column rows groups) g.calls) (λ cs. condition_on (beside (keys groups) cs)
    g.having) (Columns us) (rowed.group_calls_typed ts g.columns rows groups g.calls us a f)
    (λ cs c. condition_exact (ks ++ us) g.having (beside (keys groups) cs) h (beside_typed ks us (keys groups) cs k c
    (rowed.calls_nullable ts g.columns g.calls us f))))))

-- what is left: kept rows or the rows of groups
record Left (ts rs : List DataType) (g : Option GroupingPlan) (rows : List Row) : Type 0 where
  exact : AreExact (grouping_on g rows)
  left : IfOk (left_rows g rows) (AllOf rs)
  nullable : AreNullable rs

behind_nullable : (ts us : List DataType) → AreNullable ts → AreNullable us → AreNullable (ts ++ us)
behind_nullable [] us n m = m
behind_nullable (t ∷ ts) us n m =
    let p = and_parts _ _ n in
    and_from _ _ p.0 (behind_nullable ts us p.1 m)

left_is : (ts rs : List DataType) (g : Option GroupingPlan) (rows : List Row) → AllOf ts rows → AreNullable ts → row_types ts g ≡ Some rs
    → is_having rs g ≡ true → Left ts rs g rows
left_is ts rs None rows a n e h =
    let is = some_is ts rs e in
    record { exact = tt; left = subst (λ (x : List DataType). AllOf x rows) is a; nullable = subst AreNullable is n }
left_is ts rs (Some g) rows a n e h =
    let b = both_types (types_at g.columns ts) (group_call_types ts g.columns g.calls) rs e in
    record {
      exact = group_exact ts g rows b.front b.back a n b.is_front b.is_back
          (ap (λ (x : List DataType). is_condition x g.having) (sym b.whole) ∙ h);
      left = subst (λ (x : List DataType). IfOk (group_rows g rows) (AllOf x)) (sym b.whole)
          (rowed.group_rows_typed ts g rows b.front b.back a n b.is_front b.is_back);
      nullable = subst AreNullable (sym b.whole)
          (behind_nullable b.front b.back (rowed.places_nullable ts n g.columns b.front b.is_front)
          (rowed.calls_nullable ts g.columns g.calls b.back b.is_back));
    }

-- windows and functions

keys_exact : (ts : List DataType) (rows : List Row) (ks : List KeyPlan) → AllOf ts rows → are_keys ts ks ≡ true
    → AreExact (map (λ (k : KeyPlan). on_each rows k.value) ks)
keys_exact ts rows ks a e = mapped_each IsExact (λ (k : KeyPlan). is_value ts k.value)
    (λ (k : KeyPlan). on_each rows k.value) ks (λ k h. some_value_exact ts rows k.value a h) e

window_exact : (ts : List DataType) (rows : List Row) (w : WindowPlan) → AllOf ts rows → is_window ts w ≡ true → AreExact (window_on rows w)
window_exact ts rows w a e =
    let p = and_parts _ _ e in
    let k = and_parts _ _ p.1 in
    behind_each IsExact (map (on_each rows) w.partition) (map (λ (k : KeyPlan). on_each rows k.value) w.keys)
    (mapped_each IsExact (is_value ts) (on_each rows) w.partition (λ f h. some_value_exact ts rows f a h) p.0)
    (keys_exact ts rows w.keys a k.0)

function_exact : (ts : List DataType) (rows : List Row) (f : FunctionPlan) (u : DataType) → AllOf ts rows
    → function_type ts f ≡ Some u → AreExact (function_on rows f)
function_exact ts rows (Lag f n d) u a e =
    let m = rowed.moved_is ts f d u e in
    (exact_rows (on_each rows f) ts m.type m.is (λ x c. suits_value m.type x m.wide.is_left c) rows a, tt)
function_exact ts rows (Lead f n d) u a e =
    let m = rowed.moved_is ts f d u e in
    (exact_rows (on_each rows f) ts m.type m.is (λ x c. suits_value m.type x m.wide.is_left c) rows a, tt)
function_exact ts rows (FirstValue f) u a e = (value_exact ts f u rows e a, tt)
function_exact ts rows (LastValue f) u a e = (value_exact ts f u rows e a, tt)
function_exact ts rows (NthValue f n) u a e = (value_exact ts f u rows e a, tt)
function_exact ts rows (Aggregated p) u a e = aggregate_exact ts p u rows e a
function_exact ts rows _ u a e = tt

calls_exact : (ts : List DataType) (rows : List Row) → AllOf ts rows → (cs : List CallPlan) (us : List DataType)
    → call_types ts cs ≡ Some us
    → AreExact (flat_map (λ (c : CallPlan). function_on rows c.function) cs)
calls_exact ts rows a [] us e = tt
calls_exact ts rows a (c ∷ cs) us e =
    let f = first_of_types (function_type ts c.function) (call_types ts cs) us e in
    behind_each IsExact (function_on rows c.function) (flat_map (λ (c : CallPlan). function_on rows c.function) cs)
    (function_exact ts rows c.function f.type a f.is) (calls_exact ts rows a cs f.rest f.rest_is)

values_exact : (ts : List DataType) (rows : List Row) → AllOf ts rows → (is : List OutputPlan) (us : List DataType)
    → item_types ts is ≡ Some us
    → AreExact (map (λ (i : OutputPlan). on_each rows i.value) is)
values_exact ts rows a [] us e = tt
values_exact ts rows a (i ∷ is) us e =
    let f = first_of_types (known (valued (formula_type ts i.value))) (item_types ts is) us e in
    let s = rowed.item_is (formula_type ts i.value) f.type f.is in (
      exact_rows (on_each rows i.value) ts s.type s.is (λ x c. suits_value s.type x s.is_nullable c) rows a,
      values_exact ts rows a is f.rest f.rest_is,
    )

-- one SELECT

-- its types, from those of its source to those of its items
record Typed (ts : List DataType) (s : SelectPlan) (us : List DataType) : Type 0 where
  row : List DataType
  calls : List DataType
  condition : is_condition ts s.condition ≡ true
  row_is : row_types ts s.grouping ≡ Some row
  having : is_having row s.grouping ≡ true
  windows : are_windows row s.windows ≡ true
  calls_are : call_types row s.calls ≡ Some calls
  keys : are_keys (row ++ calls) s.keys ≡ true
  items : item_types (row ++ calls) s.items ≡ Some us

not_ill : (b : Bool) (o : Option (List DataType)) (us : List DataType) → unless_ill b o ≡ Some us → (b ≡ true) × (o ≡ Some us)
not_ill true o us e = (refl, e)
not_ill false o us e = absurd (none_some us e)

typed_is : (ts : List DataType) (s : SelectPlan) (us : List DataType) → select_types ts s ≡ Some us → Typed ts s us
typed_is ts s us e =
    let p = not_ill (is_condition ts s.condition) (shown_types s (row_types ts s.grouping)) us e in
    by_row p.0 (row_types ts s.grouping) refl p.1
  where
    by_calls : (rs : List DataType) → is_condition ts s.condition ≡ true → row_types ts s.grouping ≡ Some rs
        → (is_having rs s.grouping && are_windows rs s.windows) ≡ true → (o : Option (List DataType)) → call_types rs s.calls ≡ o
        → answer_types s (with_types (Some rs) o) ≡ Some us → Typed ts s us
    by_calls rs c r w None is f = absurd (none_some us f)
    by_calls rs c r w (Some cs) is f =
        let h = and_parts _ _ w in
        let i = not_ill (are_keys (rs ++ cs) s.keys) (item_types (rs ++ cs) s.items) us f in
        record { row = rs; calls = cs; condition = c; row_is = r; having = h.0; windows = h.1; calls_are = is; keys = i.0; items = i.1 }

    by_row : is_condition ts s.condition ≡ true → (o : Option (List DataType)) → row_types ts s.grouping ≡ o
        → shown_types s o ≡ Some us → Typed ts s us
    by_row c None r f = absurd (none_some us f)
    by_row c (Some rs) r f =
        let p = not_ill (is_having rs s.grouping && are_windows rs s.windows)
        (answer_types s (with_types (Some rs) (call_types rs s.calls))) us f in
        by_calls rs c r p.0 (call_types rs s.calls) refl p.1

-- items and keys, over the row with what the calls answer
left_exact : (ts us : List DataType) (s : SelectPlan) (rows : List Row) (t : Typed ts s us) → AllOf t.row rows → AreNullable t.row
    → AreExact (left_on s rows) × IfOk (left_items s rows) (AllOf us)
left_exact ts us s rows t a n =
    let all = t.row ++ t.calls in
    let windows = flat_map (window_on rows) s.windows in let calls = flat_map (λ (c : CallPlan). function_on rows c.function) s.calls in
    let shown : (cs : List (List Meaning)) → Columns t.calls cs → AllOf all (beside rows cs) =
    λ cs c. beside_typed t.row t.calls rows cs a c (rowed.answers_nullable t.row s.calls t.calls t.calls_are) in
    let columns = rowed.columns_typed t.row s rows t.calls a t.calls_are in (
      behind_each IsExact windows (calls ++ after (call_columns s rows) (λ cs. items_on s (beside rows cs)))
          (flat_each IsExact (is_window t.row) (window_on rows) s.windows (λ w h. window_exact t.row rows w a h) t.windows)
          (behind_each IsExact calls (after (call_columns s rows) (λ cs. items_on s (beside rows cs)))
          (calls_exact t.row rows a s.calls t.calls t.calls_are)
          (after_exact (call_columns s rows) (λ cs. items_on s (beside rows cs)) (Columns t.calls) columns
          (λ cs c. behind_each IsExact (map (λ (i : OutputPlan). on_each (beside rows cs) i.value) s.items)
          (map (λ (k : KeyPlan). on_each (beside rows cs) k.value) s.keys)
          (values_exact all (beside rows cs) (shown cs c) s.items us t.items) (keys_exact all (beside rows cs) s.keys
          (shown cs c) t.keys)))),
      then_ok (call_columns s rows) (λ cs. items_of s (beside rows cs)) (Columns t.calls) (AllOf us) columns
          (λ cs c. rowed.items_typed all s (beside rows cs) us (shown cs c) t.items),
    )

select_exact : (ts us : List DataType) (s : SelectPlan) (rows : List Row) → select_types ts s ≡ Some us → AllOf ts rows → AreNullable ts
    → AreExact (select_on s rows) × IfOk (select_of s rows) (AllOf us) × AreNullable us
select_exact ts us s rows e a n =
    let t = typed_is ts s us e in
    let left : (kept : List Row) → AllOf ts kept → Left ts t.row s.grouping kept =
    λ kept k. left_is ts t.row s.grouping kept k n t.row_is t.having in
    let kept = rowed.kept_typed ts s.condition rows a in (
      behind_each IsExact (condition_on rows s.condition) (after (kept_of s.condition rows) (kept_on s))
          (condition_exact ts s.condition rows t.condition a)
          (after_exact (kept_of s.condition rows) (kept_on s) (AllOf ts) kept
          (λ ks k. behind_each IsExact (grouping_on s.grouping ks) (after (left_rows s.grouping ks) (left_on s)) (left ks k).exact
          (after_exact (left_rows s.grouping ks) (left_on s) (AllOf t.row) (left ks k).left
          (λ ls l. (left_exact ts us s ls t l (left ks k).nullable).0)))),
      then_ok (kept_of s.condition rows) (λ ks. left_rows s.grouping ks >>= left_items s) (AllOf ts) (AllOf us) kept
          (λ ks k. then_ok (left_rows s.grouping ks) (left_items s) (AllOf t.row) (AllOf us) (left ks k).left
          (λ ls l. (left_exact ts us s ls t l (left ks k).nullable).1)),
      rowed.items_nullable (t.row ++ t.calls) s.items us t.items,
    )

-- queries

none_stays : (ps : List SelectPlan) → query_types None ps ≡ None
none_stays [] = refl
none_stays (p ∷ ps) = none_stays ps

-- what is to be shown of a query on rows of some types
abbrev Runs : List SelectPlan → List DataType → List DataType → Type 0
Runs ps ts us =
    (rows : List Row) → query_types (Some ts) ps ≡ Some us → AllOf ts rows → AreNullable ts
    → AreExact (query_on ps rows) × IfOk (answer_of ps rows) (AllOf us)

query_exact : (ps : List SelectPlan) (ts us : List DataType) → Runs ps ts us
query_exact [] ts us rows e a n = (tt, subst (λ (x : List DataType). AllOf x rows) (some_is ts us e) a)
query_exact (s ∷ ss) ts us rows e a n = by_types (select_types ts s) refl e (λ vs. query_exact ss vs us)
  where
    by_types : (o : Option (List DataType)) → select_types ts s ≡ o → query_types o ss ≡ Some us → ((vs : List DataType) → Runs ss vs us)
        → AreExact (query_on (s ∷ ss) rows) × IfOk (answer_of (s ∷ ss) rows) (AllOf us)
    by_types None is f rest = absurd (none_some us (sym (none_stays ss) ∙ f))
    by_types (Some vs) is f rest =
        let x = select_exact ts vs s rows is a n in (
          behind_each IsExact (select_on s rows) (after (select_of s rows) (query_on ss)) x.0
              (after_exact (select_of s rows) (query_on ss) (AllOf vs) x.1 (λ rs r. (rest vs rs f r x.2).0)),
          then_ok (select_of s rows) (answer_of ss) (AllOf vs) (AllOf us) x.1 (λ rs r. (rest vs rs f r x.2).1),
        )

declared_nullable : (cs : List Described) → AreNullable (types_of (declared_columns cs))
declared_nullable [] = refl
declared_nullable (c ∷ cs) =
    and_from _ _ (null_of c.kind) (declared_nullable cs)

pub accepted_runs_typed : AcceptedRunsTyped
accepted_runs_typed d v q distinct shaped accepted =
    let rows = rows_of_view d v in let ts = types_of (declared_columns d.columns) in
    let table = table_typed d v distinct in
    let x = query_exact (resolved_query d q) ts (types_of (answer_columns d q)) rows (accepted_is_typed d q shaped accepted)
    table (declared_nullable d.columns) in
    record { table = table; evaluated = x.0; answered = x.1 }
