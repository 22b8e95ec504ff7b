-- What expressions, aggregates and functions come to on rows of some types has their types.
use Rattle.std.proofs.Common.{◌≡◌, Bool, true, false, ℕ, ℤ, List, [], ◌∷◌, map, Option}
use Rattle.std.proofs.Common.{Some, None, Ok, IfOk, refl, sym, ap, ◌∙◌, true≢false}
use Rattle.std.specs.Prelude.{if◌then◌else◌, option_map, slice_index_or, unwrap_or}
use Rattle.std.specs.List.{AllByRecursion, list_all, list_any}
use Rattle.std.specs.Option as options
use Rattle.std.proofs.lemmas.Bool.{and_parts}
use Rattle.wvalues.specs.Meaning.{Meaning, Null, Int}
use Rattle.wvalues.specs.Whole.{if_whole}
use Rattle.wscope.specs.declared.data_type.DataType.{DataType}
use Rattle.wscope.specs.declared.data_type.DataType.TheVariants as types
use Rattle.wslide.specs.Aggregates as slides
use Rattle.wslide.specs.Aggregates.{by_value, by_value_descending, fed, passes, sum_of}
use Rattle.wframe.specs.Sorting.{sorted}
use Rattle.wplan.specs.Formula.{Formula}
use Rattle.wplan.specs.Plans.{AggregatePlan}
use Rattle.weval.specs.Values.{Outcome, Held, Judged, TooLarge, value_in, value_of}
use Rattle.wplan.specs.declared.resolved.AggregateFunction.{AggregateFunction}
use Rattle.wplan.specs.declared.resolved.AggregateFunction.TheVariants.{CountRows, Count, Sum, Min, Max}
use Rattle.wrows.specs.declared.fault.AnswerFault.TheVariants.{OutOfRange}
use Rattle.wrows.specs.Columns as columns
use Rattle.wrows.specs.Columns.{Row, column_of, filter_of, in_range, is_out_of_range}
use Rattle.wrows.specs.Outcomes.{◌>>=◌}
use Rattle.waggregate.specs.Aggregating as aggregating
use Rattle.waggregate.specs.Aggregating.{Feed, fed_values, feed_of, first_or_null, sum_or_null}
use Rattle.wtyped.specs.Exact.{are_of, comes_as, is_of}
use Rattle.wtyped.specs.Plans.{aggregate_of, aggregate_type, is_any, is_condition, is_value, unless_wrong}
use Rattle.wtyped.specs.Running.{Evaluation, IsExact, IsExactOn, aggregate_on, all_of, condition_on, on_each, suits}
use Rattle.wscope.specs.Types.{is_truth}
use Rattle.wtyped.specs.Typing.{formula_type, is_number, valued}
use Rattle.wtyped.proofs.Exactly.{typed_is_exact}
use Rattle.wtyped.proofs.Lists.{at_or, each_mapped, filtered_all, mapped_all, none_some, some_is, sorted_all, then_any, then_ok, unless_ok}
use Rattle.wtyped.proofs.Types as found
use Rattle.wtyped.proofs.Types.{Passes, has_type}

abbrev pub AllOf : List DataType → List Row → Type 0
AllOf ts rows = all_of ts rows ≡ true

-- values of a type
abbrev pub Each : DataType → List Meaning → Type 0
Each t values = list_all (is_of t) values ≡ true

-- types that null has, which are all but truths
abbrev pub is_nullable : DataType → Bool
is_nullable t = is_of t Null

abbrev pub AreNullable : List DataType → Type 0
AreNullable ts = list_all is_nullable ts ≡ true

-- expressions

pub record HasValue (o : Option DataType) (t : DataType) : Type 0 where
  pub is : o ≡ Some t
  pub nullable : is_nullable t ≡ true

pub value_is : (o : Option DataType) (t : DataType) → valued o ≡ Some t → HasValue o t
value_is None t e = absurd (none_some t e)
value_is (Some types.Integer) t e = record { is = e; nullable = ap is_nullable (sym (some_is types.Integer t e)) }
value_is (Some types.Text) t e = record { is = e; nullable = ap is_nullable (sym (some_is types.Text t e)) }
value_is (Some types.Null) t e = record { is = e; nullable = ap is_nullable (sym (some_is types.Null t e)) }
value_is (Some types.Truth) t e = absurd (none_some t e)

suits_truth : (t : DataType) (v : Outcome) → is_truth t ≡ true → comes_as t v ≡ true → suits true v ≡ true
suits_truth types.Truth (Held m) s e = absurd (true≢false (sym e))
suits_truth types.Truth (Judged x) s e = refl
suits_truth types.Truth TooLarge s e = refl
suits_truth _ v s e = absurd (true≢false (sym s))

pub suits_value : (t : DataType) (v : Outcome) → is_nullable t ≡ true → comes_as t v ≡ true → suits false v ≡ true
suits_value t (Held m) n e = refl
suits_value t TooLarge n e = refl
suits_value types.Truth (Judged x) n e = absurd (true≢false (sym n))
suits_value _ (Judged x) n e = absurd (true≢false (sym e))

pub exact_rows : (e : Evaluation) (ts : List DataType) (t : DataType) → formula_type ts e.expression ≡ Some t
    → ((v : Outcome) → comes_as t v ≡ true → suits e.is_condition v ≡ true) → (rows : List Row) → AllOf ts rows
    → AllByRecursion (IsExactOn e) rows
exact_rows e ts t is s [] a = tt
exact_rows e ts t is s (row ∷ rows) a =
    let h = and_parts _ _ a in
    let x = typed_is_exact ts row e.expression t h.0 is in
    (record { exact = x.0; suited = s (value_of row e.expression) x.1 }, exact_rows e ts t is s rows h.1)

pub value_exact : (ts : List DataType) (f : Formula) (t : DataType) (rows : List Row) → valued (formula_type ts f) ≡ Some t → AllOf ts rows
    → IsExact (on_each rows f)
value_exact ts f t rows e a =
    let v = value_is (formula_type ts f) t e in
    exact_rows (on_each rows f) ts t v.is (λ x c. suits_value t x v.nullable c) rows a

pub some_value_exact : (ts : List DataType) (rows : List Row) (f : Formula) → AllOf ts rows → is_value ts f ≡ true
    → IsExact (on_each rows f)
some_value_exact ts rows f a e =
    let p = has_type is_any (valued (formula_type ts f)) e in value_exact ts f p.type rows p.is a

pub condition_exact : (ts : List DataType) (f : Option Formula) (rows : List Row) → is_condition ts f ≡ true → AllOf ts rows
    → AllByRecursion IsExact (condition_on rows f)
condition_exact ts None rows e a = tt
condition_exact ts (Some f) rows e a =
    let p = has_type is_truth (formula_type ts f) e in (
      exact_rows (record { is_condition = true; expression = f; rows = rows }) ts p.type p.is
          (λ x c. suits_truth p.type x p.passes c) rows a,
      tt,
    )

value_typed : (t : DataType) (v : Outcome) → is_nullable t ≡ true → comes_as t v ≡ true → is_of t (value_in v) ≡ true
value_typed t (Held m) n e = e
value_typed t (Judged x) n e = n
value_typed t TooLarge n e = n

pub cell_typed : (ts : List DataType) (f : Formula) (t : DataType) (row : Row) → formula_type ts f ≡ Some t → is_nullable t ≡ true
    → are_of ts row ≡ true → is_of t (columns.value_on f row) ≡ true
cell_typed ts f t row e n a = value_typed t (value_of row f) n (typed_is_exact ts row f t a e).1

pub column_typed : (ts : List DataType) (f : Formula) (t : DataType) (rows : List Row) → formula_type ts f ≡ Some t → is_nullable t ≡ true
    → AllOf ts rows → IfOk (column_of f rows) (Each t)
column_typed ts f t rows e n a =
    unless_ok (list_any (is_out_of_range f) rows) OutOfRange (map (columns.value_on f) rows) (Each t)
    (mapped_all (are_of ts) (is_of t) (columns.value_on f) rows (λ row h. cell_typed ts f t row e n h) a)

-- aggregates

abbrev FedBy : DataType → Feed → Type 0
FedBy t feed = Each t feed.values

feed_typed : (ts : List DataType) (a : AggregatePlan) (t : DataType) (rows : List Row) → formula_type ts a.argument ≡ Some t
    → is_nullable t ≡ true → AllOf ts rows → IfOk (feed_of a rows) (FedBy t)
feed_typed ts a t rows e n h =
    then_ok (column_of a.argument rows) (λ values. filter_of a.filter rows >>= λ filter. Ok (record {
      values = values;
      filter = filter;
    })) (Each t) (FedBy t) (column_typed ts a.argument t rows e n h)
    (λ values c. then_any (filter_of a.filter rows) (λ filter. Ok (record { values = values; filter = filter })) (FedBy t) (λ filter. c))

fed_typed : (t : DataType) (feed : Feed) (row : ℕ) → is_nullable t ≡ true → FedBy t feed → is_of t (fed feed.values feed.filter row) ≡ true
fed_typed t feed row n e = go (passes feed.filter row)
  where
    go : (b : Bool) → is_of t (if b then slice_index_or feed.values row Null else Null) ≡ true
    go true = at_or (is_of t) feed.values row Null e n
    go false = n

all_fed : (t : DataType) (feed : Feed) (rows : List ℕ) → is_nullable t ≡ true → FedBy t feed → Each t (fed_values feed rows)
all_fed t feed rows n e =
    filtered_all (is_of t) slides.is_value (map (fed feed.values feed.filter) rows)
    (each_mapped (is_of t) (fed feed.values feed.filter) rows (λ row. fed_typed t feed row n e))

first_typed : (t : DataType) (values : List Meaning) → is_nullable t ≡ true → Each t values → is_of t (first_or_null values) ≡ true
first_typed t [] n e = n
first_typed t (v ∷ vs) n e = (and_parts _ _ e).0

pub number_typed : (o : Option ℤ) → is_of types.Integer (unwrap_or (option_map (λ z. Int z) o) Null) ≡ true
number_typed None = refl
number_typed (Some z) = refl

sum_typed : (values : List Meaning) (sum : ℤ) → is_of types.Integer (unwrap_or (sum_or_null values sum) Null) ≡ true
sum_typed [] sum = refl
sum_typed (v ∷ vs) sum = number_typed (if_whole sum)

pub as_type : (t u : DataType) (m : Meaning) → t ≡ u → is_of t m ≡ true → is_of u m ≡ true
as_type t u m e h = ap (λ (x : DataType). is_of x m) (sym e) ∙ h

aggregate_typed : (function : AggregateFunction) (feed : Feed) (t u : DataType) (rows : List ℕ) → aggregate_of function (Some t) ≡ Some u
    → is_nullable t ≡ true → FedBy t feed → is_of u (unwrap_or (aggregating.aggregate_of function feed rows) Null) ≡ true
aggregate_typed CountRows feed t u rows e n h = as_type types.Integer u _ (some_is types.Integer u e) refl
aggregate_typed Count feed t u rows e n h = as_type types.Integer u _ (some_is types.Integer u e) refl
aggregate_typed Sum feed t u rows e n h =
    as_type types.Integer u _ (found.held (is_number t) types.Integer u e).1
    (sum_typed (fed_values feed rows) (sum_of (fed feed.values feed.filter) rows))
aggregate_typed Min feed t u rows e n h =
    as_type t u _ (some_is t u e) (first_typed t (sorted by_value (fed_values feed rows)) n
    (sorted_all (is_of t) by_value (fed_values feed rows) (all_fed t feed rows n h)))
aggregate_typed Max feed t u rows e n h =
    as_type t u _ (some_is t u e) (first_typed t (sorted by_value_descending (fed_values feed rows)) n
    (sorted_all (is_of t) by_value_descending (fed_values feed rows) (all_fed t feed rows n h)))

nullable_is : (t u : DataType) → t ≡ u → is_nullable t ≡ true → is_nullable u ≡ true
nullable_is t u e n = ap is_nullable (sym e) ∙ n

aggregate_nullable : (function : AggregateFunction) (t u : DataType) → aggregate_of function (Some t) ≡ Some u → is_nullable t ≡ true
    → is_nullable u ≡ true
aggregate_nullable CountRows t u e n = nullable_is types.Integer u (some_is types.Integer u e) refl
aggregate_nullable Count t u e n = nullable_is types.Integer u (some_is types.Integer u e) refl
aggregate_nullable Sum t u e n = nullable_is types.Integer u (found.held (is_number t) types.Integer u e).1 refl
aggregate_nullable Min t u e n = nullable_is t u (some_is t u e) n
aggregate_nullable Max t u e n = nullable_is t u (some_is t u e) n

-- the argument's type, and what an aggregate of it comes to
pub record AggregateTyped (ts : List DataType) (a : AggregatePlan) (u : DataType) : Type 0 where
  pub argument : DataType
  pub is : formula_type ts a.argument ≡ Some argument
  pub nullable : is_nullable argument ≡ true
  pub gives : aggregate_of a.function (Some argument) ≡ Some u
  pub filter : is_condition ts a.filter ≡ true

argument_of : (function : AggregateFunction) (o : Option DataType) (u : DataType) → aggregate_of function o ≡ Some u → Passes is_any o
argument_of CountRows None u e = absurd (none_some u e)
argument_of _ None u e = absurd (none_some u e)
argument_of _ (Some t) u e = record { type = t; is = refl; passes = refl }

not_wrong : (b : Bool) (o : Option DataType) (u : DataType) → unless_wrong b o ≡ Some u → (b ≡ true) × (o ≡ Some u)
not_wrong true o u e = (refl, e)
not_wrong false o u e = absurd (none_some u e)

pub aggregate_is : (ts : List DataType) (a : AggregatePlan) (u : DataType) → aggregate_type ts a ≡ Some u → AggregateTyped ts a u
aggregate_is ts a u e =
    let w = not_wrong (is_condition ts a.filter) (aggregate_of a.function (valued (formula_type ts a.argument))) u e in
    let p = argument_of a.function (valued (formula_type ts a.argument)) u w.1 in
    let v = value_is (formula_type ts a.argument) p.type p.is in
    record {
      argument = p.type;
      is = v.is;
      nullable = v.nullable;
      gives = ap (aggregate_of a.function) (sym p.is) ∙ w.1;
      filter = w.0;
    }

pub aggregate_exact : (ts : List DataType) (a : AggregatePlan) (u : DataType) (rows : List Row)
    → aggregate_type ts a ≡ Some u → AllOf ts rows
    → AllByRecursion IsExact (aggregate_on rows a)
aggregate_exact ts a u rows e h =
    let is = aggregate_is ts a u e in (
      exact_rows (on_each rows a.argument) ts is.argument is.is (λ x c. suits_value is.argument x is.nullable c) rows h,
      condition_exact ts a.filter rows is.filter h,
    )

pub is_aggregate_nullable : (ts : List DataType) (a : AggregatePlan) (u : DataType) → aggregate_type ts a ≡ Some u → is_nullable u ≡ true
is_aggregate_nullable ts a u e = let is = aggregate_is ts a u e in aggregate_nullable a.function is.argument u is.gives is.nullable

pub in_range_typed : (t : DataType) (results : List (Option Meaning)) → list_all (λ r. is_of t (unwrap_or r Null)) results ≡ true
    → IfOk (in_range results) (Each t)
in_range_typed t results e =
    unless_ok (list_any options.is_none results) OutOfRange (map (λ r. unwrap_or r Null) results) (Each t)
    (mapped_all (λ r. is_of t (unwrap_or r Null)) (is_of t) (λ r. unwrap_or r Null) results (λ r h. h) e)

-- an aggregate of several lists of rows
pub folded_typed : {G : Type 0} (ts : List DataType) (a : AggregatePlan) (u : DataType) (rows : List Row) (numbers : G
    → List ℕ) (gs : List G)
    → aggregate_type ts a ≡ Some u → AllOf ts rows
    → IfOk (feed_of a rows >>= λ feed. in_range (map (λ g. aggregating.aggregate_of a.function feed (numbers g)) gs)) (Each u)
folded_typed ts a u rows numbers gs e h =
    let is = aggregate_is ts a u e in
    then_ok (feed_of a rows) (λ feed. in_range (map (λ g. aggregating.aggregate_of a.function feed (numbers g)) gs))
    (FedBy is.argument) (Each u) (feed_typed ts a is.argument rows is.is is.nullable h)
    (λ feed f. in_range_typed u (map (λ g. aggregating.aggregate_of a.function feed (numbers g)) gs)
    (each_mapped (λ r. is_of u (unwrap_or r Null)) (λ g. aggregating.aggregate_of a.function feed (numbers g)) gs
    (λ g. aggregate_typed a.function feed is.argument u (numbers g) is.gives is.nullable f)))
