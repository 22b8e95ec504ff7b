-- Calls that no rule refuses have the types that their names and arguments say.
use Rattle.std.proofs.Common.{◌≡◌, Bool, true, false, not, ◌||◌, ℕ, zero, suc, pos, neg_ℤ, ◌^◌, nat_lt, List}
use Rattle.std.proofs.Common.{[], ◌∷◌, codes, Option, Some, None, refl, sym, ap, ap₂, ◌∙◌, true≢false}
use Rattle.std.specs.Prelude.{if◌then◌else◌}
use Rattle.std.specs.List.{list_all, list_any}
use Rattle.std.specs.Str.{bytes_eq}
use Rattle.std.specs.Cmp.Lexicographic.{bytes_decides}
use Rattle.std.proofs.lemmas.Bool.{or_parts, and_parts, and_from, not-true, not-false}
use Rattle.wquery.specs.Tree.{Tree, NullWord, Numeral, Quoted, Field, Invoked, Signed, Trees, NoTrees, MoreTrees, Given, Everything}
use Rattle.wquery.specs.Tree.{These, Columns, Filter, Unfiltered, FilteredBy, Reach, ItsGroup, ThatWindow, OwnWindow}
use Rattle.wquery.specs.GroupElements.{all_columns}
use Rattle.wquery.specs.QueryTree.{Clauses}
use Rattle.wvalues.specs.Meaning as meanings
use Rattle.wscope.specs.Called.{names}
use Rattle.wscope.specs.declared.data_type.DataType.{DataType}
use Rattle.wscope.specs.declared.data_type.DataType.TheVariants.{Integer, Text, Truth, Null}
use Rattle.wscope.specs.declared.function.Function.{Function}
use Rattle.wscope.specs.declared.function.Function.TheVariants as functions
use Rattle.wscope.specs.declared.look.Look.TheVariants.{Found, Below}
use Rattle.wscope.specs.Functions.{function_of}
use Rattle.wscope.specs.Seeking.{found_or, some_below, some_filter, some_given, some_node, some_reach, some_tree}
use Rattle.wscope.specs.Types as scope
use Rattle.wscope.specs.Types.{Titled, agree, call_type, fits_integer, given_type, type_at, type_of, type_or}
use Rattle.wnames.specs.Calls.{is_aggregate_of, is_bad_call, is_literal, is_well_given, passes_at}
use Rattle.wnames.specs.Groups.{is_group_call, sees_ungrouped}
use Rattle.wnames.specs.Types.{all_trees, are_typed, has_fit_default, is_filter_typed, is_integer, is_value, is_window_typed}
use Rattle.wgroupby.specs.Sets.{is_among}
use Rattle.wbinding.specs.Resolving.{Layout, resolved, source_row}
use Rattle.wbinding.specs.Functions.{aggregated, argument, call_function, filter_made, function_made, literal_of, tree_at}
use Rattle.wbinding.specs.Groups.{column_places, group_call_made}
use Rattle.wtyped.specs.Plans.{aggregate_type, function_type, group_call_type, is_any, is_condition, unless_wrong}
use Rattle.wtyped.specs.Shapes.{are_fields, is_given}
use Rattle.wtyped.specs.Typing as row
use Rattle.wtyped.specs.Typing.{beside, constant_type, formula_type, has, valued, where_holds}
use Rattle.wtyped.proofs.Columns.{group_among, group_places}
use Rattle.wtyped.proofs.Formulas.{find, held_one, is_unfit, number_is, sees_misfit, typed}
use Rattle.wtyped.proofs.Lists.{some_is}
use Rattle.wtyped.proofs.Tests.{are_false}

-- arguments

tree_typed : (l : Layout) (ts : List DataType) (n : ℕ) (us : Trees) → some_tree (sees_misfit l ts) us ≡ false
    → formula_type ts (resolved l (tree_at n us)) ≡ Some (type_at l.columns n us)
tree_typed l ts n NoTrees e = refl
tree_typed l ts zero (MoreTrees t us) e = typed l ts t (or_parts _ _ e).0
tree_typed l ts (suc n) (MoreTrees t us) e =
    tree_typed l ts n us (or_parts _ _ e).1

argument_typed : (l : Layout) (ts : List DataType) (n : ℕ) (given : Given) → some_given (sees_misfit l ts) given ≡ false
    → formula_type ts (resolved l (argument n given)) ≡ Some (given_type l.columns n given)
argument_typed l ts n Everything e = refl
argument_typed l ts n (These us) e = tree_typed l ts n us e
argument_typed l ts n (Columns us) e = refl

value_at : (cs : List Titled) (n : ℕ) (us : Trees) → all_trees (is_value cs) us ≡ true → scope.is_truth (type_at cs n us) ≡ false
value_at cs n NoTrees e = refl
value_at cs zero (MoreTrees t us) e = not-true _ (and_parts _ _ e).0
value_at cs (suc n) (MoreTrees t us) e = value_at cs n us (and_parts _ _ e).1

argument_value : (cs : List Titled) (f : Option Function) (n : ℕ) (given : Given) → are_typed cs f given ≡ true
    → scope.is_truth (given_type cs n given) ≡ false
argument_value cs f n Everything e = refl
argument_value cs f n (These us) e = value_at cs n us (and_parts _ _ e).0
argument_value cs f n (Columns us) e = refl

valued_of : (t : DataType) → scope.is_truth t ≡ false → valued (Some t) ≡ Some t
valued_of Truth e = absurd (true≢false e)
valued_of _ e = refl

pub valued_as : (o : Option DataType) (t : DataType) → o ≡ Some t → scope.is_truth t ≡ false → valued o ≡ Some t
valued_as o t e v = ap valued e ∙ valued_of t v

integer_at : (cs : List Titled) (n : ℕ) (us : Trees) → all_trees (is_integer cs) us ≡ true → fits_integer (type_at cs n us) ≡ true
integer_at cs n NoTrees e = refl
integer_at cs zero (MoreTrees t us) e = (and_parts _ _ e).0
integer_at cs (suc n) (MoreTrees t us) e = integer_at cs n us (and_parts _ _ e).1

sum_argument : (cs : List Titled) (given : Given) → are_typed cs (Some functions.Sum) given ≡ true
    → fits_integer (given_type cs 0 given) ≡ true
sum_argument cs Everything e = refl
sum_argument cs (These us) e = integer_at cs 0 us (and_parts _ _ e).1
sum_argument cs (Columns us) e = refl

pub condition : (o : Option DataType) (t : DataType) → o ≡ Some t → scope.is_truth t ≡ true → has scope.is_truth o ≡ true
condition o t e s = ap (has scope.is_truth) e ∙ s

is_filter : (l : Layout) (ts : List DataType) (filter : Filter) → some_filter (sees_misfit l ts) filter ≡ false
    → is_filter_typed l.columns filter ≡ true → is_condition ts (filter_made l filter) ≡ true
is_filter l ts Unfiltered e s = refl
is_filter l ts (FilteredBy t) e s = condition (formula_type ts (resolved l t)) (type_of l.columns t) (typed l ts t e) s

-- what is known of a call over a row: it is well given and well typed, and what stands in it fits the row
pub record Fits (l : Layout) (ts : List DataType) (name : List ℕ) (given : Given) (filter : Filter) (reach : Reach) : Type 0 where
  pub given_well : is_bad_call (Invoked name given filter reach) ≡ false
  pub given_typed : are_typed l.columns (function_of name) given ≡ true
  pub reach_typed : is_window_typed l.columns reach ≡ true
  pub shaped : is_given name given filter reach ≡ true
  pub in_given : some_given (sees_misfit l ts) given ≡ false
  pub in_reach : some_reach (sees_misfit l ts) reach ≡ false
  pub condition : is_condition ts (filter_made l filter) ≡ true
  pub value : valued (formula_type ts (resolved l (argument 0 given))) ≡ Some (given_type l.columns 0 given)

pub fits : (l : Layout) (ts : List DataType) (name : List ℕ) (given : Given) (filter : Filter) (reach : Reach)
    → is_bad_call (Invoked name given filter reach) ≡ false → is_unfit l.columns (Invoked name given filter reach) ≡ false
    → some_below (sees_misfit l ts) (Invoked name given filter reach) ≡ false → Fits l ts name given filter reach
fits l ts name given filter reach well fit below =
    let u = or_parts _ _ fit in
    let t = and_parts _ _ (not-false _ u.0) in
    let o = and_parts _ _ t.1 in
    let b = are_false (some_given (sees_misfit l ts) given) (some_filter (sees_misfit l ts) filter ∷ some_reach
    (sees_misfit l ts) reach ∷ []) below in
    record {
      given_well = well;
      given_typed = t.0;
      reach_typed = o.1;
      shaped = not-false _ u.1;
      in_given = b.0;
      in_reach = b.1.1;
      condition = is_filter l ts filter b.1.0 o.0;
      value =
          valued_as _ _ (argument_typed l ts 0 given b.0) (argument_value l.columns (function_of name) 0 given t.0);
    }

-- aggregates

filtered : (b : Bool) (o : Option DataType) (t : DataType) → b ≡ true → o ≡ Some t → unless_wrong b o ≡ Some t
filtered b o t e f = ap₂ (λ (x : Bool) (y : Option DataType). unless_wrong x y) e f

aggregate_typed : (l : Layout) (ts : List DataType) (f : Option Function) (given : Given) (filter : Filter) → is_aggregate_of f ≡ true
    → is_condition ts (filter_made l filter) ≡ true
    → valued (formula_type ts (resolved l (argument 0 given))) ≡ Some (given_type l.columns 0 given)
    → are_typed l.columns f given ≡ true
    → aggregate_type ts (aggregated l f given filter) ≡ Some (call_type f (given_type l.columns 0 given) (given_type l.columns 2 given))
aggregate_typed l ts (Some functions.Count) Everything filter a c v s = filtered _ _ _ c refl
aggregate_typed l ts (Some functions.Count) (These us) filter a c v s =
    filtered _ _ _ c (ap (λ (x : Option DataType). where_holds (has is_any x) Integer) v)
aggregate_typed l ts (Some functions.Count) (Columns us) filter a c v s = filtered _ _ _ c refl
aggregate_typed l ts (Some functions.Sum) given filter a c v s =
    filtered _ _ _ c (held_one row.is_number Integer _ _ v (number_is (given_type l.columns 0 given) (sum_argument l.columns given s)))
aggregate_typed l ts (Some functions.Min) given filter a c v s = filtered _ _ _ c v
aggregate_typed l ts (Some functions.Max) given filter a c v s = filtered _ _ _ c v
aggregate_typed l ts _ given filter a c v s = absurd (true≢false (sym a))

-- GROUPING

field_named : (grouping : List Tree) (q : Option (List ℕ)) (name : List ℕ) → some_node (sees_ungrouped grouping) (Field q name) ≡ false
    → list_any (names name) grouping ≡ true
field_named grouping q name e = go (list_any (names name) grouping) e
  where
    go : (b : Bool) → found_or (if b then Below else Found) false ≡ false → b ≡ true
    go true f = refl
    go false f = absurd (true≢false f)

pub all_named : (cs : List Titled) (c : Clauses) (us : Trees) → are_fields us ≡ true
    → some_tree (sees_ungrouped (all_columns c.grouping)) us ≡ false
    → list_all (λ p. is_among p (group_places cs c.grouping)) (column_places cs us) ≡ true
all_named cs c NoTrees f e = refl
all_named cs c (MoreTrees (Field q name) us) f e =
    let p = or_parts _ _ e in
    and_from _ _
    (group_among cs c.grouping name (field_named (all_columns c.grouping) q name p.0)) (all_named cs c us f p.1)
all_named cs c (MoreTrees _ us) f e = absurd (true≢false (sym f))

grouping_name : (name : List ℕ) → bytes_eq name (codes "grouping") ≡ true → function_of name ≡ None
grouping_name name e = ap function_of ((bytes_decides name (codes "grouping")).0 e)

-- an aggregate without OVER, or GROUPING

pub group_call : (cs : List Titled) (c : Clauses) (places : List ℕ) (name : List ℕ) (given : Given) (filter : Filter) (reach : Reach)
    (ts : List DataType) → Fits (source_row cs) ts name given filter reach → is_group_call (Invoked name given filter reach) ≡ true
    → ((us : Trees) → given ≡ Columns us → list_all (λ p. is_among p places) (column_places cs us) ≡ true)
    → group_call_type ts places (group_call_made (source_row cs) (Invoked name given filter reach))
    ≡ Some (type_of cs (Invoked name given filter reach))
group_call cs c places name (Columns us) filter ItsGroup ts f g named =
    ap (λ (b : Bool). where_holds b Integer) (named us refl)
    ∙ ap (λ (x : Option Function). Some (call_type x Null Null)) (sym (grouping_name name (and_parts _ _ f.shaped).0))
group_call cs c places name Everything filter ItsGroup ts f g named =
    aggregate_typed (source_row cs) ts (function_of name) Everything filter g f.condition f.value f.given_typed
group_call cs c places name (These us) filter ItsGroup ts f g named =
    aggregate_typed (source_row cs) ts (function_of name) (These us) filter g f.condition f.value f.given_typed
group_call cs c places name given filter (ThatWindow window) ts f g named = absurd (true≢false (sym g))
group_call cs c places name given filter (OwnWindow copied partition order frame) ts f g named = absurd (true≢false (sym g))

-- calls with OVER

negative : (b u : Bool) (n : ℕ) → found_or (find u) (found_or (find (false || not b)) false) ≡ false
    → constant_type (if b then meanings.Int (neg_ℤ (pos n)) else meanings.Null) ≡ Integer
negative true u n f = refl
negative false true n f = absurd (true≢false f)
negative false false n f = absurd (true≢false f)

-- a literal's type
literal_typed : (l : Layout) (ts : List DataType) (t : Tree) → is_literal t ≡ true → some_node (sees_misfit l ts) t ≡ false
    → constant_type (literal_of t) ≡ type_of l.columns t
literal_typed l ts NullWord e f = refl
literal_typed l ts (Quoted text) e f = refl
literal_typed l ts (Numeral n) e f = some_is (constant_type (literal_of (Numeral n))) Integer (typed l ts (Numeral n) f)
literal_typed l ts (Signed true (Numeral n)) e f = negative (nat_lt n (2 ^ 95)) (is_unfit l.columns (Signed true (Numeral n))) n f
literal_typed l ts _ e f = absurd (true≢false (sym e))

default_typed : (l : Layout) (ts : List DataType) (n : ℕ) (us : Trees) → passes_at n is_literal us ≡ true
    → some_tree (sees_misfit l ts) us ≡ false → constant_type (literal_of (tree_at n us)) ≡ type_at l.columns n us
default_typed l ts n NoTrees e f = refl
default_typed l ts zero (MoreTrees t us) e f =
    literal_typed l ts t e (or_parts _ _ f).0
default_typed l ts (suc n) (MoreTrees t us) e f =
    default_typed l ts n us e (or_parts _ _ f).1

-- the type of lag and lead
either_type : (a b : DataType) → agree (a ∷ b ∷ []) ≡ true → beside (Some a) (Some b) ≡ Some (type_or a b)
either_type Integer Text e = absurd (true≢false (sym e))
either_type Text Integer e = absurd (true≢false (sym e))
either_type Truth _ e = absurd (true≢false (sym e))
either_type _ Truth e = absurd (true≢false (sym e))
either_type _ _ e = refl

no_default : (a : DataType) → scope.is_truth a ≡ false → agree (a ∷ Null ∷ []) ≡ true
no_default Truth e = absurd (true≢false e)
no_default _ e = refl

fit_default : (cs : List Titled) (us : Trees) → has_fit_default cs us ≡ true → all_trees (is_value cs) us ≡ true
    → agree (type_at cs 0 us ∷ type_at cs 2 us ∷ []) ≡ true
fit_default cs NoTrees e v = refl
fit_default cs (MoreTrees t NoTrees) e v = no_default (type_of cs t) (value_at cs 0 (MoreTrees t NoTrees) v)
fit_default cs (MoreTrees t (MoreTrees u NoTrees)) e v = no_default (type_of cs t) (value_at cs 0 (MoreTrees t (MoreTrees u NoTrees)) v)
fit_default cs (MoreTrees t (MoreTrees u (MoreTrees d us))) e v = e

neighbor : (l : Layout) (ts : List DataType) (us : Trees) → some_tree (sees_misfit l ts) us ≡ false
    → is_well_given (Some functions.Lag) (These us) ≡ true → are_typed l.columns (Some functions.Lag) (These us) ≡ true
    → beside (formula_type ts (resolved l (tree_at 0 us)))
    (Some (constant_type (literal_of (tree_at 2 us)))) ≡ Some (type_or (type_at l.columns 0 us) (type_at l.columns 2 us))
neighbor l ts us e w s =
    let p = and_parts _ _ w in
    let literal = and_parts _ _ p.1 in
    let d = and_parts _ _ s in
    ap₂ (λ (x : Option DataType) (y : DataType). beside x (Some y)) (tree_typed l ts 0 us e)
    (default_typed l ts 2 us literal.1 e) ∙ either_type (type_at l.columns 0 us) (type_at l.columns 2 us)
    (fit_default l.columns us d.1 d.0)

pub function_typed : (l : Layout) (ts : List DataType) (f : Option Function) (given : Given) (filter : Filter)
    → is_well_given f given ≡ true → is_condition ts (filter_made l filter) ≡ true → some_given (sees_misfit l ts) given ≡ false
    → are_typed l.columns f given ≡ true → valued (formula_type ts (resolved l (argument 0 given))) ≡ Some (given_type l.columns 0 given)
    → function_type ts (function_made l f given filter) ≡ Some (call_type f (given_type l.columns 0 given) (given_type l.columns 2 given))
function_typed l ts (Some functions.Lag) (These us) filter w c e s v = neighbor l ts us e w s
function_typed l ts (Some functions.Lead) (These us) filter w c e s v = neighbor l ts us e w s
function_typed l ts (Some functions.Lag) Everything filter w c e s v = absurd (true≢false (sym w))
function_typed l ts (Some functions.Lead) Everything filter w c e s v = absurd (true≢false (sym w))
function_typed l ts (Some functions.FirstValue) given filter w c e s v = v
function_typed l ts (Some functions.LastValue) given filter w c e s v = v
function_typed l ts (Some functions.NthValue) given filter w c e s v = v
function_typed l ts (Some functions.Count) given filter w c e s v = aggregate_typed l ts (Some functions.Count) given filter refl c v s
function_typed l ts (Some functions.Sum) given filter w c e s v = aggregate_typed l ts (Some functions.Sum) given filter refl c v s
function_typed l ts (Some functions.Min) given filter w c e s v = aggregate_typed l ts (Some functions.Min) given filter refl c v s
function_typed l ts (Some functions.Max) given filter w c e s v = aggregate_typed l ts (Some functions.Max) given filter refl c v s
function_typed l ts None (Columns us) filter w c e s v = filtered _ _ _ c refl
function_typed l ts None given filter w c e s v = absurd (true≢false (sym w))
function_typed l ts _ given filter w c e s v = refl

pub window_call : (l : Layout) (ts : List DataType) (name : List ℕ) (given : Given) (filter : Filter) (reach : Reach)
    → Fits l ts name given filter reach
    → function_type ts (call_function l (Invoked name given filter reach)) ≡ Some (type_of l.columns (Invoked name given filter reach))
window_call l ts name given filter reach f =
    function_typed l ts (function_of name) given filter (not-false _ f.given_well) f.condition f.in_given f.given_typed f.value
