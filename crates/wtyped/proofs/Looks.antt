-- The looks at expressions over the row of windows, items and keys, and over the source's row.
use Rattle.std.proofs.Common.{◌≡◌, Bool, true, false, not, ◌&&◌, ◌||◌, ℕ, List, [], ◌∷◌, Option, refl, sym, ap, ◌∙◌, true≢false}
use Rattle.std.specs.Prelude.{if◌then◌else◌}
use Rattle.std.specs.List.{list_any}
use Rattle.std.proofs.lemmas.Bool.{or_parts, or_from, or_right, or_left, not-false}
use Rattle.wquery.specs.Tree.{Tree, Field, Invoked, Given, Columns, Filter, Reach, ItsGroup, ThatWindow, OwnWindow}
use Rattle.wscope.specs.Called.{names}
use Rattle.wscope.specs.declared.data_type.DataType.{DataType}
use Rattle.wscope.specs.declared.look.Look.{Look}
use Rattle.wscope.specs.declared.look.Look.TheVariants.{Found, Closed, Below}
use Rattle.wscope.specs.Finding.{finds}
use Rattle.wscope.specs.Scope.{has_name}
use Rattle.wscope.specs.Seeking.{some_below}
use Rattle.wscope.specs.Types.{Titled}
use Rattle.wnames.specs.Calls.{is_bad_call}
use Rattle.wnames.specs.Names.{is_missing}
use Rattle.wnames.specs.Groups.{is_group_call, is_misplaced_window_call, is_nested_group_call, is_over, is_window_call, sees_ungrouped}
use Rattle.wdistinct.specs.declared.distinct_calls.CallKind.TheVariants.{Grouped, Windowed}
use Rattle.wdistinct.specs.Calls.{has_over, is_call_of}
use Rattle.wbinding.specs.Resolving.{Layout}
use Rattle.wresolve.proofs.Grouped as grouped
use Rattle.wtyped.proofs.Formulas.{find, is_typed_cell, is_unfit, sees_misfit, shut}
use Rattle.wnames.specs.Types.{is_ill_typed}
use Rattle.wtyped.specs.Shapes.{is_misshapen}
use Rattle.wtyped.proofs.Rules.{is_bad}
use Rattle.wtyped.proofs.Tests.{AreFalse, are_false}
use Rattle.wtyped.proofs.Walks.{covers, sees_failed, unless_passed}

abbrev pub group_look : Bool → Bool → Bool → Look
group_look true bad known = shut (not bad && known)
group_look false bad known = find bad

-- a node that a rule refuses, a column whose cell is not its own, or an aggregate that is none of the row, of which K holds
abbrev pub sees_shown : Layout → List DataType → (Tree → Bool) → Tree → Look
sees_shown l ts K (Field qualifier name) = find (is_bad l.columns (Field qualifier name) || not (is_typed_cell l ts (Field qualifier name)))
sees_shown l ts K (Invoked name given filter reach) =
    group_look (is_group_call (Invoked name given filter reach)) (is_bad l.columns (Invoked name given filter reach))
    (K (Invoked name given filter reach))
sees_shown l ts K n = find (is_bad l.columns n)

-- a test that finds no more than another one
weaker : (b u : Bool) → (b ≡ false → u ≡ false) → covers (find b) Below (find u) ≡ true
weaker true u h = refl
weaker false false h = refl
weaker false true h = absurd (true≢false (h refl))

-- the same look twice is it once
twice : (a c : Look) → covers a Below c ≡ true → covers a a c ≡ true
twice Found c e = refl
twice Closed Closed e = refl
twice Below c e = e
twice Closed _ e = absurd (true≢false (sym e))

a_column : (b g u : Bool) → (b ≡ false → g ≡ true → u ≡ false) → covers (find b) (if g then Below else Found) (find u) ≡ true
a_column true g u h = refl
a_column false false u h = refl
a_column false true u h = weaker false u (λ e. h e refl)

a_call : (b g : Bool) → covers (find b) Below (group_look g b true) ≡ true
a_call true g = refl
a_call false true = refl
a_call false false = refl

an_aggregate : (b g : Bool) → covers (find b) (if g then Closed else Below) (group_look g b true) ≡ true
an_aggregate true g = refl
an_aggregate false true = refl
an_aggregate false false = refl

an_unlisted : (g b k : Bool) → covers (group_look g b true) (unless_passed g k) (group_look g b k) ≡ true
an_unlisted true true k = refl
an_unlisted true false true = refl
an_unlisted true false false = refl
an_unlisted false b k = weaker b b (λ e. e)

-- what is closed is covered by any two
closed : (a b : Look) → covers a b Closed ≡ true
closed Found b = refl
closed _ Found = refl
closed _ Closed = refl
closed _ Below = refl

-- a call with its cell: an aggregate of the row, or one with OVER that passes
a_cell : (g o b k w u : Bool) → (g ≡ true → k ≡ true → u ≡ true) → (w ≡ true → u ≡ true) → (g ≡ false → b ≡ false → o ≡ true)
    → covers (group_look g b k) (unless_passed o w) (shut u) ≡ true
a_cell g o b k w true x y z = closed (group_look g b k) (unless_passed o w)
a_cell true o true k w false x y z = refl
a_cell true o false false w false x y z = refl
a_cell true o false true w false x y z = absurd (true≢false (sym (x refl refl)))
a_cell false o b k true false x y z = absurd (true≢false (sym (y refl)))
a_cell false o true k false false x y z = refl
a_cell false true false k false false x y z = refl
a_cell false false false k false false x y z = absurd (true≢false (sym (z refl refl)))

sought : (b x u : Bool) → (b ≡ false → x ≡ true) → covers (find b) (find x) (shut u) ≡ true
sought true x u h = refl
sought false true u h = refl
sought false false u h = absurd (true≢false (sym (h refl)))

-- what a node has that no rule refuses

abbrev Good : List Titled → Tree → Type 0
Good cs n = AreFalse (is_misshapen n) (is_missing cs n ∷ is_ill_typed cs n ∷ is_bad_call n ∷ is_misplaced_window_call n
    ∷ is_nested_group_call n ∷ [])

good : (cs : List Titled) (n : Tree) → is_bad cs n ≡ false → Good cs n
good cs n e = are_false (is_misshapen n) (is_missing cs n ∷ is_ill_typed cs n ∷ is_bad_call n ∷ is_misplaced_window_call n
    ∷ is_nested_group_call n ∷ []) e

pub is_there : (cs : List Titled) (qualifier : Option (List ℕ)) (name : List ℕ) → is_bad cs (Field qualifier name) ≡ false
    → list_any (has_name name) cs ≡ true
is_there cs qualifier name e = not-false _ (good cs (Field qualifier name) e).1.0

pub is_fit : (cs : List Titled) (n : Tree) → is_bad cs n ≡ false → is_unfit cs n ≡ false
is_fit cs n e = let g = good cs n e in or_from _ _ g.1.1.0 g.0

pub is_given : (cs : List Titled) (n : Tree) → is_bad cs n ≡ false → is_bad_call n ≡ false
is_given cs n e = (good cs n e).1.1.1.0

pub is_placed : (cs : List Titled) (n : Tree) → is_bad cs n ≡ false → is_misplaced_window_call n ≡ false
is_placed cs n e = (good cs n e).1.1.1.1.0

pub is_flat : (cs : List Titled) (n : Tree) → is_bad cs n ≡ false → is_nested_group_call n ≡ false
is_flat cs n e = (good cs n e).1.1.1.1.1

outer : (name : List ℕ) (given : Given) (filter : Filter) (reach : Reach)
    → is_misplaced_window_call (Invoked name given filter reach) ≡ false → is_group_call (Invoked name given filter reach) ≡ false
    → (is_over reach ≡ true) × (has_over reach ≡ true)
outer name given filter ItsGroup e g =
    absurd (true≢false (ap not (sym g) ∙ (or_parts _ _ e).1))
outer name given filter (ThatWindow window) e g = (refl, refl)
outer name given filter (OwnWindow copied partition order frame) e g = (refl, refl)

-- aggregates without OVER and GROUPING, as they are listed and as they are judged
pub alike : (name : List ℕ) (given : Given) (filter : Filter) (reach : Reach)
    → is_call_of Grouped (Invoked name given filter reach) ≡ is_group_call (Invoked name given filter reach)
alike name given filter reach = grouped.alike (Invoked name given filter reach)

-- columns that are there have their cells, where each has one
pub plain_shown : (l : Layout) (ts : List DataType)
    → ((q : Option (List ℕ)) (name : List ℕ) → list_any (has_name name) l.columns ≡ true → is_typed_cell l ts (Field q name) ≡ true)
    → (n : Tree) → covers (finds (is_bad l.columns) n) (finds (is_bad l.columns) n) (sees_shown l ts (λ x. true) n) ≡ true
plain_shown l ts h (Field q name) =
    let b = is_bad l.columns (Field q name) in let t = is_typed_cell l ts (Field q name) in
    twice (find b) (find (b || not t)) (weaker b (b || not t) (λ e. or_from _ _ e (ap not (h q name (is_there l.columns q name e)))))
plain_shown l ts h (Invoked name given filter reach) =
    let n = Invoked name given filter reach in
    twice (find (is_bad l.columns n)) (group_look (is_group_call n) (is_bad l.columns n) true)
    (a_call (is_bad l.columns n) (is_group_call n))
plain_shown l ts h n =
    twice (find (is_bad l.columns n)) (find (is_bad l.columns n)) (weaker (is_bad l.columns n) (is_bad l.columns n) (λ e. e))

-- so do those of GROUP BY
pub group_shown : (l : Layout) (ts : List DataType) (grouping : List Tree)
    → ((q : Option (List ℕ)) (name : List ℕ) → list_any (has_name name) l.columns ≡ true
    → list_any (names name) grouping ≡ true → is_typed_cell l ts (Field q name) ≡ true)
    → (n : Tree) → covers (finds (is_bad l.columns) n) (sees_ungrouped grouping n) (sees_shown l ts (λ x. true) n) ≡ true
group_shown l ts grouping h (Field q name) =
    let b = is_bad l.columns (Field q name) in let t = is_typed_cell l ts (Field q name) in
    a_column b (list_any (names name) grouping) (b || not t) (λ e g. or_from _ _ e (ap not (h q name (is_there l.columns q name e) g)))
group_shown l ts grouping h (Invoked name (Columns us) filter reach) =
    a_call (is_bad l.columns (Invoked name (Columns us) filter reach)) (is_group_call (Invoked name (Columns us) filter reach))
group_shown l ts grouping h (Invoked name given filter reach) =
    an_aggregate (is_bad l.columns (Invoked name given filter reach)) (is_group_call (Invoked name given filter reach))
group_shown l ts grouping h n = weaker (is_bad l.columns n) (is_bad l.columns n) (λ e. e)

pub shown_known : (l : Layout) (ts : List DataType) (K : Tree → Bool) (n : Tree)
    → covers (sees_shown l ts (λ x. true) n) (sees_failed (is_call_of Grouped) K n) (sees_shown l ts K n) ≡ true
shown_known l ts K (Invoked name given filter reach) =
    let n = Invoked name given filter reach in
    ap (λ (x : Bool). covers (group_look (is_group_call n) (is_bad l.columns n) true) (unless_passed x (K n))
    (group_look (is_group_call n) (is_bad l.columns n) (K n))) (alike name given filter reach)
    ∙ an_unlisted (is_group_call n) (is_bad l.columns n) (K n)
shown_known l ts K (Field q name) = weaker (is_bad l.columns (Field q name) || not (is_typed_cell l ts (Field q name))) _ (λ e. e)
shown_known l ts K n = weaker (is_bad l.columns n) (is_bad l.columns n) (λ e. e)

still : (b t u : Bool) → (t ≡ true → u ≡ true) → covers (find (b || not t)) Below (find (not u)) ≡ true
still b t u h = weaker (b || not t) (not u) (λ e. ap not (h (not-false t (or_parts _ _ e).1)))

-- items and keys, over a row with the answers of all calls
pub misfit_shown : (l : Layout) (ts us : List DataType) (K W : Tree → Bool)
    → ((q : Option (List ℕ)) (name : List ℕ) → is_typed_cell l ts (Field q name) ≡ true → is_typed_cell l us (Field q name) ≡ true)
    → ((name : List ℕ) (given : Given) (filter : Filter) (reach : Reach) → K (Invoked name given filter reach) ≡ true
    → is_typed_cell l us (Invoked name given filter reach) ≡ true)
    → ((name : List ℕ) (given : Given) (filter : Filter) (reach : Reach) → W (Invoked name given filter reach) ≡ true
    → is_typed_cell l us (Invoked name given filter reach) ≡ true)
    → (n : Tree) → covers (sees_shown l ts K n) (sees_failed (is_call_of Windowed) W n) (sees_misfit l us n) ≡ true
misfit_shown l ts us K W cell group window (Field q name) =
    still (is_bad l.columns (Field q name)) (is_typed_cell l ts (Field q name)) (is_typed_cell l us (Field q name)) (cell q name)
misfit_shown l ts us K W cell group window (Invoked name given filter reach) =
    let n = Invoked name given filter reach in
    a_cell (is_group_call n) (has_over reach) (is_bad l.columns n) (K n) (W n) (is_typed_cell l us n)
    (λ g k. group name given filter reach k) (window name given filter reach)
    (λ g b. (outer name given filter reach (is_placed l.columns n b) g).1)
misfit_shown l ts us K W cell group window n = weaker (is_bad l.columns n) (is_unfit l.columns n) (is_fit l.columns n)

-- what calls with OVER, windows and HAVING are over
pub misfit_inner : (l : Layout) (ts : List DataType) (K : Tree → Bool)
    → ((name : List ℕ) (given : Given) (filter : Filter) (reach : Reach) → K (Invoked name given filter reach) ≡ true
    → is_typed_cell l ts (Invoked name given filter reach) ≡ true)
    → (n : Tree) → covers (sees_shown l ts K n) (finds is_window_call n) (sees_misfit l ts n) ≡ true
misfit_inner l ts K group (Field q name) =
    still (is_bad l.columns (Field q name)) (is_typed_cell l ts (Field q name)) (is_typed_cell l ts (Field q name)) (λ e. e)
misfit_inner l ts K group (Invoked name given filter reach) =
    let n = Invoked name given filter reach in
    a_cell (is_group_call n) (is_over reach) (is_bad l.columns n) (K n) false (is_typed_cell l ts n)
    (λ g k. group name given filter reach k) (λ e. absurd (true≢false (sym e)))
    (λ g b. (outer name given filter reach (is_placed l.columns n b) g).0)
misfit_inner l ts K group n = weaker (is_bad l.columns n) (is_unfit l.columns n) (is_fit l.columns n)

-- a call of either kind
abbrev pub is_any_call : Tree → Bool
is_any_call n = is_window_call n || is_group_call n

any_call : (name : List ℕ) (given : Given) (filter : Filter) (reach : Reach)
    → is_misplaced_window_call (Invoked name given filter reach) ≡ false → is_any_call (Invoked name given filter reach) ≡ true
any_call name given filter reach e = go (is_group_call (Invoked name given filter reach)) refl
  where
    go : (g : Bool) → is_group_call (Invoked name given filter reach) ≡ g → is_any_call (Invoked name given filter reach) ≡ true
    go true is = or_right _ _ is
    go false is = or_left _ _ (outer name given filter reach e is).0

-- WHERE, and what aggregates are over
pub misfit_source : (l : Layout) (ts : List DataType)
    → ((q : Option (List ℕ)) (name : List ℕ) → list_any (has_name name) l.columns ≡ true → is_typed_cell l ts (Field q name) ≡ true)
    → (n : Tree) → covers (finds (is_bad l.columns) n) (finds is_any_call n) (sees_misfit l ts n) ≡ true
misfit_source l ts cell (Field q name) =
    weaker (is_bad l.columns (Field q name)) (not (is_typed_cell l ts (Field q name)))
    (λ e. ap not (cell q name (is_there l.columns q name e)))
misfit_source l ts cell (Invoked name given filter reach) =
    let n = Invoked name given filter reach in sought (is_bad l.columns n) (is_any_call n) (is_typed_cell l ts n)
    (λ b. any_call name given filter reach (is_placed l.columns n b))
misfit_source l ts cell n = weaker (is_bad l.columns n) (is_unfit l.columns n) (is_fit l.columns n)

-- looks that are open

pub find_open : (b : Bool) → find b ≡ Closed → ⊥
find_open true e = cc
find_open false e = cc

pub field_open : (b : Bool) → (if b then Below else Found) ≡ Closed → ⊥
field_open true e = cc
field_open false e = cc

pub below_open : Below ≡ Closed → ⊥
below_open e = cc

pub closed_call : (g : Bool) → (if g then Closed else Below) ≡ Closed → g ≡ true
closed_call true e = refl
closed_call false e = cc

pub no_inner_window : (name : List ℕ) (given : Given) (filter : Filter) (reach : Reach)
    → is_misplaced_window_call (Invoked name given filter reach) ≡ false
    → some_below (finds is_window_call) (Invoked name given filter reach) ≡ false
no_inner_window name given filter reach e =
    (or_parts _ _ e).0
