-- Items and keys of a SELECT that no rule refuses are well typed.
use Rattle.std.proofs.Common.{◌≡◌, Bool, true, false, not, ◌&&◌, ◌||◌, ℕ, zero, suc, ◌-◌, ◌<◌, nat_lt, List, [], ◌∷◌, ◌++◌, length}
use Rattle.std.proofs.Common.{map, Some, None, refl, sym, subst, ap, ap₂, ◌∙◌, append_assoc, length-append, true≢false, arith}
use Rattle.std.specs.Prelude.{if◌then◌else◌}
use Rattle.std.specs.List.{list_any}
use Rattle.std.specs.Str.{bytes_eq}
use Rattle.std.specs.Cmp.Lexicographic.{bytes_decides}
use Rattle.std.proofs.lemmas.Bool.{or_parts, or_left, or_right, and_from, not-true, not-false, ltb-false}
use Rattle.std.proofs.lemmas.List.Folds.{list_any-append}
use Rattle.wquery.specs.GroupElements.{all_columns}
use Rattle.wquery.specs.QueryTree.{Clauses, ItemTree, AllColumns, Computed}
use Rattle.wquery.specs.Tree.{Tree, Numeral, Field, KeyTree}
use Rattle.wscope.specs.Called.{is_star, names}
use Rattle.wscope.specs.declared.data_type.DataType.{DataType}
use Rattle.wscope.specs.declared.data_type.DataType.TheVariants.{Truth}
use Rattle.wscope.specs.Scope.{has_name, is_output, item_has_name, output_name, some_item, some_sort}
use Rattle.wscope.specs.Seeking.{some_node}
use Rattle.wscope.specs.Sources as sources
use Rattle.wscope.specs.Sources.{Shown, Spelled, ShownItem, answered_column, columns_from, written_out}
use Rattle.wscope.specs.Types as scope
use Rattle.wscope.specs.Types.{Titled, place_named, type_named, type_of}
use Rattle.wnames.specs.Names.{count_named, is_ambiguous}
use Rattle.wnames.specs.Groups.{is_ungrouped_column}
use Rattle.wnames.specs.Types as judged
use Rattle.wnames.specs.Types.{is_truth_item, is_truth_key}
use Rattle.wdistinct.specs.Calls.{group_calls, window_calls}
use Rattle.wbinding.specs.Resolving.{Layout, cell_in, resolved}
use Rattle.wresolve.specs.Selecting as made
use Rattle.wresolve.specs.Selecting.{called_or, item_at, key_shown, order_made, output_made, shown_formula}
use Rattle.wtyped.specs.Laws.{types_of}
use Rattle.wtyped.specs.Plans.{are_keys, is_any, is_value, item_types, known, with_type}
use Rattle.wtyped.specs.Typing.{formula_type, has, type_at}
use Rattle.wtyped.proofs.Calls.{valued_as}
use Rattle.wtyped.proofs.Columns.{source_cell}
use Rattle.wtyped.proofs.Formulas.{sees_misfit, typed}
use Rattle.wtyped.proofs.Rows.{all_cells, column_cell, first_cells, row_of}
use Rattle.wtyped.proofs.Rows as rows
use Rattle.wtyped.proofs.Rules as rules
use Rattle.wtyped.proofs.Lists.{some_is}
use Rattle.wtyped.proofs.Tests.{and_rest}
use Rattle.std.proofs.lemmas.List.{append-nil}

-- an item that has its type and is a value
abbrev pub IsShown : Layout → List DataType → ShownItem → Type 0
IsShown l ts i = (formula_type ts (shown_formula l i.shown) ≡ Some i.type) × (scope.is_truth i.type ≡ false)

abbrev pub AreShown : Layout → List DataType → List ShownItem → Type 0
AreShown l ts [] = Unit {0}
AreShown l ts (i ∷ is) = IsShown l ts i × AreShown l ts is

behind_shown : (l : Layout) (ts : List DataType) (is js : List ShownItem) → AreShown l ts is → AreShown l ts js → AreShown l ts (is ++ js)
behind_shown l ts [] js a b = b
behind_shown l ts (i ∷ is) js a b = (a.0, behind_shown l ts is js a.1 b)

known_of : (t : DataType) → scope.is_truth t ≡ false → known (Some t) ≡ Some (sources.known t)
known_of Truth e = absurd (true≢false e)
known_of _ e = refl

-- the types of the answer
pub answer_typed : (l : Layout) (ts : List DataType) (is : List ShownItem) → AreShown l ts is
    → item_types ts (map (output_made l) is) ≡ Some (types_of (map answered_column is))
answer_typed l ts [] a = refl
answer_typed l ts (i ∷ is) a =
    ap₂ (λ x y. with_type x y) (ap known (valued_as _ _ a.0.0 a.0.1) ∙ known_of i.type a.0.1) (answer_typed l ts is a.1)

-- the answer has no truths
abbrev pub AreValues : List Titled → Type 0
AreValues [] = Unit {0}
AreValues (c ∷ cs) = (scope.is_truth c.type ≡ false) × AreValues cs

known_value : (t : DataType) → scope.is_truth t ≡ false → scope.is_truth (sources.known t) ≡ false
known_value Truth e = absurd (true≢false e)
known_value _ e = refl

pub answer_values : (l : Layout) (ts : List DataType) (is : List ShownItem) → AreShown l ts is → AreValues (map answered_column is)
answer_values l ts [] a = tt
answer_values l ts (i ∷ is) a = (known_value i.type a.0.1, answer_values l ts is a.1)

-- the columns of `*`

at_length : (pre rest : List Titled) (c : Titled) (more : List DataType)
    → type_at (length pre) (types_of (pre ++ c ∷ rest) ++ more) ≡ Some c.type
at_length [] rest c more = refl
at_length (x ∷ pre) rest c more = at_length pre rest c more

counted : (pre rest : List Titled) (c : Titled) → 0 < count_named c.name (pre ++ c ∷ rest)
counted [] rest c = go (has_name c.name c) ((bytes_decides c.name c.name).1 refl)
  where
    go : (b : Bool) → b ≡ true → 0 < (if b then suc (count_named c.name rest) else count_named c.name rest)
    go true is = omega arith
    go false is = absurd (true≢false (sym is))
counted (x ∷ pre) rest c = go (has_name c.name x) (counted pre rest c)
  where
    go : (b : Bool) → 0 < count_named c.name (pre ++ c ∷ rest)
        → 0 < (if b then suc (count_named c.name (pre ++ c ∷ rest)) else count_named c.name (pre ++ c ∷ rest))
    go true e = omega arith
    go false e = e

-- a name that one column has is that of its place
own_place : (pre rest : List Titled) (c : Titled) → nat_lt 1 (count_named c.name (pre ++ c ∷ rest)) ≡ false
    → place_named (pre ++ c ∷ rest) c.name ≡ length pre
own_place [] rest c e = go (bytes_eq c.name c.name) ((bytes_decides c.name c.name).1 refl)
  where
    go : (b : Bool) → b ≡ true → (if b then 0 else suc (place_named rest c.name)) ≡ 0
    go true is = refl
    go false is = absurd (true≢false (sym is))
own_place (x ∷ pre) rest c e = go (bytes_eq x.name c.name) (counted pre rest c) (own_place pre rest c) e
  where
    go : (b : Bool) → 0 < count_named c.name (pre ++ c ∷ rest)
        → (nat_lt 1 (count_named c.name (pre ++ c ∷ rest)) ≡ false → place_named (pre ++ c ∷ rest) c.name ≡ length pre)
        → nat_lt 1 (if b then suc (count_named c.name (pre ++ c ∷ rest)) else count_named c.name (pre ++ c ∷ rest)) ≡ false
        → (if b then 0 else suc (place_named (pre ++ c ∷ rest) c.name)) ≡ suc (length pre)
    go true some later f = let few = ltb-false 1 (suc (count_named c.name (pre ++ c ∷ rest))) f in absurd (omega (arith, some, few))
    go false some later f = ap suc (later f)

-- a name of GROUP BY is that of one column
one_column : (cs : List Titled) (columns : List Tree) (name : List ℕ) → list_any (is_ambiguous cs) columns ≡ false
    → list_any (names name) columns ≡ true → nat_lt 1 (count_named name cs) ≡ false
one_column cs [] name e f = absurd (true≢false (sym f))
one_column cs (t ∷ ts) name e f =
    go (names name t) refl f (λ g. one_column cs ts name (or_parts _ _ e).1 g)
  where
    here : (u : Tree) → names name u ≡ true → is_ambiguous cs u ≡ false → nat_lt 1 (count_named name cs) ≡ false
    here (Field q other) same clear = ap (λ (x : List ℕ). nat_lt 1 (count_named x cs)) ((bytes_decides name other).0 same) ∙ clear
    here _ same clear = absurd (true≢false (sym same))

    go : (b : Bool) → names name t ≡ b → (b || list_any (names name) ts) ≡ true
        → (list_any (names name) ts ≡ true → nat_lt 1 (count_named name cs) ≡ false) → nat_lt 1 (count_named name cs) ≡ false
    go true same g rest = here t same (or_parts _ _ e).0
    go false same g rest = rest g

-- what `*` asks of a grouped query: each column is one of GROUP BY
abbrev pub IsStarred : List Titled → Clauses → Bool → List Titled → Type 0
IsStarred cs c false all = Unit {0}
IsStarred cs c true all = list_any (is_ungrouped_column (all_columns c.grouping)) all ≡ false

there_is : (pre rest : List Titled) (x : Titled) → list_any (has_name x.name) (pre ++ x ∷ rest) ≡ true
there_is pre rest x =
    list_any-append (has_name x.name) pre (x ∷ rest) ∙ or_right _ _ (or_left _ _ ((bytes_decides x.name x.name).1 refl))

star_cell : (c : Clauses) (b : Bool) (more : List DataType) (pre rest : List Titled) (x : Titled)
    → list_any (is_ambiguous (pre ++ x ∷ rest)) (all_columns c.grouping) ≡ false → IsStarred (pre ++ x ∷ rest) c b (x ∷ rest)
    → type_at (cell_in (row_of (pre ++ x ∷ rest) c b).grouping (length pre)) (first_cells (pre ++ x ∷ rest) c b ++ more) ≡ Some x.type
star_cell c false more pre rest x clear starred = at_length pre rest x more
star_cell c true more pre rest x clear starred =
    let cs = pre ++ x ∷ rest in
    let named = not-false _ (or_parts _ _ starred).0 in
    let place = own_place pre rest x (one_column cs (all_columns c.grouping) x.name clear named) in
    let there = there_is pre rest x in
    let type = some_is (type_named cs x.name) x.type (sym (source_cell cs x.name there)
    ∙ ap (λ (n : ℕ). type_at n (types_of cs)) place ∙ ap (type_at (length pre)) (sym (append-nil (types_of cs)))
    ∙ at_length pre rest x []) in
    ap (λ (n : ℕ). type_at (cell_in (row_of cs c true).grouping n) (first_cells cs c true ++ more)) (sym place)
    ∙ column_cell cs c true more x.name there named ∙ ap Some type

star_at : (cs : List Titled) (c : Clauses) (b : Bool) (more : List DataType) (pre rest : List Titled) (x : Titled) → pre ++ x ∷ rest ≡ cs
    → list_any (is_ambiguous cs) (all_columns c.grouping) ≡ false → IsStarred cs c b (x ∷ rest)
    → type_at (cell_in (row_of cs c b).grouping (length pre)) (first_cells cs c b ++ more) ≡ Some x.type
star_at cs c b more pre rest x e =
    subst (λ (ds : List Titled). list_any (is_ambiguous ds) (all_columns c.grouping) ≡ false → IsStarred ds c b (x ∷ rest)
    → type_at (cell_in (row_of ds c b).grouping (length pre)) (first_cells ds c b ++ more) ≡ Some x.type) e
    (star_cell c b more pre rest x)

later_starred : (cs : List Titled) (c : Clauses) (b : Bool) (x : Titled) (rest : List Titled) → IsStarred cs c b (x ∷ rest)
    → IsStarred cs c b rest
later_starred cs c true x rest e =
    (or_parts _ _ e).1
later_starred cs c false x rest e = tt

star_shown : (cs : List Titled) (c : Clauses) (b : Bool) (ts more : List DataType) → ts ≡ first_cells cs c b ++ more
    → list_any (is_ambiguous cs) (all_columns c.grouping) ≡ false
    → (pre rest : List Titled) (place : ℕ) → pre ++ rest ≡ cs → place ≡ length pre → IsStarred cs c b rest → AreValues rest
    → AreShown (row_of cs c b) ts (columns_from place rest)
star_shown cs c b ts more same clear pre [] place e p starred v = tt
star_shown cs c b ts more same clear pre (x ∷ rest) place e p starred v =
    let longer = length-append pre (x ∷ []) in let next : suc place ≡ length (pre ++ x ∷ []) = omega (arith, p, longer) in (
      (
        ap₂ (λ (n : ℕ) (us : List DataType). type_at (cell_in (row_of cs c b).grouping n) us) p same
            ∙ star_at cs c b more pre rest x e clear starred,
        v.0,
      ),
      star_shown cs c b ts more same clear (pre ++ x ∷ []) rest (suc place) (append_assoc pre (x ∷ []) rest ∙ e) next
          (later_starred cs c b x rest starred) v.1,
    )

items_shown : (cs : List Titled) (c : Clauses) (b : Bool) (ts more : List DataType) → ts ≡ first_cells cs c b ++ more
    → list_any (is_ambiguous cs) (all_columns c.grouping) ≡ false → AreValues cs
    → (is : List ItemTree) → (list_any is_star is ≡ true → IsStarred cs c b cs) → some_item (sees_misfit (row_of cs c b) ts) is ≡ false
    → list_any (is_truth_item cs) is ≡ false → AreShown (row_of cs c b) ts (written_out cs is)
items_shown cs c b ts more same clear v [] star e f = tt
items_shown cs c b ts more same clear v (AllColumns ∷ is) star e f =
    behind_shown (row_of cs c b) ts (columns_from 0 cs) (written_out cs is) (star_shown cs c b ts more same clear [] cs 0
    refl refl (star refl) v) (items_shown cs c b ts more same clear v is (λ s. star refl) e f)
items_shown cs c b ts more same clear v (Computed t alias ∷ is) star e f =
    let p = or_parts _ _ e in
    let q = or_parts _ _ f in
    ((typed (row_of cs c b) ts t p.0, not-true _ (not-false _ q.0)), items_shown cs c b ts more same clear v is star p.1 q.1)

all_same : (cs : List Titled) (c : Clauses) (b : Bool)
    → all_cells cs c b ≡ first_cells cs c b ++ (map (type_of cs) (group_calls c) ++ map (type_of cs) (window_calls c))
all_same cs c b = append_assoc (first_cells cs c b) (map (type_of cs) (group_calls c)) (map (type_of cs) (window_calls c))

starred : (cs : List Titled) (c : Clauses) (b : Bool) → rules.Kept cs c → made.is_grouped c (group_calls c) ≡ b
    → list_any is_star c.items ≡ true → IsStarred cs c b cs
starred cs c false k e s = tt
starred cs c true k e s = and_rest _ _ s (rows.star_named cs c k e)

-- the items of a SELECT
pub shown_items : (cs : List Titled) (c : Clauses) (b : Bool) → rules.Kept cs c → made.is_grouped c (group_calls c) ≡ b → AreValues cs
    → rows.Shown cs c b → AreShown (row_of cs c b) (all_cells cs c b) (written_out cs c.items)
shown_items cs c b k e v s =
    items_shown cs c b (all_cells cs c b) (map (type_of cs) (group_calls c) ++ map (type_of cs) (window_calls c))
    (all_same cs c b) k.ambiguous v c.items (starred cs c b k e) (rows.fit_items cs c b s) k.items

-- keys

good : (l : Layout) (ts : List DataType) (i : ShownItem) → IsShown l ts i → is_value ts (shown_formula l i.shown) ≡ true
good l ts i a = ap (has is_any) (valued_as _ _ a.0 a.1)

item_value : (l : Layout) (ts : List DataType) (n : ℕ) (is : List ShownItem) → AreShown l ts is
    → is_value ts (shown_formula l (item_at n is)) ≡ true
item_value l ts n [] a = refl
item_value l ts zero (i ∷ is) a = good l ts i a.0
item_value l ts (suc n) (i ∷ is) a = item_value l ts n is a.1

abbrev is_called : List ℕ → ShownItem → Bool
is_called name i = bytes_eq i.name name

called_value : (l : Layout) (ts : List DataType) (otherwise : Shown) (name : List ℕ) (is : List ShownItem) → AreShown l ts is
    → (list_any (is_called name) is ≡ false → is_value ts (shown_formula l otherwise) ≡ true)
    → is_value ts (shown_formula l (called_or otherwise name is)) ≡ true
called_value l ts otherwise name [] a h = h refl
called_value l ts otherwise name (i ∷ is) a h = go (bytes_eq i.name name) h (λ g. called_value l ts otherwise name is a.1 g)
  where
    go : (b : Bool) → ((b || list_any (is_called name) is) ≡ false → is_value ts (shown_formula l otherwise) ≡ true)
        → ((list_any (is_called name) is ≡ false → is_value ts (shown_formula l otherwise) ≡ true)
        → is_value ts (shown_formula l (called_or otherwise name is)) ≡ true)
        → is_value ts (shown_formula l (if b then i.shown else called_or otherwise name is)) ≡ true
    go true g rest = good l ts i a.0
    go false g rest = rest g

columns_called : (name : List ℕ) (place : ℕ) (cs : List Titled)
    → list_any (is_called name) (columns_from place cs) ≡ list_any (has_name name) cs
columns_called name place [] = refl
columns_called name place (c ∷ cs) = ap (λ (x : Bool). bytes_eq c.name name || x) (columns_called name (suc place) cs)

pub items_called : (cs : List Titled) (name : List ℕ) (is : List ItemTree)
    → list_any (is_called name) (written_out cs is) ≡ list_any (item_has_name cs name) is
items_called cs name [] = refl
items_called cs name (AllColumns ∷ is) =
    list_any-append (is_called name) (columns_from 0 cs) (written_out cs is)
    ∙ ap₂ (λ x y. x || y) (columns_called name 0 cs) (items_called cs name is)
items_called cs name (Computed t alias ∷ is) = ap (λ (x : Bool). bytes_eq (output_name t alias) name || x) (items_called cs name is)

spelled : (l : Layout) (ts : List DataType) (t : Tree) → some_node (sees_misfit l ts) t ≡ false → judged.is_value l.columns t ≡ true
    → is_value ts (resolved l t) ≡ true
spelled l ts t e v = good l ts (record { name = []; type = type_of l.columns t; shown = Spelled t }) (typed l ts t e, not-true _ v)

guarded : (b x : Bool) → b ≡ false → (not b && x) ≡ false → x ≡ false
guarded true x is e = absurd (true≢false is)
guarded false x is e = e

key_value : (l : Layout) (ts : List DataType) (is : List ItemTree) (t : Tree) → AreShown l ts (written_out l.columns is)
    → (not (is_output l.columns is t) && some_node (sees_misfit l ts) t) ≡ false
    → (not (is_output l.columns is t) && not (judged.is_value l.columns t)) ≡ false
    → is_value ts (shown_formula l (key_shown (written_out l.columns is) t)) ≡ true
key_value l ts is (Numeral n) a e f = item_value l ts (n - 1) (written_out l.columns is) a
key_value l ts is (Field None name) a e f =
    called_value l ts (Spelled (Field None name)) name (written_out l.columns is) a
    (λ none. let out = sym (items_called l.columns name is) ∙ none in
    spelled l ts (Field None name) (guarded (list_any (item_has_name l.columns name) is)
    (some_node (sees_misfit l ts) (Field None name)) out e)
    (not-false _ (guarded (list_any (item_has_name l.columns name) is) (not (judged.is_value l.columns (Field None name))) out f)))
key_value l ts is (Field (Some q) name) a e f =
    spelled l ts (Field (Some q) name) e (not-false _ f)
key_value l ts is t a e f = spelled l ts t e (not-false _ f)

pub keys_typed : (l : Layout) (ts : List DataType) (is : List ItemTree) (ks : List KeyTree) → AreShown l ts (written_out l.columns is)
    → some_sort l.columns is (sees_misfit l ts) ks ≡ false → list_any (is_truth_key l.columns is) ks ≡ false
    → are_keys ts (map (order_made l (written_out l.columns is)) ks) ≡ true
keys_typed l ts is [] a e f = refl
keys_typed l ts is (k ∷ ks) a e f =
    let p = or_parts _ _ e in
    let q = or_parts _ _ f in
    and_from _ _ (key_value l ts is k.expression a p.0 q.0) (keys_typed l ts is ks a p.1 q.1)
