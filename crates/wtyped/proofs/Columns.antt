-- The cells of columns: of the source's row, and of a group's.
use Rattle.std.proofs.Common.{◌≡◌, Bool, true, false, ◌&&◌, ◌||◌, ◌==◌, ℕ, zero, suc, List, [], ◌∷◌, ◌++◌}
use Rattle.std.proofs.Common.{length, map, Option, Some, None, refl, sym, ap, ap₂, ◌∙◌, true≢false}
use Rattle.std.specs.Prelude.{if◌then◌else◌}
use Rattle.std.specs.List.{flat_map, list_all, list_any}
use Rattle.std.specs.Str.{bytes_eq}
use Rattle.std.proofs.lemmas.Bool.{and_parts, or_left, or_parts, or_right, not-false, eq-eqb, eqb-true}
use Rattle.std.proofs.lemmas.List.Folds.{list_all-append, list_any-append}
use Rattle.wquery.specs.GroupElements.{Entry, Element, OneSet, Rollup, Cube, all_columns, entry_columns}
use Rattle.wquery.specs.Tree.{Tree, Field}
use Rattle.wscope.specs.Called.{names}
use Rattle.wscope.specs.declared.data_type.DataType.{DataType}
use Rattle.wscope.specs.declared.data_type.DataType.TheVariants as types
use Rattle.wscope.specs.Scope.{has_name}
use Rattle.wscope.specs.Types.{Titled, place_named, type_named}
use Rattle.wnames.specs.Names.{is_missing}
use Rattle.wgroupby.specs.Rules.{element_by, elements_by, entry_by}
use Rattle.wgroupby.specs.Sets.{is_among, with_unseen}
use Rattle.wbinding.specs.Groups.{column_place, elements_made}
use Rattle.wbinding.specs.Resolving.{place_among}
use Rattle.wtyped.specs.Laws.{types_of}
use Rattle.wtyped.specs.Plans.{is_any, types_at, with_type}
use Rattle.wtyped.specs.Shapes.{is_field}
use Rattle.wtyped.specs.Typing.{has, type_at}
use Rattle.std.proofs.lemmas.List.{append-nil, map-append}
use Rattle.wnodes.specs.Plain as equality

-- a column of the source that is there
pub plain_cell : (cs : List Titled) (name : List ℕ) (more : List DataType) → list_any (has_name name) cs ≡ true
    → type_at (place_named cs name) (types_of cs ++ more) ≡ Some (type_named cs name)
plain_cell [] name more e = absurd (true≢false (sym e))
plain_cell (c ∷ cs) name more e = go (bytes_eq c.name name) (λ f. plain_cell cs name more f) e
  where
    go : (b : Bool)
        → (list_any (has_name name) cs ≡ true → type_at (place_named cs name) (types_of cs ++ more) ≡ Some (type_named cs name))
        → (b || list_any (has_name name) cs) ≡ true
        → type_at (if b then 0 else suc (place_named cs name))
        (c.type ∷ (types_of cs ++ more)) ≡ Some (if b then c.type else type_named cs name)
    go true rest f = refl
    go false rest f = rest f

-- the columns of GROUP BY by their places

flat : {X Y A B : Type 0} (f : A → B) (h : Y → List B) (g : X → Y) (k : X → List A) → ((x : X) → h (g x) ≡ map f (k x)) → (xs : List X)
    → flat_map h (map g xs) ≡ map f (flat_map k xs)
flat f h g k e [] = refl
flat f h g k e (x ∷ xs) = ap₂ (λ a b. a ++ b) (e x) (flat f h g k e xs) ∙ sym (map-append f (k x) (flat_map k xs))

entry_places : {X Y : Type 0} (f : X → Y) (e : Entry X) → entry_columns (entry_by f e) ≡ map f (entry_columns e)
entry_places f (OneSet columns) = refl
entry_places f (Rollup parts) = flat f (λ part. part) (map f) (λ part. part) (λ part. refl) parts
entry_places f (Cube parts) = flat f (λ part. part) (map f) (λ part. part) (λ part. refl) parts

element_places : {X Y : Type 0} (f : X → Y) (e : Element X) → flat_map entry_columns (element_by f e) ≡ map f (flat_map entry_columns e)
element_places f e = flat f entry_columns (entry_by f) entry_columns (entry_places f) e

pub all_places : {X Y : Type 0} (f : X → Y) (es : List (Element X)) → all_columns (elements_by f es) ≡ map f (all_columns es)
all_places f es = flat f (flat_map entry_columns) (element_by f) (flat_map entry_columns) (element_places f) es

-- each once

kept : (seen ps : List ℕ) (p : ℕ) → is_among p seen ≡ true → is_among p (with_unseen seen ps) ≡ true
kept seen [] p e = e
kept seen (q ∷ ps) p e = kept (if is_among q seen then seen else seen ++ q ∷ []) ps p (go (is_among q seen))
  where
    go : (b : Bool) → is_among p (if b then seen else seen ++ q ∷ []) ≡ true
    go true = e
    go false = list_any-append (λ (r : ℕ). r == p) seen (q ∷ []) ∙ or_left _ _ e

pub found : (seen ps : List ℕ) (p : ℕ) → is_among p ps ≡ true → is_among p (with_unseen seen ps) ≡ true
found seen [] p e = absurd (true≢false (sym e))
found seen (q ∷ ps) p e = go (q == p) (λ f. found (if is_among q seen then seen else seen ++ q ∷ []) ps p f) refl e
  where
    here : q ≡ p → (b : Bool) → is_among q seen ≡ b → is_among p (if b then seen else seen ++ q ∷ []) ≡ true
    here is true known = ap (λ (r : ℕ). is_among r seen) (sym is) ∙ known
    here is false known =
        list_any-append (λ (r : ℕ). r == p) seen (q ∷ []) ∙ or_right _ _ (or_left _ _ (eq-eqb q p is))

    go : (b : Bool) → (is_among p ps ≡ true → is_among p (with_unseen (if is_among q seen then seen else seen ++ q ∷ []) ps) ≡ true)
        → (q == p) ≡ b → (b || is_among p ps) ≡ true → is_among p (with_unseen (if is_among q seen then seen else seen ++ q ∷ []) ps) ≡ true
    go true rest same f = kept (if is_among q seen then seen else seen ++ q ∷ []) ps p (here (eqb-true q p same) (is_among q seen) refl)
    go false rest same f = rest f

pub all_unseen : (K : ℕ → Bool) (seen ps : List ℕ) → list_all K seen ≡ true → list_all K ps ≡ true → list_all K (with_unseen seen ps) ≡ true
all_unseen K seen [] a b = a
all_unseen K seen (q ∷ ps) a b =
    let parts = and_parts _ _ b in all_unseen K (if is_among q seen then seen else seen ++ q ∷ []) ps (go (is_among q seen) parts.0) parts.1
  where
    go : (known : Bool) → K q ≡ true → list_all K (if known then seen else seen ++ q ∷ []) ≡ true
    go true e = a
    go false e = list_all-append K seen (q ∷ []) ∙ ap₂ (λ u v. u && (v && true)) a e

-- the cells of a group's row

abbrev or_null : Option DataType → DataType
or_null None = types.Null
or_null (Some t) = t

abbrev pub cells : List ℕ → List DataType → List DataType
cells [] ts = []
cells (p ∷ ps) ts = or_null (type_at p ts) ∷ cells ps ts

pub cells_length : (ps : List ℕ) (ts : List DataType) → length (cells ps ts) ≡ length ps
cells_length [] ts = refl
cells_length (p ∷ ps) ts = ap suc (cells_length ps ts)

-- a place of the source's row
abbrev pub is_cell : List DataType → ℕ → Bool
is_cell ts p = has is_any (type_at p ts)

null_of : (o : Option DataType) → has is_any o ≡ true → o ≡ Some (or_null o)
null_of None e = absurd (true≢false (sym e))
null_of (Some t) e = refl

pub cells_there : (ps : List ℕ) (ts : List DataType) → list_all (is_cell ts) ps ≡ true → types_at ps ts ≡ Some (cells ps ts)
cells_there [] ts e = refl
cells_there (p ∷ ps) ts e =
    let parts = and_parts _ _ e in ap₂ (λ a b. with_type a b) (null_of (type_at p ts) parts.0) (cells_there ps ts parts.1)

pub cell_among : (ps : List ℕ) (ts more : List DataType) (p : ℕ) (t : DataType) → is_among p ps ≡ true → type_at p ts ≡ Some t
    → type_at (place_among p ps) (cells ps ts ++ more) ≡ Some t
cell_among [] ts more p t e is = absurd (true≢false (sym e))
cell_among (q ∷ ps) ts more p t e is = go (q == p) (λ f. cell_among ps ts more p t f is) refl e
  where
    go : (b : Bool) → (is_among p ps ≡ true → type_at (place_among p ps) (cells ps ts ++ more) ≡ Some t) → (q == p) ≡ b
        → (b || is_among p ps) ≡ true
        → type_at (if b then zero else suc (place_among p ps)) (or_null (type_at q ts) ∷ (cells ps ts ++ more)) ≡ Some t
    go true rest same f = ap Some (ap or_null (ap (λ (r : ℕ). type_at r ts) (eqb-true q p same) ∙ is))
    go false rest same f = rest f

-- a name of GROUP BY has its place among the columns
pub named_among : (cs : List Titled) (name : List ℕ) (columns : List Tree) → list_any (names name) columns ≡ true
    → is_among (place_named cs name) (map (column_place cs) columns) ≡ true
named_among cs name [] e = absurd (true≢false (sym e))
named_among cs name (t ∷ ts) e = go (names name t) (λ f. named_among cs name ts f) refl e
  where
    here : (u : Tree) → names name u ≡ true → (column_place cs u == place_named cs name) ≡ true
    here (Field qualifier other) same = eq-eqb _ _ (ap (place_named cs) (sym (equality.equal_names name other same)))
    here _ same = absurd (true≢false (sym same))

    go : (b : Bool) → (list_any (names name) ts ≡ true → is_among (place_named cs name) (map (column_place cs) ts) ≡ true)
        → names name t ≡ b → (b || list_any (names name) ts) ≡ true
        → ((column_place cs t == place_named cs name) || is_among (place_named cs name) (map (column_place cs) ts)) ≡ true
    go true rest same f =
        or_left _ _ (here t same)
    go false rest same f =
        or_right _ _ (rest f)

pub source_cell : (cs : List Titled) (name : List ℕ) → list_any (has_name name) cs ≡ true
    → type_at (place_named cs name) (types_of cs) ≡ Some (type_named cs name)
source_cell cs name e = ap (type_at (place_named cs name)) (sym (append-nil (types_of cs))) ∙ plain_cell cs name [] e

-- columns that are there have cells
pub columns_there : (cs : List Titled) (columns : List Tree) → list_all is_field columns ≡ true → list_any (is_missing cs) columns ≡ false
    → list_all (is_cell (types_of cs)) (map (column_place cs) columns) ≡ true
columns_there cs [] f e = refl
columns_there cs (t ∷ ts) f e =
    let p = and_parts _ _ f in let m = or_parts _ _ e in
    ap₂ (λ a b. a && b) (here t p.0 m.0) (columns_there cs ts p.1 m.1)
  where
    here : (u : Tree) → is_field u ≡ true → is_missing cs u ≡ false → is_cell (types_of cs) (column_place cs u) ≡ true
    here (Field qualifier name) g m = ap (has is_any) (source_cell cs name (not-false _ m))
    here _ g m = absurd (true≢false (sym g))

-- the places of the columns of GROUP BY
abbrev pub group_places : List Titled → List (Element Tree) → List ℕ
group_places cs grouping = with_unseen [] (all_columns (elements_made cs grouping))

pub groups_there : (cs : List Titled) (grouping : List (Element Tree)) → list_all is_field (all_columns grouping) ≡ true
    → list_any (is_missing cs) (all_columns grouping) ≡ false → list_all (is_cell (types_of cs)) (group_places cs grouping) ≡ true
groups_there cs grouping f e =
    all_unseen (is_cell (types_of cs)) [] (all_columns (elements_made cs grouping)) refl
    (ap (list_all (is_cell (types_of cs))) (all_places (column_place cs) grouping) ∙ columns_there cs (all_columns grouping) f e)

pub group_among : (cs : List Titled) (grouping : List (Element Tree)) (name : List ℕ) → list_any (names name) (all_columns grouping) ≡ true
    → is_among (place_named cs name) (group_places cs grouping) ≡ true
group_among cs grouping name e =
    found [] (all_columns (elements_made cs grouping)) (place_named cs name) (ap (is_among (place_named cs name))
    (all_places (column_place cs) grouping) ∙ named_among cs name (all_columns grouping) e)

pub group_cell : (cs : List Titled) (grouping : List (Element Tree)) (name : List ℕ) (more : List DataType)
    → list_any (names name) (all_columns grouping) ≡ true → list_any (has_name name) cs ≡ true
    → type_at (place_among (place_named cs name) (group_places cs grouping))
    (cells (group_places cs grouping) (types_of cs) ++ more) ≡ Some (type_named cs name)
group_cell cs grouping name more g e =
    cell_among (group_places cs grouping) (types_of cs) more (place_named cs name) (type_named cs name)
    (group_among cs grouping name g) (source_cell cs name e)
