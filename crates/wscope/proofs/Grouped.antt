-- Names of columns that come to a set.
use Rattle.std.proofs.Common.{◌≡◌, ℕ, Bool, true, false, ◌||◌, cond, List, [], ◌∷◌, ◌++◌}
use Rattle.std.proofs.Common.{refl, ap, sym, ◌∙◌, ◌+◌, ◌<◌, take, length, get_or}
use Rattle.std.proofs.lemmas.List.{map-append, take_more}
use Rattle.std.proofs.lemmas.List.Folds.{list_any-append}
use Rattle.std.proofs.lemmas.Map.Text.{btree_set_updates_text}
use Rattle.std.proofs.lemmas.Slice.Eq.{bytes_eq-Decides}
use Rattle.std.specs.Bool.{Decides}
use Rattle.std.specs.BTreeSet.{BTreeSet, contains_text}
use Rattle.std.specs.BTreeSet as sets
use Rattle.std.specs.Borrow.{Bor}
use Rattle.std.specs.List.{list_any}
use Rattle.std.specs.Rc.{rc_str_bytes}
use Rattle.std.specs.Str.{bytes_eq}
use Rattle.std.specs.String.{string_bytes, string_cmp}
use Rattle.std.specs.declared.alloc.Global.{Global}
use Rattle.std.specs.declared.string.String.{String}
use Rattle.wquery.specs.declared.expression.Column.{Column}
use Rattle.wquery.specs.Tree.{Tree, view_column}
use Rattle.wscope.specs.Groups.{AddsNames, lent_columns}
use Rattle.wscope.specs.Called.{names}

pub name_sym : (a b : List ℕ) → bytes_eq a b ≡ bytes_eq b a
name_sym a b = by (bytes_eq a b) (bytes_eq b a) (bytes_eq-Decides a b) (bytes_eq-Decides b a)
  where
    by : (r s : Bool) → Decides r (a ≡ b) → Decides s (b ≡ a) → r ≡ s
    by true s d e = sym (e.1 (sym (d.0 refl)))
    by false true d e = d.1 (sym (e.0 refl))
    by false false d e = refl

or_cond : (b h : Bool) → cond b true h ≡ (h || (b || false))
or_cond true true = refl
or_cond true false = refl
or_cond false true = refl
or_cond false false = refl

-- one column
pub adds_column : (old new : BTreeSet (String Global)) (name : String Global) (x : Column)
    → string_bytes name ≡ rc_str_bytes x.name → sets.Updates string_cmp old new name true → AddsNames old new (view_column x ∷ [])
adds_column old new name x same u q =
    let is_new : bytes_eq (string_bytes name) q ≡ bytes_eq q (rc_str_bytes x.name) = ap (λ (n : List ℕ). bytes_eq n q) same
    ∙ name_sym (rc_str_bytes x.name) q in
    btree_set_updates_text (string_bytes name) old new true u q ∙ ap (λ (b : Bool). cond b true (contains_text old q))
    is_new ∙ or_cond (bytes_eq q (rc_str_bytes x.name)) (contains_text old q)

map_next : (xs : List (Bor Column)) (i : ℕ) (x : Bor Column) → i < length xs → x ≡ get_or xs i x
    → lent_columns (take i xs) ++ view_column x.now ∷ [] ≡ lent_columns (take (i + 1) xs)
map_next xs i x h e =
    sym (map-append (λ (c : Bor Column). view_column c.now) (take i xs) (x ∷ []))
    ∙ ap lent_columns (sym (take_more xs i x h ∙ ap (λ (y : Bor Column). take i xs ++ y ∷ []) (sym e)))

-- a set of nothing but these names, and one more
pub names_along : (old new : BTreeSet (String Global)) (xs : List (Bor Column)) (i : ℕ) (x : Bor Column) → i < length xs
    → x ≡ get_or xs i x → AddsNames old new (view_column x.now ∷ [])
    → ((q : List ℕ) → contains_text old q ≡ list_any (names q) (lent_columns (take i xs))) → (q : List ℕ)
    → contains_text new q ≡ list_any (names q) (lent_columns (take (i + 1) xs))
names_along old new xs i x h e here before q =
    here q ∙ ap (λ (b : Bool). b || list_any (names q) (view_column x.now ∷ [])) (before q)
    ∙ sym (list_any-append (names q) (lent_columns (take i xs)) (view_column x.now ∷ []))
    ∙ ap (λ (ys : List Tree). list_any (names q) ys) (map_next xs i x h e)
