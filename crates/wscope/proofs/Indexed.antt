-- Names found by an index.
use Rattle.std.proofs.Common.{◌≡◌, ℕ, Bool, true, false, ◌||◌, not, cond, List, [], ◌∷◌, ◌++◌, refl, ap, sym, ◌∙◌, if◌then◌else◌}
use Rattle.std.proofs.Common.{Option, Some, None, take, map, length, get_or, ◌<◌, ◌+◌, is_some, append_assoc, suc, zero, arith}
use Rattle.std.proofs.lemmas.List.{take_more, map-append, append-nil}
use Rattle.std.proofs.Math.Numerals.{add-one}
use Rattle.std.proofs.lemmas.List.Folds.{list_any-append}
use Rattle.std.proofs.lemmas.Map.Text.{is_eq-slice_cmp}
use Rattle.std.proofs.lemmas.Slice.Eq.{bytes_eq-Decides}
use Rattle.std.specs.BTreeMap.{BTreeMap, IsEmpty, Updates, get}
use Rattle.std.specs.Map.{lookup}
use Rattle.std.specs.Borrow.{Bor}
use Rattle.std.specs.Cmp.Lexicographic.{slice_cmp}
use Rattle.std.specs.List.{list_any}
use Rattle.std.specs.Ordering.{is_eq, nat_cmp}
use Rattle.std.specs.Rc.{rc_str_bytes}
use Rattle.std.specs.Str.{bytes_eq}
use Rattle.std.specs.declared.alloc.Global.{Global}
use Rattle.std.specs.declared.rc.RcStr.{RcStr}
use Rattle.wquery.specs.declared.expression.Expression.{Expression}
use Rattle.wquery.specs.declared.query.Item.{Item}
use Rattle.wquery.specs.declared.query.Item.TheVariants as trees
use Rattle.wquery.specs.QueryTree.{ItemTree, AllColumns, Computed, view_item}
use Rattle.wquery.specs.Tree.{view, name_bytes}
use Rattle.wscope.specs.Scope.{output_name}
use Rattle.wscope.specs.Sources.{Shown, Placed, Spelled, ShownItem, all_titled, columns_from, written_out}
use Rattle.wscope.specs.declared.source.SourceColumn.{SourceColumn}
use Rattle.wscope.specs.Types.{Titled, type_of}
use Rattle.wscope.specs.declared.called.Called.{Called}
use Rattle.wscope.specs.Called.{first_called, is_called, is_unlike, same_shown}
use Rattle.wscope.specs.Outputs.{shown, first_of, first_or, has_two, IsIndex}
use Rattle.wscope.specs.Called.{is_star}
use Rattle.wscope.specs.Texts.{by_text}
use Rattle.wscope.proofs.WrittenOut.{or_else, or_else_none, some_first, first_split, star_first}
use Rattle.wscope.proofs.WrittenOut.{star_any, written_append, called_more, other_more}

name_is : (name : Bor (List ℕ)) (i : ShownItem) (q : List ℕ) → name.now ≡ i.name → is_eq (slice_cmp nat_cmp name.now q) ≡ is_called q i
name_is name i q en = is_eq-slice_cmp name.now q ∙ ap (λ (n : List ℕ). bytes_eq n q) en

same_name : (name : List ℕ) (i : ShownItem) (q : List ℕ) → name ≡ i.name → is_called q i ≡ true → name ≡ q
same_name name i q en e = en ∙ (bytes_eq-Decides i.name q).0 e

first_step : (b : Bool) (g : Option Called) (v : Called) (f : Option Shown) (s : Shown) → first_of g ≡ f
    → (b ≡ true → shown v.first ≡ first_or f s) → first_of (cond b (Some v) g) ≡ or_else f (if b then Some s else None)
first_step true g v f s eg ev = ap (λ (x : Shown). Some x) (ev refl) ∙ some_first f s
first_step false g v f s eg ev = eg ∙ sym (or_else_none f)

two_step : (b : Bool) (cs : List Titled) (q : List ℕ) (is : List ShownItem) (i : ShownItem) (g : Option Called)
    (v : Called) (f : Option Shown) → is_called q i ≡ b → first_called q is ≡ f → has_two g ≡ list_any (is_unlike cs q f) is
    → (b ≡ true → v.is_ambiguous ≡ (list_any (is_unlike cs q f) is || not (same_shown cs (first_or f i.shown) i.shown)))
    → has_two (cond b (Some v) g) ≡ list_any (is_unlike cs q (or_else f (if b then Some i.shown else None))) (is ++ i ∷ [])
two_step true cs q is i g v f eb ef eg ev = ev refl ∙ sym (called_more cs q is i f ef eb)
two_step false cs q is i g v f eb ef eg ev =
    eg ∙ sym (ap (λ (o : Option Shown). list_any (is_unlike cs q o) (is ++ i ∷ [])) (or_else_none f) ∙ other_more cs q is i f eb)

-- the first item of a name, seen from an equal name
first_there : (old : BTreeMap (Bor (List ℕ)) Called) (cs : List Titled) (is : List ShownItem) (name : Bor (List ℕ))
    (v : Called) (i : ShownItem) (q : List ℕ) → name.now ≡ i.name
    → shown v.first ≡ first_or (first_of (get by_text old name)) i.shown → IsIndex old cs is → is_called q i ≡ true
    → shown v.first ≡ first_or (first_called q is) i.shown
first_there old cs is name v i q en ef h e = ef ∙ ap (λ (o : Option Shown). first_or o i.shown) (h.first name
    ∙ ap (λ (n : List ℕ). first_called n is) (same_name name.now i q en e))

two_there : (old : BTreeMap (Bor (List ℕ)) Called) (cs : List Titled) (is : List ShownItem) (name : Bor (List ℕ))
    (v : Called) (i : ShownItem) (q : List ℕ) → name.now ≡ i.name
    → shown v.first ≡ first_or (first_of (get by_text old name)) i.shown
    → v.is_ambiguous ≡ (has_two (get by_text old name) || not (same_shown cs (shown v.first) i.shown))
    → IsIndex old cs is → is_called q i ≡ true
    → v.is_ambiguous ≡ (list_any (is_unlike cs q (first_called q is)) is
    || not (same_shown cs (first_or (first_called q is) i.shown) i.shown))
two_there old cs is name v i q en ef ea h e =
    ea ∙ ap (λ (b : Bool). b || not (same_shown cs (shown v.first) i.shown)) (h.two name
    ∙ ap (λ (n : List ℕ). list_any (is_unlike cs n (first_called n is)) is) (same_name name.now i q en e))
    ∙ ap (λ (s : Shown). list_any (is_unlike cs q (first_called q is)) is || not (same_shown cs s i.shown))
    (first_there old cs is name v i q en ef h e)

-- one more item
pub index_step : (old new : BTreeMap (Bor (List ℕ)) Called) (cs : List Titled) (is : List ShownItem) (name : Bor (List ℕ))
    (v : Called) (i : ShownItem) → name.now ≡ i.name → shown v.first ≡ first_or (first_of (get by_text old name)) i.shown
    → v.is_ambiguous ≡ (has_two (get by_text old name) || not (same_shown cs (shown v.first) i.shown))
    → Updates by_text old new name (Some v) → IsIndex old cs is → IsIndex new cs (is ++ i ∷ [])
index_step old new cs is name v i en ef ea u h = record {
  first = λ q.
      ap first_of (u.0 q) ∙ ap (λ (b : Bool). first_of (cond b (Some v) (get by_text old q))) (name_is name i q.now en)
      ∙ first_step (is_called q.now i) (get by_text old q) v (first_called q.now is) i.shown (h.first q)
      (first_there old cs is name v i q.now en ef h)
      ∙ sym (first_split q.now is (i ∷ []));
  two = λ q.
      ap has_two (u.0 q) ∙ ap (λ (b : Bool). has_two (cond b (Some v) (get by_text old q))) (name_is name i q.now en)
      ∙ two_step (is_called q.now i) cs q.now is i (get by_text old q) v (first_called q.now is) refl refl (h.two q)
      (two_there old cs is name v i q.now en ef ea h)
      ∙ ap (λ (o : Option Shown). list_any (is_unlike cs q.now o) (is ++ i ∷ [])) (sym (first_split q.now is (i ∷ [])));
}

-- a second `*`
pub star_again : (m : BTreeMap (Bor (List ℕ)) Called) (cs : List Titled) (items : List ItemTree)
    → list_any is_star items ≡ true → IsIndex m cs (written_out cs items) → IsIndex m cs (written_out cs items ++ columns_from 0 cs)
star_again m cs items e h = record {
  first = λ q. h.first q ∙ sym (star_first q.now cs items e);
  two = λ q.
      h.two q ∙ sym (star_any (is_unlike cs q.now (first_called q.now (written_out cs items))) cs items e)
      ∙ ap (λ (o : Option Shown). list_any (is_unlike cs q.now o) (written_out cs items ++ columns_from 0 cs))
      (sym (star_first q.now cs items e));
}

-- the items of an index, said otherwise
pub index_along : (m : BTreeMap (Bor (List ℕ)) Called) (cs : List Titled) (xs ys : List ShownItem) → xs ≡ ys
    → IsIndex m cs xs → IsIndex m cs ys
index_along m cs xs ys e h = record {
  first = λ q. h.first q ∙ ap (λ (zs : List ShownItem). first_called q.now zs) e;
  two = λ q. h.two q ∙ ap (λ (zs : List ShownItem). list_any (is_unlike cs q.now (first_called q.now zs)) zs) e;
}

-- the column that `*` brings in from a place
abbrev pub column_item : ℕ → SourceColumn → ShownItem
column_item place c = record { name = rc_str_bytes c.name; type = c.data_type; shown = Placed place }

-- one more column
pub columns_more : (place : ℕ) (xs : List SourceColumn) (i p : ℕ) (c : SourceColumn) → i < length xs → c ≡ get_or xs i c
    → p ≡ place + i → columns_from place (all_titled (take (suc i) xs)) ≡ columns_from place (all_titled (take i xs))
    ++ column_item p c ∷ []
columns_more place [] i p c h e ep = absurd (omega arith)
columns_more place (x ∷ xs) zero p c h e ep =
    let at : p ≡ place = omega arith in
    ap (λ (y : SourceColumn). column_item place y ∷ []) (sym e) ∙ ap (λ (n : ℕ). column_item n c ∷ []) (sym at)
columns_more place (x ∷ xs) (suc i) p c h e ep =
    let below : i < length xs = omega arith in
    let at : p ≡ suc place + i = omega arith in
    ap (λ (is : List ShownItem). column_item place x ∷ is) (columns_more (suc place) xs i p c below e at)

-- the columns up to a place behind other items
pub columns_step : (new : BTreeMap (Bor (List ℕ)) Called) (is : List ShownItem) (xs : List SourceColumn) (i p : ℕ)
    (c : SourceColumn) (name : List ℕ) → i < length xs → c ≡ get_or xs i c → p ≡ i → name ≡ rc_str_bytes c.name
    → IsIndex new (all_titled xs) ((is ++ columns_from 0 (all_titled (take i xs))) ++ record {
      name = name;
      type =
          c.data_type;
      shown = Placed p;
    } ∷ []) → IsIndex new (all_titled xs) (is ++ columns_from 0 (all_titled (take (i + 1) xs)))
columns_step new is xs i p c name h e ep en known =
    let at : p ≡ 0 + i = omega arith in
    let front : List ShownItem = is ++ columns_from 0 (all_titled (take i xs)) in
    let more : front ++ column_item p c ∷ [] ≡ is ++ columns_from 0 (all_titled (take (suc i) xs)) =
    append_assoc is (columns_from 0 (all_titled (take i xs))) (column_item p c ∷ [])
    ∙ ap (λ (zs : List ShownItem). is ++ zs) (sym (columns_more 0 xs i p c h e at)) in
    let named : front ++ record { name = name; type = c.data_type; shown = Placed p } ∷ [] ≡ front ++ column_item p c ∷ [] =
    ap (λ (n : List ℕ). front ++ record { name = n; type = c.data_type; shown = Placed p } ∷ []) en in
    index_along new (all_titled xs) _ _ (named ∙ more ∙ ap (λ (n : ℕ). is ++ columns_from 0 (all_titled (take n xs)))
    (sym (add-one i))) known

star_written : (cs : List Titled) → columns_from 0 cs ≡ written_out cs (AllColumns ∷ [])
star_written cs = sym (append-nil (columns_from 0 cs))

-- one more item behind others: `*`, and an expression
pub star_behind : (cs : List Titled) (items : List ItemTree) (i : Item) → i ≡ trees.All
    → written_out cs items ++ columns_from 0 cs ≡ written_out cs (items ++ view_item i ∷ [])
star_behind cs items i e =
    ap (λ (zs : List ShownItem). written_out cs items ++ zs) (star_written cs) ∙ sym (written_append cs items (AllColumns ∷ []))
    ∙ ap (λ (x : Item). written_out cs (items ++ view_item x ∷ [])) (sym e)

pub value_behind : (cs : List Titled) (items : List ItemTree) (i : Item) (x : Expression) (alias : Option (RcStr Global))
    (name : List ℕ) → i ≡ trees.Value x alias → name ≡ output_name (view x) (name_bytes alias)
    → written_out cs items ++ record { name = name; type = type_of cs (view x); shown = Spelled (view x) } ∷ []
    ≡ written_out cs (items ++ view_item i ∷ [])
value_behind cs items i x alias name e en =
    ap (λ (n : List ℕ). written_out cs items ++ record { name = n; type = type_of cs (view x); shown = Spelled (view x) } ∷ []) en
    ∙ sym (written_append cs items (Computed (view x) (name_bytes alias) ∷ []))
    ∙ ap (λ (y : Item). written_out cs (items ++ view_item y ∷ [])) (sym e)

or_last : (a b : Bool) → (a || b) ≡ (a || (b || false))
or_last true b = refl
or_last false true = refl
or_last false false = refl

-- whether `*` stands among the items up to a place
pub star_step : (xs : List Item) (i : ℕ) (x : Item) (r s : Bool) → i < length xs → x ≡ get_or xs i x
    → r ≡ list_any is_star (map view_item (take i xs)) → s ≡ is_star (view_item x)
    → (r || s) ≡ list_any is_star (map view_item (take (i + 1) xs))
star_step xs i x r s h e er es =
    let more : take (i + 1) xs ≡ take i xs ++ x ∷ [] = take_more xs i x h ∙ ap (λ (y : Item). take i xs ++ y ∷ []) (sym e) in
    ap (λ (b : Bool). b || s) er ∙ ap (λ (b : Bool). list_any is_star (map view_item (take i xs)) || b) es
    ∙ or_last (list_any is_star (map view_item (take i xs))) (is_star (view_item x))
    ∙ sym (ap (λ (ys : List Item). list_any is_star (map view_item ys)) more
    ∙ ap (list_any is_star) (map-append view_item (take i xs) (x ∷ []))
    ∙ list_any-append is_star (map view_item (take i xs)) (view_item x ∷ []))

-- the items up to the next place
pub items_more : (xs : List Item) (i : ℕ) (x : Item) → i < length xs → x ≡ get_or xs i x
    → map view_item (take i xs) ++ view_item x ∷ [] ≡ map view_item (take (i + 1) xs)
items_more xs i x h e =
    let more : take (i + 1) xs ≡ take i xs ++ x ∷ [] = take_more xs i x h ∙ ap (λ (y : Item). take i xs ++ y ∷ []) (sym e) in
    sym (ap (map view_item) more ∙ map-append view_item (take i xs) (x ∷ []))

pub found_some : (o : Option Called) → is_some o ≡ is_some (first_of o)
found_some None = refl
found_some (Some c) = refl

-- no items
pub index_empty : (m : BTreeMap (Bor (List ℕ)) Called) (cs : List Titled) → IsEmpty m → IsIndex m cs []
index_empty m cs e = record {
  first = λ q. ap (λ (es : List (Bor (List ℕ) × Called)). first_of (lookup (λ (k : Bor (List ℕ)). is_eq (by_text q k)) es)) e;
  two = λ q. ap (λ (es : List (Bor (List ℕ) × Called)). has_two (lookup (λ (k : Bor (List ℕ)). is_eq (by_text q k)) es)) e;
}
