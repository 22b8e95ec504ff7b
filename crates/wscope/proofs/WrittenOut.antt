-- Items written out, one after the other.
use Rattle.std.proofs.Common.{◌≡◌, ℕ, Bool, true, false, ◌||◌, ◌&&◌, not, List, [], ◌∷◌, ◌++◌, refl, ap}
use Rattle.std.proofs.Common.{sym, ◌∙◌, if◌then◌else◌, Option, Some, None, append_assoc, suc, is_some}
use Rattle.std.proofs.lemmas.List.Folds.{list_any-append}
use Rattle.std.specs.List.{list_any}
use Rattle.wquery.specs.QueryTree.{ItemTree, AllColumns, Computed}
use Rattle.wscope.specs.Scope.{output_name, item_has_name, has_name}
use Rattle.wscope.specs.Sources.{Shown, Placed, Spelled, ShownItem, columns_from, written_out}
use Rattle.wscope.specs.Types.{Titled, type_of}
use Rattle.wscope.specs.Called.{first_called, is_called, is_unlike, same_shown}
use Rattle.wscope.specs.Outputs.{first_or}
use Rattle.wscope.proofs.Links.{or_false}
use Rattle.wscope.specs.Called.{is_star}

absorb : (a b : Bool) → ((a || b) || a) ≡ (a || b)
absorb true b = refl
absorb false b = or_false b

abbrev pub or_else : Option Shown → Option Shown → Option Shown
or_else None other = other
or_else (Some s) other = Some s

pub or_else_none : (f : Option Shown) → or_else f None ≡ f
or_else_none None = refl
or_else_none (Some s) = refl

pub some_first : (f : Option Shown) (s : Shown) → Some (first_or f s) ≡ or_else f (Some s)
some_first None s = refl
some_first (Some a) s = refl

again : (a b : Option Shown) → or_else (or_else a b) a ≡ or_else a b
again None b = or_else_none b
again (Some s) b = refl

pick : (b : Bool) (s : Shown) (x y : Option Shown) → (if b then Some s else or_else x y) ≡ or_else (if b then Some s else x) y
pick true s x y = refl
pick false s x y = refl

pub first_split : (name : List ℕ) (xs ys : List ShownItem) → first_called name (xs ++ ys) ≡ or_else (first_called name xs)
    (first_called name ys)
first_split name [] ys = refl
first_split name (x ∷ xs) ys = ap (λ (o : Option Shown). if is_called name x then Some x.shown else o)
    (first_split name xs ys) ∙ pick (is_called name x) x.shown (first_called name xs) (first_called name ys)

pub written_append : (cs : List Titled) (xs ys : List ItemTree) → written_out cs (xs ++ ys) ≡ written_out cs xs ++ written_out cs ys
written_append cs [] ys = refl
written_append cs (AllColumns ∷ xs) ys = ap (λ (zs : List ShownItem). columns_from 0 cs ++ zs) (written_append cs xs ys)
    ∙ sym (append_assoc (columns_from 0 cs) (written_out cs xs) (written_out cs ys))
written_append cs (Computed t alias ∷ xs) ys = ap (λ (zs : List ShownItem). record {
  name = output_name t alias;
  type =
      type_of cs t;
  shown = Spelled t;
} ∷ zs) (written_append cs xs ys)

-- what a second `*` brings in was there
pub star_first : (name : List ℕ) (cs : List Titled) (items : List ItemTree) → list_any is_star items ≡ true
    → first_called name (written_out cs items ++ columns_from 0 cs) ≡ first_called name (written_out cs items)
star_first name cs [] e = cc
star_first name cs (AllColumns ∷ items) e =
    first_split name (columns_from 0 cs ++ written_out cs items) (columns_from 0 cs)
    ∙ ap (λ (o : Option Shown). or_else o (first_called name (columns_from 0 cs))) (first_split name (columns_from 0 cs)
    (written_out cs items))
    ∙ again (first_called name (columns_from 0 cs)) (first_called name (written_out cs items))
    ∙ sym (first_split name (columns_from 0 cs) (written_out cs items))
star_first name cs (Computed t alias ∷ items) e =
    ap (λ (o : Option Shown). if is_called name (record {
      name = output_name t alias;
      type = type_of cs t;
      shown =
          Spelled t;
    }) then Some (Spelled t) else o) (star_first name cs items e)

pub star_any : (p : ShownItem → Bool) (cs : List Titled) (items : List ItemTree) → list_any is_star items ≡ true
    → list_any p (written_out cs items ++ columns_from 0 cs) ≡ list_any p (written_out cs items)
star_any p cs [] e = cc
star_any p cs (AllColumns ∷ items) e =
    list_any-append p (columns_from 0 cs ++ written_out cs items) (columns_from 0 cs)
    ∙ ap (λ (b : Bool). b || list_any p (columns_from 0 cs)) (list_any-append p (columns_from 0 cs) (written_out cs items))
    ∙ absorb (list_any p (columns_from 0 cs)) (list_any p (written_out cs items))
    ∙ sym (list_any-append p (columns_from 0 cs) (written_out cs items))
star_any p cs (Computed t alias ∷ items) e =
    ap (λ (b : Bool). p (record { name = output_name t alias; type = type_of cs t; shown = Spelled t }) || b) (star_any p cs items e)

none_unlike : (cs : List Titled) (name : List ℕ) (is : List ShownItem) → list_any (is_unlike cs name None) is ≡ false
none_unlike cs name [] = refl
none_unlike cs name (i ∷ is) = none_unlike cs name is

none_here : (b : Bool) (s : Shown) (o : Option Shown) → (if b then Some s else o) ≡ None → b ≡ false
none_here true s o e = cc
none_here false s o e = refl

none_below : (b : Bool) (s : Shown) (o : Option Shown) → (if b then Some s else o) ≡ None → o ≡ None
none_below true s o e = cc
none_below false s o e = e

-- where no item has a name, none is unlike another one of it
none_called : (cs : List Titled) (name : List ℕ) (s : Shown) (is : List ShownItem) → first_called name is ≡ None
    → list_any (is_unlike cs name (Some s)) is ≡ false
none_called cs name s [] e = refl
none_called cs name s (i ∷ is) e =
    ap (λ (b : Bool). (b && not (same_shown cs s i.shown)) || list_any (is_unlike cs name (Some s)) is)
    (none_here (is_called name i) i.shown (first_called name is) e)
    ∙ none_called cs name s is (none_below (is_called name i) i.shown (first_called name is) e)

-- one more item of a name, and one of another name
pub called_more : (cs : List Titled) (name : List ℕ) (is : List ShownItem) (i : ShownItem) (f : Option Shown)
    → first_called name is ≡ f → is_called name i ≡ true → list_any (is_unlike cs name (or_else f (Some i.shown)))
    (is ++ i ∷ []) ≡ (list_any (is_unlike cs name f) is || not (same_shown cs (first_or f i.shown) i.shown))
called_more cs name is i None e b =
    list_any-append (is_unlike cs name (Some i.shown)) is (i ∷ [])
    ∙ ap (λ (x : Bool). x || (is_unlike cs name (Some i.shown) i || false)) (none_called cs name i.shown is e)
    ∙ or_false (is_unlike cs name (Some i.shown) i)
    ∙ ap (λ (x : Bool). x && not (same_shown cs i.shown i.shown)) b
    ∙ sym (ap (λ (x : Bool). x || not (same_shown cs i.shown i.shown)) (none_unlike cs name is))
called_more cs name is i (Some a) e b =
    list_any-append (is_unlike cs name (Some a)) is (i ∷ [])
    ∙ ap (λ (x : Bool). list_any (is_unlike cs name (Some a)) is || x) (or_false (is_unlike cs name (Some a) i)
    ∙ ap (λ (x : Bool). x && not (same_shown cs a i.shown)) b)

pub other_more : (cs : List Titled) (name : List ℕ) (is : List ShownItem) (i : ShownItem) (f : Option Shown)
    → is_called name i ≡ false → list_any (is_unlike cs name f) (is ++ i ∷ []) ≡ list_any (is_unlike cs name f) is
other_more cs name is i None b = none_unlike cs name (is ++ i ∷ []) ∙ sym (none_unlike cs name is)
other_more cs name is i (Some a) b =
    list_any-append (is_unlike cs name (Some a)) is (i ∷ [])
    ∙ ap (λ (x : Bool). list_any (is_unlike cs name (Some a)) is || x) (or_false (is_unlike cs name (Some a) i)
    ∙ ap (λ (x : Bool). x && not (same_shown cs a i.shown)) b)
    ∙ or_false (list_any (is_unlike cs name (Some a)) is)

some_or : (b : Bool) (s : Shown) (o : Option Shown) (r : Bool) → r ≡ is_some o → (b || r) ≡ is_some (if b then Some s else o)
some_or true s o r e = refl
some_or false s o r e = e

columns_named : (name : List ℕ) (place : ℕ) (cs : List Titled)
    → list_any (has_name name) cs ≡ is_some (first_called name (columns_from place cs))
columns_named name place [] = refl
columns_named name place (c ∷ cs) = some_or (has_name name c) (Placed place)
    (first_called name (columns_from (suc place) cs)) (list_any (has_name name) cs) (columns_named name (suc place) cs)

some_else : (a b : Option Shown) → (is_some a || is_some b) ≡ is_some (or_else a b)
some_else None b = refl
some_else (Some s) b = refl

-- an item has a name where one is called so
pub item_named : (name : List ℕ) (cs : List Titled) (items : List ItemTree) → list_any (item_has_name cs name) items
    ≡ is_some (first_called name (written_out cs items))
item_named name cs [] = refl
item_named name cs (AllColumns ∷ items) =
    ap (λ (b : Bool). b || list_any (item_has_name cs name) items) (columns_named name 0 cs)
    ∙ ap (λ (b : Bool). is_some (first_called name (columns_from 0 cs)) || b) (item_named name cs items)
    ∙ some_else (first_called name (columns_from 0 cs)) (first_called name (written_out cs items))
    ∙ ap is_some (sym (first_split name (columns_from 0 cs) (written_out cs items)))
item_named name cs (Computed t alias ∷ items) =
    some_or (item_has_name cs name (Computed t alias)) (Spelled t) (first_called name (written_out cs items))
    (list_any (item_has_name cs name) items) (item_named name cs items)
