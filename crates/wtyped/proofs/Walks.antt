-- What a look at all nodes of an expression says, where it finds nothing: of a weaker look, and of the calls in it.
use Rattle.std.proofs.Common.{◌≡◌, Bool, true, false, not, ◌&&◌, ◌||◌, List, [], ◌∷◌, ◌++◌}
use Rattle.std.proofs.Common.{Option, Some, None, refl, sym, ap, ap₂, ◌∙◌, true≢false}
use Rattle.std.specs.Prelude.{if◌then◌else◌}
use Rattle.std.specs.List.{list_all}
use Rattle.std.proofs.lemmas.Bool.{or_parts, or_from, and_parts}
use Rattle.std.proofs.lemmas.List.Folds.{list_all-append}
use Rattle.wquery.specs.Tree.{Tree, Reach, KeyTree, own_window}
use Rattle.wquery.specs.QueryTree.{Clauses, ItemTree, AllColumns, Computed, EntryTree}
use Rattle.wscope.specs.declared.look.Look.{Look}
use Rattle.wscope.specs.declared.look.Look.TheVariants.{Found, Closed, Below}
use Rattle.wscope.specs.Finding.{finds}
use Rattle.wscope.specs.Scope.{is_output, some_anywhere, some_entry, some_item, some_option, some_shown, some_sort}
use Rattle.wscope.specs.Seeking.{found_or, seeking, some_below, some_node, some_reach}
use Rattle.wscope.specs.Types.{Titled}
use Rattle.wnodes.proofs.Related.{Relates, related, related_below, related_reach}
use Rattle.wtyped.proofs.Tests.{are_false}
use Rattle.wdistinct.specs.Calls.{node_or, nodes_below, nodes_in, nodes_in_reach, picking}

-- where a node and those below it are not found
pub open_find : (b x : Bool) → found_or (if b then Found else Below) x ≡ false → (b ≡ false) × (x ≡ false)
open_find true x e = absurd (true≢false e)
open_find false x e = (refl, e)

-- where neither of two looks finds a node, the third does not either, and it looks below only where both do
abbrev pub covers : Look → Look → Look → Bool
covers Found b c = true
covers Closed Found c = true
covers Below Found c = true
covers Closed Closed Closed = true
covers Closed Below Closed = true
covers Below Closed Closed = true
covers Below Below Closed = true
covers Below Below Below = true
covers _ _ _ = false

abbrev pub Covers : (Tree → Look) → (Tree → Look) → (Tree → Look) → Type 0
Covers s r w = (n : Tree) → covers (s n) (r n) (w n) ≡ true

node : (a b c : Look) (x y z : Bool) → covers a b c ≡ true → (x ≡ false → y ≡ false → z ≡ false) → found_or a x ≡ false
    → found_or b y ≡ false → found_or c z ≡ false
node Found b c x y z k rest e f = absurd (true≢false e)
node Closed Found c x y z k rest e f = absurd (true≢false f)
node Below Found c x y z k rest e f = absurd (true≢false f)
node Closed Closed Closed x y z k rest e f = refl
node Closed Below Closed x y z k rest e f = refl
node Below Closed Closed x y z k rest e f = refl
node Below Below Closed x y z k rest e f = refl
node Below Below Below x y z k rest e f = rest e f
node _ _ _ x y z k rest e f = absurd (true≢false (sym k))

either : (a b c d e f : Bool) → (a ≡ false → c ≡ false → e ≡ false) → (b ≡ false → d ≡ false → f ≡ false) → (a || b) ≡ false
    → (c || d) ≡ false → (e || f) ≡ false
either a b c d e f g h p q =
    let x = or_parts a b p in let y = or_parts c d q in or_from e f (g x.0 y.0) (h x.1 y.1)

-- at every node
covered : (s r w : Tree → Look) → Covers s r w → Relates (λ x y z. x ≡ false → y ≡ false → z ≡ false) (seeking s) (seeking r) (seeking w)
covered s r w k = record {
  none = λ e f. refl;
  both = λ x x' y y' z z' g h. either x x' y y' z z' g h;
  at = λ t rest. node (s t) (r t) (w t) (some_below s t) (some_below r t) (some_below w t) (k t) rest;
}

-- of an expression, of what is given to a call, of a window
pub expression : (s r w : Tree → Look) → Covers s r w → (t : Tree) → some_node s t ≡ false → some_node r t ≡ false → some_node w t ≡ false
expression s r w k t = related _ (seeking s) (seeking r) (seeking w) (covered s r w k) t

pub parts_below : (s r w : Tree → Look) → Covers s r w → (t : Tree) → some_below s t ≡ false → some_below r t ≡ false
    → some_below w t ≡ false
parts_below s r w k t = related_below _ (seeking s) (seeking r) (seeking w) (covered s r w k) t

pub window : (s r w : Tree → Look) → Covers s r w → (o : Reach) → some_reach s o ≡ false → some_reach r o ≡ false → some_reach w o ≡ false
window s r w k o = related_reach _ (seeking s) (seeking r) (seeking w) (covered s r w k) o

pub items : (s r w : Tree → Look) → Covers s r w → (is : List ItemTree) → some_item s is ≡ false → some_item r is ≡ false
    → some_item w is ≡ false
items s r w k [] = λ e f. refl
items s r w k (AllColumns ∷ is) = items s r w k is
items s r w k (Computed t alias ∷ is) = either _ _ _ _ _ _ (expression s r w k t) (items s r w k is)

pub entries : (s r w : Tree → Look) → Covers s r w → (es : List EntryTree) → some_entry s es ≡ false → some_entry r es ≡ false
    → some_entry w es ≡ false
entries s r w k [] = λ e f. refl
entries s r w k (e ∷ es) = either _ _ _ _ _ _ (window s r w k (own_window e.window)) (entries s r w k es)

guarded : (b x y z : Bool) → (x ≡ false → y ≡ false → z ≡ false) → (b && x) ≡ false → (b && y) ≡ false → (b && z) ≡ false
guarded true x y z rest e f = rest e f
guarded false x y z rest e f = refl

pub sorts : (cs : List Titled) (is : List ItemTree) (s r w : Tree → Look) → Covers s r w → (ks : List KeyTree)
    → some_sort cs is s ks ≡ false → some_sort cs is r ks ≡ false → some_sort cs is w ks ≡ false
sorts cs is s r w k [] = λ e f. refl
sorts cs is s r w k (key ∷ ks) =
    either _ _ _ _ _ _ (guarded (not (is_output cs is key.expression)) _ _ _ (expression s r w k key.expression)) (sorts cs is s r w k ks)

-- of WHERE or HAVING
pub option : (s r w : Tree → Look) → Covers s r w → (t : Option Tree) → some_option s t ≡ false → some_option r t ≡ false
    → some_option w t ≡ false
option s r w k None = λ e f. refl
option s r w k (Some t) = expression s r w k t

-- nothing is found in the SELECT list, WINDOW, ORDER BY and HAVING
pub record Unseen (cs : List Titled) (c : Clauses) (w : Tree → Look) : Type 0 where
  pub items : some_item w c.items ≡ false
  pub entries : some_entry w c.windows ≡ false
  pub order : some_sort cs c.items w c.order ≡ false
  pub having : some_option w c.having ≡ false

-- nor in WHERE
pub record Nowhere (cs : List Titled) (c : Clauses) (w : Tree → Look) : Type 0 where
  pub shown : Unseen cs c w
  pub condition : some_option w c.condition ≡ false

pub unseen_in : (cs : List Titled) (c : Clauses) (w : Tree → Look) → some_shown cs c w ≡ false → some_option w c.having ≡ false
    → Unseen cs c w
unseen_in cs c w e h =
    let a = are_false (some_item w c.items) (some_entry w c.windows ∷ some_sort cs c.items w c.order ∷ []) e in
    record { items = a.0; entries = a.1.0; order = a.1.1; having = h }

pub nowhere : (cs : List Titled) (c : Clauses) (w : Tree → Look) → some_anywhere cs c w ≡ false → Nowhere cs c w
nowhere cs c w e =
    let a = are_false (some_shown cs c w) (some_option w c.condition ∷ some_option w c.having ∷ []) e in
    record { shown = unseen_in cs c w a.0 a.1.1; condition = a.1.0 }

pub unseen : {cs : List Titled} {c : Clauses} {s r w : Tree → Look} → Covers s r w → Unseen cs c s → Unseen cs c r → Unseen cs c w
unseen {cs = cs} {c = c} {s = s} {r = r} {w = w} k a b = record {
  items = items s r w k c.items a.items b.items;
  entries = entries s r w k c.windows a.entries b.entries;
  order = sorts cs c.items s r w k c.order a.order b.order;
  having = option s r w k c.having a.having b.having;
}

find_either : (x y : Bool) → covers (if x then Found else Below) (if y then Found else Below) (if (x || y) then Found else Below) ≡ true
find_either true y = refl
find_either false true = refl
find_either false false = refl

-- two tests find what one or the other does
pub either_test : (p q : Tree → Bool) → Covers (finds p) (finds q) (finds (λ n. p n || q n))
either_test p q n = find_either (p n) (q n)

pub both_nowhere : {cs : List Titled} {c : Clauses} (p q : Tree → Bool) → Nowhere cs c (finds p) → Nowhere cs c (finds q)
    → Nowhere cs c (finds (λ n. p n || q n))
both_nowhere {c = c} p q a b =
    let k = either_test p q in
    record { shown = unseen k a.shown b.shown; condition = option (finds p) (finds q) _ k c.condition a.condition b.condition }

-- one of these tests
abbrev pub some_of : (Tree → Bool) → List (Tree → Bool) → Tree → Bool
some_of p [] n = p n
some_of p (q ∷ qs) n = p n || some_of q qs n

abbrev pub AreNowhere : List Titled → Clauses → (Tree → Bool) → List (Tree → Bool) → Type 0
AreNowhere cs c p [] = some_anywhere cs c (finds p) ≡ false
AreNowhere cs c p (q ∷ qs) = (some_anywhere cs c (finds p) ≡ false) × AreNowhere cs c q qs

pub all_nowhere : (cs : List Titled) (c : Clauses) (p : Tree → Bool) (qs : List (Tree → Bool)) → AreNowhere cs c p qs
    → Nowhere cs c (finds (some_of p qs))
all_nowhere cs c p [] a = nowhere cs c (finds p) a
all_nowhere cs c p (q ∷ qs) a = both_nowhere p (some_of q qs) (nowhere cs c (finds p) a.0) (all_nowhere cs c q qs a.1)

-- the nodes that are listed

both : (p : Tree → Bool) (x y : Bool) (xs ys : List Tree) → (x ≡ false → list_all p xs ≡ true) → (y ≡ false → list_all p ys ≡ true)
    → (x || y) ≡ false → list_all p (xs ++ ys) ≡ true
both p x y xs ys first second e =
    let parts = or_parts x y e in list_all-append p xs ys ∙ ap₂ (λ u v. u && v) (first parts.0) (second parts.1)

-- what is listed passes, where nothing is found in it
abbrev pub Kept : (Tree → Bool) → (Tree → Look) → (Tree → Bool) → Type 0
Kept s w K = (n : Tree) → s n ≡ true → some_node w n ≡ false → K n ≡ true

-- and so does all that is listed below a node that is closed to the look
abbrev pub Shut : (Tree → Bool) → (Tree → Look) → (Tree → Bool) → Type 0
Shut s w K = (n : Tree) → s n ≡ false → w n ≡ Closed → list_all K (nodes_below s n) ≡ true

listed : (s : Tree → Bool) (w : Tree → Look) (K : Tree → Bool) → Kept s w K → Shut s w K → (t : Tree)
    → (some_below w t ≡ false → list_all K (nodes_below s t) ≡ true) → some_node w t ≡ false → list_all K (nodes_in s t) ≡ true
listed s w K h c t rest e = go (s t) (w t) refl refl e
  where
    go : (b : Bool) (l : Look) → s t ≡ b → w t ≡ l → found_or l (some_below w t) ≡ false → list_all K (node_or b t (nodes_below s t)) ≡ true
    go true l sought look f = ap (λ (x : Bool). x && true) (h t sought (ap (λ (x : Look). found_or x (some_below w t)) look ∙ f))
    go false Found sought look f = absurd (true≢false f)
    go false Closed sought look f = c t sought look
    go false Below sought look f = rest f

all_listed : (s : Tree → Bool) (w : Tree → Look) (K : Tree → Bool) → Kept s w K → Shut s w K
    → Relates (λ x xs ys. x ≡ false → list_all K xs ≡ true) (seeking w) (picking s) (picking s)
all_listed s w K h c = record {
  none = λ e. refl;
  both = λ x x' xs xs' ys ys' g h. both K x x' xs xs' g h;
  at = λ t rest. listed s w K h c t rest;
}

pub listed_in : (s : Tree → Bool) (w : Tree → Look) (K : Tree → Bool) → Kept s w K → Shut s w K → (t : Tree) → some_node w t ≡ false
    → list_all K (nodes_in s t) ≡ true
listed_in s w K h c t = related _ (seeking w) (picking s) (picking s) (all_listed s w K h c) t

pub listed_parts : (s : Tree → Bool) (w : Tree → Look) (K : Tree → Bool) → Kept s w K → Shut s w K → (t : Tree) → some_below w t ≡ false
    → list_all K (nodes_below s t) ≡ true
listed_parts s w K h c t = related_below _ (seeking w) (picking s) (picking s) (all_listed s w K h c) t

pub listed_window : (s : Tree → Bool) (w : Tree → Look) (K : Tree → Bool) → Kept s w K → Shut s w K → (o : Reach) → some_reach w o ≡ false
    → list_all K (nodes_in_reach s o) ≡ true
listed_window s w K h c o = related_reach _ (seeking w) (picking s) (picking s) (all_listed s w K h c) o

-- a look at the nodes of a list: one that does not pass is found, and below one that passes nothing is looked for
abbrev pub unless_passed : Bool → Bool → Look
unless_passed b passes = if b then (if passes then Closed else Found) else Below

abbrev pub sees_failed : (Tree → Bool) → (Tree → Bool) → Tree → Look
sees_failed s K n = unless_passed (s n) (K n)

none : (K : Tree → Bool) (x y : Bool) (xs ys : List Tree) → (list_all K xs ≡ true → x ≡ false) → (list_all K ys ≡ true → y ≡ false)
    → list_all K (xs ++ ys) ≡ true → (x || y) ≡ false
none K x y xs ys first second e =
    let parts = and_parts _ _ (sym (list_all-append K xs ys) ∙ e) in or_from x y (first parts.0) (second parts.1)

passed : (s K : Tree → Bool) (t : Tree) → (list_all K (nodes_below s t) ≡ true → some_below (sees_failed s K) t ≡ false)
    → list_all K (nodes_in s t) ≡ true → some_node (sees_failed s K) t ≡ false
passed s K t rest e = go (s t) (K t) refl refl e
  where
    go : (b k : Bool) → s t ≡ b → K t ≡ k → list_all K (node_or b t (nodes_below s t)) ≡ true
        → found_or (unless_passed b k) (some_below (sees_failed s K) t) ≡ false
    go true true sought is f = refl
    go true false sought is f = absurd (true≢false (sym (and_parts _ _ f).0 ∙ is))
    go false k sought is f = rest f

all_passed : (s K : Tree → Bool) → Relates (λ xs x y. list_all K xs ≡ true → x ≡ false) (picking s)
    (seeking (sees_failed s K)) (seeking (sees_failed s K))
all_passed s K = record { none = λ e. refl; both = λ xs xs' x x' y y' g h. none K x x' xs xs' g h; at = λ t rest. passed s K t rest }

pub passed_in : (s K : Tree → Bool) (t : Tree) → list_all K (nodes_in s t) ≡ true → some_node (sees_failed s K) t ≡ false
passed_in s K t = related _ (picking s) (seeking (sees_failed s K)) (seeking (sees_failed s K)) (all_passed s K) t

pub passed_window : (s K : Tree → Bool) (o : Reach) → list_all K (nodes_in_reach s o) ≡ true → some_reach (sees_failed s K) o ≡ false
passed_window s K o = related_reach _ (picking s) (seeking (sees_failed s K)) (seeking (sees_failed s K)) (all_passed s K) o
