-- A query has an aggregate without OVER, or GROUPING, where some is collected.
use Rattle.std.proofs.Common.{◌≡◌, Bool, true, false, not, ◌&&◌, ◌||◌, List, [], ◌∷◌, ◌++◌, Option}
use Rattle.std.proofs.Common.{Some, None, is_some, refl, sym, ap, ◌∙◌, ap₂, true≢false}
use Rattle.std.specs.Prelude.{if◌then◌else◌}
use Rattle.std.specs.List.{list_any}
use Rattle.wquery.specs.Tree.{Tree, Numeral, Field, Invoked, Everything, These, Columns}
use Rattle.wquery.specs.Tree.{ItsGroup, ThatWindow, OwnWindow, KeyTree, own_window}
use Rattle.wquery.specs.QueryTree.{ItemTree, AllColumns, Computed, EntryTree}
use Rattle.wnodes.specs.Sameness.{is_same}
use Rattle.wscope.specs.Functions.{function_of}
use Rattle.wscope.specs.declared.function.Function.{Function}
use Rattle.wscope.specs.declared.look.Look.TheVariants.{Found, Below}
use Rattle.wscope.specs.Finding.{finds}
use Rattle.wscope.specs.Scope.{is_output, some_entry, some_item, some_sort}
use Rattle.wscope.specs.Seeking.{found_or, seeking, some_below, some_node}
use Rattle.wscope.specs.Types.{Titled}
use Rattle.wnodes.proofs.Related.{Relates, related, related_reach}
use Rattle.wnames.specs.Calls.{is_aggregate_of}
use Rattle.wnames.specs.Groups.{has_some, is_group_call}
use Rattle.wdistinct.specs.declared.distinct_calls.CallKind.TheVariants.{Grouped}
use Rattle.wdistinct.specs.Calls.{is_aggregate_function, is_call_of, node_or, nodes_below, nodes_in, nodes_in_entries}
use Rattle.wdistinct.specs.Calls.{nodes_in_items, nodes_in_option, nodes_in_order, nodes_in_reach, picking, with_new}
use Rattle.wresolve.specs.Laws.{GroupedAlike}

-- of two lists, and of one that is made longer

behind : (xs ys : List Tree) → has_some (xs ++ ys) ≡ (has_some xs || has_some ys)
behind [] ys = refl
behind (x ∷ xs) ys = refl

pair : (x y : Bool) (xs ys : List Tree) → has_some xs ≡ x → has_some ys ≡ y → has_some (xs ++ ys) ≡ (x || y)
pair x y xs ys a b = behind xs ys ∙ ap₂ (λ u v. u || v) a b

or_false : (b : Bool) → b ≡ (b || false)
or_false true = refl
or_false false = refl

grown : (known : Bool) (found : List Tree) (t : Tree) → (known ≡ true → has_some found ≡ true)
    → has_some (if known then found else found ++ (t ∷ [])) ≡ true
grown true found t e = e refl
grown false [] t e = refl
grown false (f ∷ found) t e = refl

known_some : (p : Tree → Bool) (found : List Tree) → list_any p found ≡ true → has_some found ≡ true
known_some p [] e = absurd (true≢false (sym e))
known_some p (f ∷ found) e = refl

-- listing each once leaves none out
each_once : (found ts : List Tree) → has_some (with_new found ts) ≡ (has_some found || has_some ts)
each_once found [] = or_false (has_some found)
each_once found (t ∷ ts) =
    each_once (if list_any (λ (u : Tree). is_same u t) found then found else found ++ (t ∷ [])) ts
    ∙ ap (λ (b : Bool). b || has_some ts) (grown (list_any (λ (u : Tree). is_same u t) found) found t
    (known_some (λ (u : Tree). is_same u t) found))
    ∙ or_true (has_some found)
  where
    or_true : (b : Bool) → true ≡ (b || true)
    or_true true = refl
    or_true false = refl

-- the nodes of an expression

at : (b : Bool) (t : Tree) (ts : List Tree) → has_some (node_or b t ts) ≡ found_or (if b then Found else Below) (has_some ts)
at true t ts = refl
at false t ts = refl

node : (s r : Tree → Bool) (t : Tree) → s t ≡ r t → has_some (nodes_below s t) ≡ some_below (finds r) t
    → has_some (nodes_in s t) ≡ found_or (finds r t) (some_below (finds r) t)
node s r t e below =
    at (s t) t (nodes_below s t) ∙ ap₂ (λ (b x : Bool). found_or (if b then Found else Below) x) e below

listed : (s r : Tree → Bool) → ((t : Tree) → s t ≡ r t)
    → Relates (λ xs x y. has_some xs ≡ x) (picking s) (seeking (finds r)) (seeking (finds r))
listed s r e = record { none = refl; both = λ xs xs' x x' y y' a b. pair x x' xs xs' a b; at = λ t below. node s r t (e t) below }

-- the nodes that are aggregates without OVER, or GROUPING

function_alike : (f : Option Function) → is_aggregate_function f ≡ is_aggregate_of f
function_alike None = refl
function_alike (Some f) = refl

pub alike : (t : Tree) → is_call_of Grouped t ≡ is_group_call t
alike (Invoked name Everything filter ItsGroup) = function_alike (function_of name)
alike (Invoked name (These ts) filter ItsGroup) = function_alike (function_of name)
alike (Invoked name (Columns ts) filter ItsGroup) = refl
alike (Invoked name given filter (ThatWindow w)) = refl
alike (Invoked name given filter (OwnWindow copied partition order frame)) = refl
alike _ = refl

expression : (t : Tree) → has_some (nodes_in (is_call_of Grouped) t) ≡ some_node (finds is_group_call) t
expression t = related _ (picking (is_call_of Grouped)) (seeking (finds is_group_call)) (seeking (finds is_group_call))
    (listed (is_call_of Grouped) is_group_call alike) t

-- the parts of a query

in_items : (items : List ItemTree) → has_some (nodes_in_items (is_call_of Grouped) items) ≡ some_item (finds is_group_call) items
in_items [] = refl
in_items (AllColumns ∷ items) = in_items items
in_items (Computed t alias ∷ items) = pair _ _ (nodes_in (is_call_of Grouped) t) (nodes_in_items (is_call_of Grouped) items)
    (expression t) (in_items items)

in_entries : (es : List EntryTree) → has_some (nodes_in_entries (is_call_of Grouped) es) ≡ some_entry (finds is_group_call) es
in_entries [] = refl
in_entries (e ∷ es) =
    pair _ _ (nodes_in_reach (is_call_of Grouped) (own_window e.window)) (nodes_in_entries (is_call_of Grouped) es)
    (related_reach _ (picking (is_call_of Grouped)) (seeking (finds is_group_call)) (seeking (finds is_group_call))
    (listed (is_call_of Grouped) is_group_call alike) (own_window e.window)) (in_entries es)

-- below a key that stands for an item there is no call
and_false : (b : Bool) → false ≡ (not b && false)
and_false true = refl
and_false false = refl

key : (cs : List Titled) (items : List ItemTree) (t : Tree) → has_some (nodes_in (is_call_of Grouped) t)
    ≡ (not (is_output cs items t) && some_node (finds is_group_call) t)
key cs items (Numeral n) = refl
key cs items (Field qualifier name) = and_false (is_output cs items (Field qualifier name))
key cs items t = expression t

in_order : (cs : List Titled) (items : List ItemTree) (ks : List KeyTree)
    → has_some (nodes_in_order (is_call_of Grouped) ks) ≡ some_sort cs items (finds is_group_call) ks
in_order cs items [] = refl
in_order cs items (k ∷ ks) = pair _ _ (nodes_in (is_call_of Grouped) k.expression) (nodes_in_order (is_call_of Grouped) ks)
    (key cs items k.expression) (in_order cs items ks)

-- HAVING makes a query grouped whatever stands in it
with_having : (having : Option Tree) (g i h r : Bool) → (having ≡ None → h ≡ false)
    → (g || (is_some having || (i || (h || r)))) ≡ (g || (is_some having || (i || r)))
with_having None g i h r e = ap (λ (x : Bool). g || (i || (x || r))) (e refl)
with_having (Some t) g i h r e = refl

none_there : (having : Option Tree) → having ≡ None → has_some (nodes_in_option (is_call_of Grouped) having) ≡ false
none_there having e = ap (λ (x : Option Tree). has_some (nodes_in_option (is_call_of Grouped) x)) e

pub grouped_alike : GroupedAlike
grouped_alike cs c =
    let having = nodes_in_option (is_call_of Grouped) c.having in
    let items = nodes_in_items (is_call_of Grouped) c.items in
    let entries = nodes_in_entries (is_call_of Grouped) c.windows in
    let order = nodes_in_order (is_call_of Grouped) c.order in
    let shown = pair _ _ items (having ++ (entries ++ order)) (in_items c.items) (pair _ _ having (entries ++ order) refl
    (pair _ _ entries order (in_entries c.windows) (in_order cs c.items c.order))) in
    ap (λ (x : Bool). has_some c.grouping || (is_some c.having || x)) (each_once [] (items ++ (having ++ (entries ++ order))) ∙ shown)
    ∙ with_having c.having (has_some c.grouping) (some_item (finds is_group_call) c.items) (has_some having)
    (some_entry (finds is_group_call) c.windows || some_sort cs c.items (finds is_group_call) c.order) (none_there c.having)
