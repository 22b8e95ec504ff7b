-- Counts of windows, to one more than the most.
use Rattle.std.proofs.Common.{◌≡◌, ℕ, ◌+◌, ◌≤◌, List, length, drop, map, ap, sym, ◌∙◌, arith, add_assoc}
use Rattle.std.proofs.lemmas.List.{drop_all}
use Rattle.wquery.specs.declared.expression.Key.{Key}
use Rattle.wquery.specs.declared.query.Item.{Item}
use Rattle.wquery.specs.QueryTree.{view_item}
use Rattle.wquery.specs.declared.expression.Call.{Call}
use Rattle.wquery.specs.Tree.{Tree, Invoked, view_key, view_call, view_optional_over, reach_of}
use Rattle.wnodes.proofs.Views.{view_call_is}
use Rattle.wnodes.specs.Nodes.{found_below}
use Rattle.wnodes.specs.Children.{children_of, found_all}
use Rattle.wnodes.proofs.Beside.{IsJoined, below_all}
use Rattle.wwindows.specs.Limits.{count_over, counting, has_own, with_own, over_items, over_order, counted}

counting_joined : IsJoined counting
counting_joined = record { left = λ m. omega arith; right = λ m. omega arith; three = λ l m n. add_assoc l m n }

own_more : (t : Tree) (m : ℕ) → with_own t m ≡ with_own t 0 + m
own_more (Invoked name given filter reach) m = omega arith
own_more t m = omega arith

added : (a b x m r : ℕ) → b ≡ counted m → r ≡ counted (a + b) → x ≡ a + m → r ≡ counted x
added a b x m r e f g = omega arith

-- what stands below a node
pub below_counted : (t : Tree) (ts : List Tree) → ts ≡ children_of t → counted (found_all counting ts) ≡ counted (found_below counting t)
below_counted t ts is = ap (λ (us : List Tree). counted (found_all counting us)) is
    ∙ sym (ap counted (below_all counting counting_joined t))

-- a node's own, and what stands below it
pub node_counted : (t : Tree) (a b r : ℕ) → a ≡ with_own t 0 → b ≡ counted (found_below counting t) → r ≡ counted (a + b)
    → r ≡ counted (count_over t)
node_counted t a b r own below sum =
    added a b (count_over t) (found_below counting t) r below sum (own_more t (found_below counting t)
    ∙ ap (λ (o : ℕ). o + found_below counting t) (sym own))

pub call_own : (c : Call) → with_own (view_call c) 0 ≡ has_own (reach_of (view_optional_over c.over)) + 0
call_own c = ap (λ (t : Tree). with_own t 0) (view_call_is c)

-- all has been counted
pub all_counted : (a n r : ℕ) → a ≤ 33 → counted n ≡ counted (a + r) → r ≡ 0 → a ≡ counted n
all_counted a n r h e z = omega arith

-- nothing is left

pub no_items : (xs : List Item) (i : ℕ) → length xs ≤ i → over_items (map view_item (drop i xs)) ≡ 0
no_items xs i h = ap (λ (ys : List Item). over_items (map view_item ys)) (drop_all i xs h)

pub no_order : (xs : List Key) (i : ℕ) → length xs ≤ i → over_order (map view_key (drop i xs)) ≡ 0
no_order xs i h = ap (λ (ys : List Key). over_order (map view_key ys)) (drop_all i xs h)
