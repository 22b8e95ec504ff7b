use Rattle.std.proofs.Common.{◌≡◌, ℕ, List, length, map, refl, sym}
use Rattle.wvalues.specs.Meaning.{Meaning}
use Rattle.wframe.specs.Peers.{key_at}
use Rattle.wrows.specs.Plain.{numbers_by}
use Rattle.wcalls.specs.Listed.{lists_in}
use Rattle.wcalls.specs.Ordered.{numbers_in_order}
use Rattle.wcalls.proofs.OrderFacts.{by_both, keys_stand, ordered_as, values_stand}
use Rattle.wcalls.proofs.window_order.kept_order.Goals as goal

pub invariant_of-result : goal.invariant_of-result
invariant_of-result c =
    let vo = c.args.values.orders.items in
    let ko = c.args.keys.orders.items in
    let rows : List ℕ = c.args.order.rows.items in
    let n : ℕ = length rows in
    let V : List (List Meaning) = lists_in c.args.values.lists in
    let K : List (List Meaning) = lists_in c.args.keys.lists in
    let made = c.requires.order in
    let is_sorted : rows ≡ numbers_in_order V vo K ko = by_both V vo K ko rows n (numbers_by ko K n) (sym c.requires.values)
    refl made.order in
    record {
      below = made.below;
      each_value = c.requires.values;
      each_key = c.requires.keys;
      by_values = values_stand V vo K ko rows is_sorted (map (key_at V) rows) (map (key_at K) rows) refl refl;
      by_keys = keys_stand V vo K ko rows is_sorted (map (key_at V) rows) (map (key_at K) rows) refl refl;
      value_codes = made.value_codes;
      key_codes = made.key_codes;
    }

pub returns : goal.returns
returns c =
    let vo = c.args.values.orders.items in
    let ko = c.args.keys.orders.items in
    let rows : List ℕ = c.args.order.rows.items in
    let n : ℕ = length rows in
    let V : List (List Meaning) = lists_in c.args.values.lists in
    let K : List (List Meaning) = lists_in c.args.keys.lists in
    let is_sorted : rows ≡ numbers_in_order V vo K ko = by_both V vo K ko rows n (numbers_by ko K n) (sym c.requires.values)
    refl c.requires.order.order in
    ordered_as V vo K ko rows is_sorted (map (key_at V) rows) (map (key_at K) rows) refl refl _ refl
