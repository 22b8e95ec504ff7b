use Rattle.std.proofs.Common.{◌<◌, length, map, refl, subst, sym, ap, ◌∙◌, arith}
use Rattle.std.specs.Prelude.{All, IfSome}
use Rattle.std.specs.Ordering.{on}
use Rattle.wvalues.specs.Order.{keys_cmp}
use Rattle.wframe.specs.Codes.{TellApart}
use Rattle.wframe.specs.Peers.{key_at}
use Rattle.wframe.specs.Sorting.{sorted}
use Rattle.wrows.specs.CodedRows.{AreRowCodes}
use Rattle.wcalls.specs.Listed.{lists_in}
use Rattle.wcalls.specs.RowOrders.{IsRowOrder}
use Rattle.wcalls.proofs.CodeFacts.{codes_reach}
use Rattle.wcalls.proofs.window_order.row_order.Goals as goal

pub resorted-requires-clause-below : goal.resorted-requires-clause-below
resorted-requires-clause-below c = subst (λ n. All (λ i. i < n) c.in_ok-by_key.by_key.items) (sym c.requires) c.in_ok-by_key.ensures.below

pub codes_of-requires : goal.codes_of-requires
codes_of-requires c =
    let V = lists_in c.args.values.now.lists in
    subst (λ l. IfSome c.in_ok-value_codes.value_codes (λ codes. All (λ i. i < length codes.items) l)) (sym c.deref-2.ensures.value)
    (codes_reach c.args.values.now.orders.items V c.in_ok-rows.rows.items (length V) c.in_ok-value_codes.value_codes refl
    c.in_ok-value_codes.ensures.codes c.in_ok-rows.ensures.below)

pub codes_of-requires-2 : goal.codes_of-requires-2
codes_of-requires-2 c =
    let V = lists_in c.args.values.now.lists in
    let K = lists_in c.args.keys.now.lists in
    subst (λ l. IfSome c.in_ok-key_codes.key_codes (λ codes. All (λ i. i < length codes.items) l)) (sym c.deref-3.ensures.value)
    (codes_reach c.args.keys.now.orders.items K c.in_ok-rows.rows.items (length V) c.in_ok-key_codes.key_codes
    (sym c.requires) c.in_ok-key_codes.ensures.codes c.in_ok-rows.ensures.below)

pub coded_order-requires : goal.coded_order-requires
coded_order-requires c =
    let vo = c.args.values.now.orders.items in
    let ko = c.args.keys.now.orders.items in
    let V = lists_in c.args.values.now.lists in
    let K = lists_in c.args.keys.now.lists in
    let firsts : AreRowCodes vo V c.deref.result.now =
    subst (AreRowCodes vo V) (sym c.deref.ensures.value) (rw c.in-Some-Some.is-0 at c.in_ok-value_codes.ensures.codes) in
    let seconds : AreRowCodes ko K c.deref-in-Some-Some.result.now =
    subst (AreRowCodes ko K) (sym c.deref-in-Some-Some.ensures.value) (rw c.in-Some-Some.is-1 at c.in_ok-key_codes.ensures.codes) in
    omega (arith, firsts.len, seconds.len, c.requires)

pub returns-in-Some-Some-clause-order : goal.returns-in-Some-Some-clause-order
returns-in-Some-Some-clause-order c =
    let vo = c.args.values.now.orders.items in
    let ko = c.args.keys.now.orders.items in
    let V = lists_in c.args.values.now.lists in
    let K = lists_in c.args.keys.now.lists in
    let firsts : AreRowCodes vo V c.deref.result.now =
    subst (AreRowCodes vo V) (sym c.deref.ensures.value) (rw c.in-Some-Some.is-0 at c.in_ok-value_codes.ensures.codes) in
    let seconds : AreRowCodes ko K c.deref-in-Some-Some.result.now =
    subst (AreRowCodes ko K) (sym c.deref-in-Some-Some.ensures.value) (rw c.in-Some-Some.is-1 at c.in_ok-key_codes.ensures.codes) in
    subst (λ count. IsRowOrder vo V ko K count c.in_ok-order.order) seconds.len (c.in_ok-order.ensures.order vo ko V K firsts seconds)

pub returns-clause-order : goal.returns-clause-order
returns-clause-order c =
    let vo = c.args.values.now.orders.items in
    let ko = c.args.keys.now.orders.items in
    let V = lists_in c.args.values.now.lists in
    let K = lists_in c.args.keys.now.lists in
    record {
      order = c.in_ok-rows.ensures.order ∙ ap (sorted (on (key_at V) (keys_cmp vo))) c.in_ok-by_key.ensures.order;
      below = subst (λ n. All (λ i. i < n) c.in_ok-rows.rows.items) c.requires c.in_ok-rows.ensures.below;
      len = c.in_ok-rows.ensures.len ∙ c.in_ok-by_key.ensures.len;
      value_codes = subst (λ l. IfSome c.in_ok-value_codes-2.value_codes
          (λ codes. TellApart (keys_cmp vo) (map (key_at V) l) codes.items)) c.deref-2.ensures.value
          (c.in_ok-value_codes-2.ensures.apart vo V c.in_ok-value_codes.ensures.codes);
      key_codes = subst (λ l. IfSome c.in_ok-key_codes-2.key_codes (λ codes. TellApart (keys_cmp ko) (map (key_at K) l)
          codes.items)) c.deref-3.ensures.value (c.in_ok-key_codes-2.ensures.apart ko K c.in_ok-key_codes.ensures.codes);
    }

pub returns-clause-values : goal.returns-clause-values
returns-clause-values c = λ one few. c.in_ok-value_codes-2.ensures.found ∙ c.in_ok-value_codes.ensures.found one few

pub returns-clause-keys : goal.returns-clause-keys
returns-clause-keys c = λ one few. c.in_ok-key_codes-2.ensures.found ∙ c.in_ok-key_codes.ensures.found one few
