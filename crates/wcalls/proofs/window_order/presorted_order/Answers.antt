use Rattle.std.proofs.Common.{◌<◌, length, map, subst, sym, ap, ◌∙◌, arith}
use Rattle.std.specs.Prelude.{All, IfSome}
use Rattle.wvalues.specs.Order.{keys_cmp}
use Rattle.wframe.specs.Codes.{TellApart}
use Rattle.wframe.specs.Peers.{key_at}
use Rattle.wcalls.specs.Listed.{lists_in}
use Rattle.wcalls.proofs.window_order.presorted_order.Goals as goal

pub presorted_codes-requires-clause-below : goal.presorted_codes-requires-clause-below
presorted_codes-requires-clause-below c =
    subst (All (λ i. i < length (lists_in c.args.keys.now.lists))) (sym c.deref.ensures.value) c.requires.below

pub presorted_codes-requires-clause-len : goal.presorted_codes-requires-clause-len
presorted_codes-requires-clause-len c = ap length c.deref.ensures.value ∙ c.requires.len

pub presorted_codes-requires-clause-differ : goal.presorted_codes-requires-clause-differ
presorted_codes-requires-clause-differ c = λ known.
    let K = lists_in c.args.keys.now.lists in
    subst (λ l. TellApart (keys_cmp c.args.keys.now.orders.items) (map (key_at K) l) l) (sym c.deref.ensures.value)
    (c.requires.differ known)

pub found_codes-requires : goal.found_codes-requires
found_codes-requires c =
    subst (All (λ i. i < length (lists_in c.args.values.now.lists))) (sym c.deref-2.ensures.value)
    (λ k d h. omega (arith, c.requires.below k d h, c.requires.count))

pub returns : goal.returns
returns c =
    let vo = c.args.values.now.orders.items in
    let ko = c.args.keys.now.orders.items in
    let V = lists_in c.args.values.now.lists in
    let K = lists_in c.args.keys.now.lists in
    record {
      order = c.requires.order;
      below = c.requires.below;
      len = c.requires.len;
      value_codes = subst (λ l. IfSome c.in_ok-value_codes.value_codes (λ codes. TellApart (keys_cmp vo) (map (key_at V) l)
          codes.items)) c.deref-2.ensures.value c.in_ok-value_codes.ensures;
      key_codes = subst (λ l. IfSome c.in_ok-key_codes.key_codes (λ codes. TellApart (keys_cmp ko) (map (key_at K) l)
          codes.items)) c.deref.ensures.value c.in_ok-key_codes.ensures.apart;
    }
