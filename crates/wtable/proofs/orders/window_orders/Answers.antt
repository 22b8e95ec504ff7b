use Rattle.std.proofs.Common.{◌≡◌, length, take_all, sym, subst, ap, ◌∙◌, arith}
use Rattle.std.specs.Prelude.{All}
use Rattle.wtable.specs.TableOrders.{IsServed, IsTableOrder}
use Rattle.wtable.proofs.LiveFacts.{live_same, same_then}
use Rattle.wtable.proofs.ServedFacts.{served_next}
use Rattle.wtable.proofs.orders.window_orders.Goals as goal

pub add_order-requires : goal.add_order-requires
add_order-requires c = subst (λ segments. All (IsTableOrder segments) c.loop-window.orders.items)
    (sym (live_same c.args.set.now c.loop-window.set c.loop-window.invariant.same)) c.loop-window.invariant.orders

pub loop-window-preserved : goal.loop-window-preserved
loop-window-preserved c = record {
  orders = subst (λ segments. All (IsTableOrder segments) c.add_order.new.orders.items)
      (live_same c.args.set.now c.loop-window.set c.loop-window.invariant.same) c.in_default.ensures.orders;
  few = c.in_default.ensures.few c.loop-window.invariant.few;
  served = served_next c.args.windows.now c.loop-window.window-index _ _ _ _ c.window-item.result c.loop-window-test.true
      (ap length (c.columns-width.ensures.columns ∙ ap (λ d. d.columns) c.schema.ensures.schema)) c.loop-window.invariant.served
      c.in_default.ensures.still c.in_default.ensures.served c.window-item.is;
  idle = λ none.
      let empty : length c.loop-window.orders.items ≡ 0 = omega (arith, none, c.in_default.ensures.more) in
      c.in_default.ensures.idle (none ∙ sym empty) ∙ c.loop-window.invariant.idle empty;
  same = same_then c.args.set.now c.loop-window.set c.add_order.new.set c.loop-window.invariant.same c.in_default.ensures.same;
}

pub returns-clause-served : goal.returns-clause-served
returns-clause-served c =
    let P = IsServed (length c.args.set.now.schema.columns) c.loop-window.orders.items in
    subst (All P) (take_all c.loop-window.window-index c.args.windows.now c.loop-window-test.false) c.loop-window.invariant.served
