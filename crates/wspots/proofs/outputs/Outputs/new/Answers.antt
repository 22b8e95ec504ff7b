use Rattle.std.proofs.Common.{refl}
use Rattle.wspots.proofs.KnownItems.{item_noted, none_known}
use Rattle.wspots.proofs.outputs.Outputs.new.Goals as goal

pub items-init : goal.items-init
items-init c = record {
  known = λ q. rw (c.new.ensures.empty, c.new-2.ensures.empty) (none_known q.now _);
  count = refl;
}

pub items-preserved : goal.items-preserved
items-preserved c = item_noted c.items.outputs c.push_item.new.self c.args.columns.now c.args.items.now c.items.item-index
    c.item-item.result c.items-test.true c.item-item.is c.in_ok-push_item.ensures.known c.in_ok-push_item.ensures.count c.in_ok-push_item.ensures.all c.items.invariant
