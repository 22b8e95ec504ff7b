use Rattle.std.proofs.Common.{length}
use Rattle.wcalls.specs.Listed.{lists_in}
use Rattle.wcalls.proofs.ListFacts.{sorted_below, sorted_long}
use Rattle.wcalls.proofs.row_keys.RowKeys.resorted.Goals as goal

pub returns-clause-below : goal.returns-clause-below
returns-clause-below c =
    let lists = lists_in c.args.self.now.lists in
    sorted_below c.args.self.now.orders.items lists c.args.rows.items c.in_ok-order.order.items c.in_ok-order.ensures
    (length lists) c.requires.below

pub returns-clause-len : goal.returns-clause-len
returns-clause-len c = sorted_long c.args.self.now.orders.items (lists_in c.args.self.now.lists) c.args.rows.items
    c.in_ok-order.order.items c.in_ok-order.ensures
