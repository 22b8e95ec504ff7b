use Rattle.std.proofs.Common.{length, refl}
use Rattle.wcalls.specs.Listed.{lists_in}
use Rattle.wcalls.proofs.CodeFacts.{codes_reach}
use Rattle.wcalls.proofs.window_order.found_codes.Goals as goal

pub codes_of-requires : goal.codes_of-requires
codes_of-requires c =
    let K = lists_in c.args.keys.now.lists in
    codes_reach c.args.keys.now.orders.items K c.args.rows.now (length K) c.in_ok-found.found refl c.in_ok-found.ensures.codes c.requires

pub returns : goal.returns
returns c = c.in_ok-picked.ensures.apart c.args.keys.now.orders.items (lists_in c.args.keys.now.lists) c.in_ok-found.ensures.codes
