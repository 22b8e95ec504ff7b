use Rattle.wwindows.proofs.OwnWindows.{all_counted, no_order}
use Rattle.wwindows.proofs.counting.count_in_order.Goals as goal

pub returns : goal.returns
returns c = all_counted c.keys.count _ _ c.keys.invariant.0 c.keys.invariant.1 (no_order c.args.order.now c.keys.key-index
    c.keys-test.false)
