use Rattle.wwindows.proofs.OwnWindows.{all_counted, no_items}
use Rattle.wwindows.proofs.counting.count_in_items.Goals as goal

pub returns : goal.returns
returns c = all_counted c.items.count _ _ c.items.invariant.0 c.items.invariant.1
    (no_items c.args.items.now c.items.item-index c.items-test.false)
