use Rattle.std.proofs.Common.{sym}
use Rattle.wresolve.proofs.Placed.{item_at_past, item_at_here}
use Rattle.wresolve.proofs.shown.item_value.Goals as goal

pub returns : goal.returns
returns c = sym (item_at_past c.args.shown.now c.args.place c.if-place-shown.false)

pub returns-then-place-shown : goal.returns-then-place-shown
returns-then-place-shown c = sym (item_at_here c.args.shown.now c.args.place c.index-shown-place.result
    c.if-place-shown.true c.index-shown-place.is)
