use Rattle.std.proofs.Common.{sym}
use Rattle.wbinding.proofs.Placed.{tree_at_past, tree_at_here}
use Rattle.wbinding.proofs.arguments.tree_of.Goals as goal

pub returns : goal.returns
returns c = sym (tree_at_past c.args.list.now c.args.place c.if-place-list.false)

pub returns-then-place-list : goal.returns-then-place-list
returns-then-place-list c = sym (tree_at_here c.args.list.now c.args.place c.index-list-place.result c.if-place-list.true
    c.index-list-place.is)
