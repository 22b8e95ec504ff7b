use Rattle.std.proofs.Common.{refl}
use Rattle.wquery.specs.Tree.{view_call}
use Rattle.wnodes.specs.Children.{children_of}
use Rattle.wnodes.proofs.Split.{same_else, same_then}
use Rattle.wnodes.proofs.sameness.same_call.Goals as goal

pub returns-then-same_head : goal.returns-then-same_head
returns-then-same_head c =
    same_then (view_call c.args.a.now) (view_call c.args.b.now) _ _ _ _ _ _ c.of_call.ensures c.of_call-2.ensures
    c.of_call-then-same_head.ensures c.of_call-then-same_head-2.ensures c.same_head.ensures c.if-same_head.true c.same_beside.ensures

pub returns-else-same_head : goal.returns-else-same_head
returns-else-same_head c =
    same_else (view_call c.args.a.now) (view_call c.args.b.now) _ _ (children_of (view_call c.args.a.now))
    (children_of (view_call c.args.b.now)) _ c.of_call.ensures c.of_call-2.ensures refl refl c.same_head.ensures c.if-same_head.false
