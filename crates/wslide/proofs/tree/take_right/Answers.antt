use Rattle.std.proofs.Common.{arith, ◌-◌}
use Rattle.wslide.proofs.Levels.{take_last}
use Rattle.wslide.proofs.tree.take_right.Goals as goal

pub returns-then-span-eq1-clause-kept : goal.returns-then-span-eq1-clause-kept
returns-then-span-eq1-clause-kept g c =
    take_last (g.met.F.Fold.laws c.args.fold.now) c.args.level.now c.args.span.from (c.args.span.to - 1) c.args.span.to
    c.index-level-to.result c.args.right c.join.result c.requires.parts c.requires.right (omega arith) (omega arith)
    c.requires.within c.index-level-to.is c.join.ensures.value
