use Rattle.wslide.proofs.Levels.{take_first}
use Rattle.wslide.proofs.tree.take_left.Goals as goal

pub returns-then-span-eq1-clause-kept : goal.returns-then-span-eq1-clause-kept
returns-then-span-eq1-clause-kept g c =
    take_first (g.met.F.Fold.laws c.args.fold.now) c.args.level.now c.args.span.from c.args.span.to
    c.index-level-span.result c.args.left c.join.result c.requires.parts c.requires.left c.if-span.true
    c.requires.within c.index-level-span.is c.join.ensures.value
