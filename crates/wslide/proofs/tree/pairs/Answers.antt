use Rattle.std.proofs.Common.{arith, length, ap, ◌∙◌}
use Rattle.wslide.proofs.Levels.{pairs_all, length-paired}
use Rattle.wslide.proofs.tree.pairs.Goals as goal

pub returns-clause-pairs : goal.returns-clause-pairs
returns-clause-pairs g c =
    pairs_all (g.F.Fold.joined c.args.fold.now) c.args.level.now c.loop-i.next.items c.loop-i.i (omega arith) c.loop-i.invariant.pairs

pub returns-clause-len : goal.returns-clause-len
returns-clause-len g c =
    c.loop-i.next.ok.0
    ∙ ap length (pairs_all (g.F.Fold.joined c.args.fold.now) c.args.level.now c.loop-i.next.items c.loop-i.i (omega arith)
    c.loop-i.invariant.pairs)
    ∙ length-paired (g.F.Fold.joined c.args.fold.now) c.args.level.now
