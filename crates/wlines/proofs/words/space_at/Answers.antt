use Rattle.std.proofs.Common.{arith}
use Rattle.std.proofs.lemmas.List.{take_all}
use Rattle.wlines.specs.Words.{Lacks}
use Rattle.wlines.proofs.words.space_at.Goals as goal

pub returns-clause-first : goal.returns-clause-first
returns-clause-first c =
    let all : Lacks 32 c.args.line.now = rw (take_all c.loop-i.i c.args.line.now (omega arith)) at c.loop-i.invariant in
    all
