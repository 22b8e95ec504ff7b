use Rattle.std.proofs.Common.{reverse}
use Rattle.wclauses.specs.Pairs.{pairs_of}
use Rattle.wclauses.proofs.Settling.{settled_all}
use Rattle.wclauses.proofs.pairs.Pairs.new.Goals as goal

pub returns : goal.returns
returns c = settled_all c.args.tokens.now c.tokens.number c.tokens.way.pairs.items (pairs_of c.args.tokens.now)
    (reverse c.tokens.way.opened.items) c.tokens-test.false c.tokens.invariant.settled
