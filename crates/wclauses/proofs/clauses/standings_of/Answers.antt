use Rattle.std.proofs.Common.{[]}
use Rattle.wclauses.specs.Clauses.{outermost, standings_from, way_of}
use Rattle.wclauses.proofs.Passing.{standing_more}
use Rattle.wclauses.proofs.clauses.standings_of.Goals as goal

pub tokens-preserved : goal.tokens-preserved
tokens-preserved c = standing_more c.args.pairs.now.pairs.items c.args.tokens.now c.tokens.number c.in_ok-standing.standing
    c.tokens.standings.items c.push.new.self.items
    (standings_from c.args.pairs.now.pairs.items c.args.tokens.now 0 c.args.tokens.now (way_of outermost []))
    (way_of c.tokens.walk.inner c.tokens.walk.outer.items) (way_of c.take.new.self.inner c.take.new.self.outer.items) c.tokens-test.true
    c.in_ok-standing.ensures.way c.in_ok-standing.ensures.standing c.in_ok-push.ensures.items c.tokens.invariant
