use Rattle.std.proofs.Common.{◌≡◌, ◌++◌, [], drop}
use Rattle.wclauses.specs.Clauses.{outermost, standings_from, way_of}
use Rattle.wclauses.proofs.clauses.standings_of.Given as goal

abbrev pub invariant-tokens : goal.invariant-tokens
invariant-tokens l = l.standings.items
    ++ standings_from l.pairs.pairs.items l.tokens l.number (drop l.number l.tokens) (way_of l.walk.inner l.walk.outer.items)
    ≡ standings_from l.pairs.pairs.items l.tokens 0 l.tokens (way_of outermost [])
