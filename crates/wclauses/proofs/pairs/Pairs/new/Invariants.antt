use Rattle.std.proofs.Common.{◌≡◌, drop, reverse}
use Rattle.wclauses.specs.Pairs.{pairs_of, signs}
use Rattle.wclauses.specs.Settling.{Stands, settled}
use Rattle.wclauses.proofs.pairs.Pairs.new.Given as goal

abbrev pub invariant-tokens : goal.invariant-tokens
invariant-tokens l = record {
  stands : Stands l.number l.way.pairs.items (reverse l.way.opened.items);
  settled : settled l.way.pairs.items (reverse l.way.opened.items) l.number (signs (drop l.number l.tokens)) ≡ pairs_of l.tokens;
}
