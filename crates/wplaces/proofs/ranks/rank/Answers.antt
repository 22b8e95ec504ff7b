use Rattle.std.proofs.Common.{refl, rules, tests}
use Rattle.wplaces.specs.Ranks.{rank_of}
use Rattle.wplaces.proofs.RowFacts.{column}
use Rattle.wplaces.proofs.ranks.rank.Goals as goal

pub returns : goal.returns
returns c =
    column c.collect.result c.args.frames.now c.count.result (rank_of c.args.frames.now) (rank_of c.args.frames.now)
    c.collect.ensures.ran (cc) c.map.ensures.closure c.count.ensures.count
    (λ x r q k. search (rules, tests)) (λ j h. refl)
