use Rattle.std.proofs.Common.{refl, rules, tests}
use Rattle.wplaces.specs.Ranks.{row_number_of}
use Rattle.wplaces.proofs.RowFacts.{column}
use Rattle.wplaces.proofs.ranks.row_number.Goals as goal

pub returns : goal.returns
returns c =
    column c.collect.result c.args.frames.now c.count.result (row_number_of c.args.frames.now)
    (row_number_of c.args.frames.now) c.collect.ensures.ran (cc) c.map.ensures.closure c.count.ensures.count
    (λ x r q k. search (rules, tests)) (λ j h. refl)
