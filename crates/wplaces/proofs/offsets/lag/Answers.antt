use Rattle.std.proofs.Common.{refl, rules, tests}
use Rattle.wplaces.specs.RowPlaces.{lag_place}
use Rattle.wplaces.proofs.RowFacts.{column}
use Rattle.wplaces.proofs.offsets.lag.Goals as goal

pub returns : goal.returns
returns c =
    column c.collect.result c.args.frames.now c.count.result (lag_place c.args.rows) (lag_place c.args.rows)
    c.collect.ensures.ran (cc) c.map.ensures.closure c.count.ensures.count
    (λ x r q k. search (rules, tests)) (λ j h. refl)
