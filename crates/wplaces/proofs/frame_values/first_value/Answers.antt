use Rattle.std.proofs.Common.{refl, rules, tests}
use Rattle.wplaces.specs.RowPlaces.{first_place}
use Rattle.wplaces.proofs.RowFacts.{column}
use Rattle.wplaces.proofs.frame_values.first_value.Goals as goal

pub returns : goal.returns
returns c =
    column c.collect.result c.args.frames.now c.count.result (first_place c.args.frames.now) (first_place c.args.frames.now)
    c.collect.ensures.ran (cc) c.map.ensures.closure c.count.ensures.count
    (λ x r q k. search (rules, tests)) (λ j h. refl)
