use Rattle.std.proofs.Common.{refl, rules, tests}
use Rattle.wplaces.specs.RowPlaces.{nth_place}
use Rattle.wplaces.proofs.RowFacts.{column}
use Rattle.wplaces.proofs.frame_values.nth_value.Goals as goal

pub returns : goal.returns
returns c =
    column c.collect.result c.args.frames.now c.count.result (nth_place c.args.frames.now c.args.n)
    (nth_place c.args.frames.now c.args.n) c.collect.ensures.ran (cc) c.map.ensures.closure c.count.ensures.count
    (λ x r q k. search (rules, tests)) (λ j h. refl)
