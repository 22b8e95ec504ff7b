use Rattle.std.proofs.Common.{length, refl, rules, tests}
use Rattle.wplaces.specs.RowPlaces.{lead_place}
use Rattle.wplaces.proofs.RowFacts.{column}
use Rattle.wplaces.proofs.offsets.lead.Goals as goal

pub returns : goal.returns
returns c =
    column c.collect.result c.args.frames.now c.count.result (lead_place (length c.args.frames.now.keys) c.args.rows)
    (lead_place (length c.args.frames.now.keys) c.args.rows) c.collect.ensures.ran (cc) c.map.ensures.closure c.count.ensures.count
    (λ x r q k. search (rules, tests)) (λ j h. refl)
