use Rattle.std.proofs.Common.{length, refl, rules, tests}
use Rattle.wplaces.specs.Tile.{tile_of}
use Rattle.wplaces.proofs.RowFacts.{column}
use Rattle.wplaces.proofs.tiles.ntile.Goals as goal

pub returns : goal.returns
returns c =
    column c.collect.result c.args.frames.now c.count.result (tile_of (length c.args.frames.now.keys) c.args.tiles)
    (tile_of (length c.args.frames.now.keys) c.args.tiles) c.collect.ensures.ran (cc) c.map.ensures.closure c.count.ensures.count
    (λ x r q k. search (rules, tests)) (λ j h. refl)
