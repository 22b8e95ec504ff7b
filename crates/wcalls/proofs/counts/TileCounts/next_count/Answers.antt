use Rattle.std.proofs.Common.{length, ◌∙◌}
use Rattle.wcalls.proofs.CutFacts.{tile_alike}
use Rattle.wcalls.proofs.counts.TileCounts.next_count.Goals as goal

pub returns-clause-count : goal.returns-clause-count
returns-clause-count c = c.ntile_at.ensures.tile ∙ tile_alike (length c.args.frames.now.keys) c.args.self.now.tiles
    c.cut.result c.requires.few c.cut.ensures.small c.cut.ensures.large c.args.place c.requires.place
