use Rattle.std.proofs.Common.{length, ◌∙◌}
use Rattle.wcalls.proofs.CutFacts.{lag_alike}
use Rattle.wcalls.proofs.other_rows.LagRowPlaces.place_of.Goals as goal

pub returns : goal.returns
returns c = c.lag_at.ensures ∙ lag_alike (length c.args._frames.now.keys) c.args.self.now.rows c.cut.result c.requires.few
    c.cut.ensures.small c.cut.ensures.large c.args.place c.requires.place
