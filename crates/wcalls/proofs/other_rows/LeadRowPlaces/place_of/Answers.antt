use Rattle.std.proofs.Common.{length, ◌∙◌}
use Rattle.wcalls.proofs.CutFacts.{lead_alike}
use Rattle.wcalls.proofs.other_rows.LeadRowPlaces.place_of.Goals as goal

pub returns : goal.returns
returns c = c.lead_at.ensures ∙ lead_alike (length c.args.frames.now.keys) c.args.self.now.rows c.cut.result c.requires.few
    c.cut.ensures.small c.cut.ensures.large c.args.place
