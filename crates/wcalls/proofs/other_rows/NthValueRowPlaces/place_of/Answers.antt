use Rattle.std.proofs.Common.{◌∙◌}
use Rattle.wcalls.proofs.CutFacts.{nth_alike}
use Rattle.wcalls.proofs.other_rows.NthValueRowPlaces.place_of.Goals as goal

pub returns : goal.returns
returns c = c.nth_value_at.ensures ∙ nth_alike c.args.frames.now c.args.self.now.n c.cut.result c.requires.few
    c.cut.ensures.small c.cut.ensures.large c.args.place
