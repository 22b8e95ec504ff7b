use Rattle.std.proofs.Common.{◌∙◌, ap}
use Rattle.wentries.specs.Blocks.{flat}
use Rattle.wentries.proofs.Lows.{is_over_first, low_first}
use Rattle.wentries.proofs.blocks.is_low.Goals as goal

pub returns-in-Some : goal.returns-in-Some
returns-in-Some c =
    c.is_over.ensures ∙ ap (is_over_first c.args.name.now) c.in-Some.ensures ∙ low_first (flat c.args.blocks.now)
    c.args.name.now c.requires.rising c.requires.settled

pub returns-in-None : goal.returns-in-None
returns-in-None c = ap (is_over_first c.args.name.now) c.in-None.ensures ∙ low_first (flat c.args.blocks.now)
    c.args.name.now c.requires.rising c.requires.settled
