use Rattle.std.proofs.Common.{ap, ◌∙◌}
use Rattle.std.specs.List.{filter_map}
use Rattle.wentries.specs.Knowledge.{first_of, floor_number}
use Rattle.wentries.specs.Entries.{known_entries}
use Rattle.wentries.proofs.Origins.{floor_home}
use Rattle.wentries.proofs.blocks.floor_in.Goals as goal

pub returns : goal.returns
returns c =
    c.floor_of.ensures
    ∙ ap (λ es. first_of (filter_map (floor_number c.args.origin.now) (known_entries es))) (c.entries.ensures.same ∙ c.index-blocks-k.is)
    ∙ floor_home c.args.origin.now c.args.blocks.now c.origin_home-k.result c.index-blocks-k.result c.origin_home-k.ensures
    c.requires.rising c.requires.settled
