use Rattle.std.proofs.Common.{◌∙◌, sym, subst}
use Rattle.wentries.specs.Entries.{AllHeldBy, IsRising}
use Rattle.wentries.proofs.BlockFacts.{find_home, held_block, read_more, rising_at}
use Rattle.wentries.proofs.blocks.held_in.Goals as goal

pub held_of-requires : goal.held_of-requires
held_of-requires c =
    subst IsRising (sym (c.entries.ensures.same ∙ c.index-blocks-k.is)) (rising_at c.args.blocks.now c.home-k.result
    c.index-blocks-k.result c.home-k.ensures.in_range c.requires)

pub returns-clause-known : goal.returns-clause-known
returns-clause-known c =
    (rw (c.entries.ensures.same ∙ c.index-blocks-k.is) at c.held_of.ensures.known)
    ∙ sym (find_home c.args.blocks.now c.args.name.now c.home-k.result c.index-blocks-k.result c.home-k.ensures)

pub returns-clause-read : goal.returns-clause-read
returns-clause-read c =
    read_more c.held_of.result _ _
    (λ d all. subst (AllHeldBy d) (sym (c.entries.ensures.same ∙ c.index-blocks-k.is))
    (held_block d c.args.blocks.now c.home-k.result c.index-blocks-k.result c.home-k.ensures.in_range all)) c.held_of.ensures.read
