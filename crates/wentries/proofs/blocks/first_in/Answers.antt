use Rattle.std.proofs.Common.{◌∙◌, sym, ap, subst}
use Rattle.wentries.specs.Entries.{IsRising, first_from}
use Rattle.wentries.proofs.BlockFacts.{rising_at}
use Rattle.wentries.proofs.Lows.{first_here, first_later}
use Rattle.wentries.proofs.blocks.first_in.Goals as goal

pub first_from-requires : goal.first_from-requires
first_from-requires c =
    subst IsRising (sym (c.entries.ensures.same ∙ c.index-blocks-k.is)) (rising_at c.args.blocks.now c.home-k.result
    c.index-blocks-k.result c.home-k.ensures.in_range c.requires)

pub returns-in-Some : goal.returns-in-Some
returns-in-Some c =
    first_here c.args.blocks.now c.args.name.now c.home-k.result c.index-blocks-k.result c.in-Some.entry.now c.home-k.ensures
    (ap (first_from c.args.name.now) (sym (c.entries.ensures.same ∙ c.index-blocks-k.is)) ∙ sym c.in-Some.ensures)

pub returns-in-None : goal.returns-in-None
returns-in-None c =
    c.first_after.ensures ∙ first_later c.args.blocks.now c.args.name.now c.home-k.result c.index-blocks-k.result c.home-k.ensures
    (ap (first_from c.args.name.now) (sym (c.entries.ensures.same ∙ c.index-blocks-k.is)) ∙ sym c.in-None.ensures)
