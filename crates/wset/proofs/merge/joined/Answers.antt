use Rattle.std.proofs.Common.{◌∙◌, sym, subst}
use Rattle.wentries.specs.Entries.{AllHeldBy}
use Rattle.wset.proofs.merge.joined.Goals as goal

pub returns-clause-read : goal.returns-clause-read
returns-clause-read c d ours theirs =
    c.in_ok-all.ensures.read d (subst (AllHeldBy d) (sym (c.deref.ensures.value ∙ c.in_ok-ours.ensures)) ours)
    (subst (AllHeldBy d) (sym (c.deref-2.ensures.value ∙ c.in_ok-theirs.ensures)) theirs)
