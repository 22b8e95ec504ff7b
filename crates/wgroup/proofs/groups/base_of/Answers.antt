use Rattle.std.proofs.Common.{ap, ◌∙◌}
use Rattle.wgroup.specs.declared.found.Groups as memory
use Rattle.wgroup.proofs.MadeFacts.{made_within}
use Rattle.wgroup.proofs.groups.base_of.Goals as goal

pub returns-in-Some-clause-within : goal.returns-in-Some-clause-within
returns-in-Some-clause-within c = made_within c.args.found.now c.args.place c.index-found-place.result c.in-Some.finer
    c.requires.made c.requires.within c.index-found-place.is (ap (λ (g : memory.Groups). g.finer) c.index-found-place.is ∙ c.in-Some.is)
