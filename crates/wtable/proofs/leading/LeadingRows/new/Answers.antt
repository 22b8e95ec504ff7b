use Rattle.std.proofs.Common.{refl}
use Rattle.wtable.proofs.LeadingFacts.{none_yet}
use Rattle.wtable.proofs.leading.LeadingRows.new.Goals as goal

pub returns-clause-leads : goal.returns-clause-leads
returns-clause-leads c = λ keys most. none_yet keys most _ c.new.ensures.items refl
