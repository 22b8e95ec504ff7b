use Rattle.wruns.proofs.DifferFacts.{kept_differ}
use Rattle.wruns.proofs.laws.kept_rows_differ.Goals as goal

pub returns : goal.returns
returns c = λ holds keys. kept_differ keys holds
