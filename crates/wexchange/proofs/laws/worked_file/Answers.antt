use Rattle.wexchange.proofs.Worked.{worked_file}
use Rattle.wexchange.proofs.laws.worked_file.Goals as goal

pub returns : goal.returns
returns c = worked_file
