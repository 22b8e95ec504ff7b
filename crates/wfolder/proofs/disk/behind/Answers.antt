use Rattle.wfolder.proofs.Memory.{behind_is}
use Rattle.wfolder.proofs.disk.behind.Goals as goal

pub returns : goal.returns
returns c = behind_is c.args.front.now c.args.text.now c.strip_prefix.result c.strip_prefix.ensures.cases
