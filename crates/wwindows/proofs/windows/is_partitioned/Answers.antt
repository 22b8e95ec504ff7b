use Rattle.std.proofs.Common.{◌∙◌, ap, not}
use Rattle.wwindows.proofs.Lists.{some_trees}
use Rattle.wwindows.proofs.windows.is_partitioned.Goals as goal

pub returns : goal.returns
returns c = ap not c.is_empty.ensures ∙ some_trees c.args.partition.now
