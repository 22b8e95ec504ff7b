use Rattle.std.proofs.Common.{rules}
use Rattle.wcommand.proofs.Naming.{only_session}
use Rattle.wcommand.proofs.values.in_other.Goals as goal

pub returns : goal.returns
returns c = only_session c.args.name.now _ (search rules) (search rules) (search rules) (search rules) (search rules)
    (search rules) c.requires.other (search rules) c.requires.whole
