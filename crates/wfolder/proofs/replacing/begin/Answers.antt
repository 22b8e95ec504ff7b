use Rattle.std.proofs.Common.{string_bytes}
use Rattle.wfolder.proofs.Steps.{begun, behind}
use Rattle.wfolder.proofs.replacing.begin.Goals as goal

pub returns-in-Ok-clause-made : goal.returns-in-Ok-clause-made
returns-in-Ok-clause-made g c =
    begun (λ name. string_bytes name) c.args.target.now _ _ _ c.make_new.result c.in-Ok.ensures.cleared c.make_new.ensures.made

pub returns-in-Ok-clause-idle : goal.returns-in-Ok-clause-idle
returns-in-Ok-clause-idle g c = behind c.args.target.now _ _ _ c.make_new.result c.in-Ok.ensures.cleared c.make_new.ensures.idle
