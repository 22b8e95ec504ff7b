use Rattle.std.proofs.Common.{subst}
use Rattle.wshell.specs.Replying.{RepliesPart}
use Rattle.wshell.proofs.shell_run.end_query.Goals as goal

pub returns-in-Err-clause-part : goal.returns-in-Err-clause-part
returns-in-Err-clause-part g c = subst (λ t. RepliesPart c.args.node.now.schema c.args.node.now.view t
    (g.W.Write.contents c.args.output.now.inner) (g.W.Write.contents c.reply_to.new.output.inner) c.args.replied.now c.in-Err.fault)
    c.as_slice.ensures c.in-Err.ensures.part
