use Rattle.wshell.proofs.Running.{gives_up_replied, goes_on_more, goes_on_replied}
use Rattle.wshell.proofs.shell_run.take_byte.Goals as goal

pub returns-then-ends-clause-ok : goal.returns-then-ends-clause-ok
returns-then-ends-clause-ok g c = goes_on_replied _ _ c.end_query.result c.args.byte _ _ _ _ _ _ c.if-ends.ensures
    c.end_query.ensures.ok c.end_query.ensures.empty

pub returns-then-ends-clause-part : goal.returns-then-ends-clause-part
returns-then-ends-clause-part g c = gives_up_replied _ _ c.end_query.result c.args.byte _ _ _ _ c.if-ends.ensures c.end_query.ensures.part

pub returns-clause-ok : goal.returns-clause-ok
returns-clause-ok g c = goes_on_more _ _ c.args.byte _ _ _ _ c.if-ends.ensures c.add.ensures
