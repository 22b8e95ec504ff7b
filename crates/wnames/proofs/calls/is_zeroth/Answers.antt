use Rattle.wnames.proofs.Given.{zeroth_is}
use Rattle.wnames.proofs.calls.is_zeroth.Goals as goal

pub returns : goal.returns
returns c = zeroth_is c.args.call.now c.as_str.result.now c.function_of.result c.counts_some.result c.function_of.ensures
    c.as_str.ensures.value c.counts_some.ensures
