use Rattle.wnames.proofs.Given.{bad_call_is}
use Rattle.wnames.proofs.calls.is_bad_call.Goals as goal

pub returns : goal.returns
returns c = bad_call_is c.args.call.now c.as_str.result.now c.function_of.result c.is_well_given.result
    c.function_of.ensures c.as_str.ensures.value c.is_well_given.ensures
