use Rattle.wbinding.specs.Resolving.{layout_of}
use Rattle.wbinding.proofs.FunctionFacts.{aggregate_called}
use Rattle.wbinding.proofs.functions.build_aggregate.Goals as goal

pub returns : goal.returns
returns c = aggregate_called _ (layout_of c.args.layout.now) c.args.call.now c.as_str.result.now
    c.function_of-function.result c.function_of-function.ensures c.as_str.ensures.value c.build_aggregated.ensures
