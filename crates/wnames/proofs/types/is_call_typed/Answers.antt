use Rattle.std.proofs.Common.{◌∙◌}
use Rattle.wscope.specs.Sources.{all_titled}
use Rattle.wnames.proofs.Typed.{typed_call}
use Rattle.wnames.proofs.types.is_call_typed.Goals as goal

pub returns : goal.returns
returns c =
    c.all_three.ensures ∙ typed_call (all_titled c.args.columns.now) c.args.call.now c.as_str.result.now
    c.function_of-function.result c.are_typed.result c.is_filter_typed.result c.is_over_typed.result
    c.function_of-function.ensures c.as_str.ensures.value c.are_typed.ensures c.is_filter_typed.ensures c.is_over_typed.ensures
