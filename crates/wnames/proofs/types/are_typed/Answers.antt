use Rattle.wscope.specs.Sources.{all_titled}
use Rattle.wnames.proofs.Listed.{listed_typed}
use Rattle.wnames.proofs.types.are_typed.Goals as goal

pub returns-in-Listed : goal.returns-in-Listed
returns-in-Listed c = listed_typed (all_titled c.args.columns.now) c.args.arguments.now c.args.function c.in-Listed.list
    c.as_slice.result.now c.is_list_typed.result c.in-Listed.is c.as_slice.ensures.value c.is_list_typed.ensures
