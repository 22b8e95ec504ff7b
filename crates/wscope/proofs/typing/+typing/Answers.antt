use Rattle.std.proofs.Common.{◌∙◌, sym}
use Rattle.wscope.specs.Sources.{all_titled}
use Rattle.wscope.proofs.TypeFacts.{type_at_end, type_at_here, type_listed, call_type_from}
use Rattle.wscope.proofs.typing.+typing.Goals as goal

pub type_of_call-returns : goal.type_of_call-returns
type_of_call-returns t c =
    c.of_call.ensures ∙ call_type_from (all_titled c.args.columns.now) c.args.call.now c.as_str.result.now
    c.function_of.result c.type_given-value.result c.type_given-default.result c.function_of.ensures
    c.as_str.ensures.value c.type_given-value.ensures c.type_given-default.ensures

pub type_given-returns-in-Listed : goal.type_given-returns-in-Listed
type_given-returns-in-Listed t c =
    type_listed (all_titled c.args.columns.now) c.args.arguments.now c.args.place c.in-Listed.list c.as_slice.result.now
    c.type_at_place.result c.in-Listed.is c.as_slice.ensures.value c.type_at_place.ensures

pub type_at_place-returns : goal.type_at_place-returns
type_at_place-returns t c = sym (type_at_end (all_titled c.args.columns.now) c.args.list.now c.args.place c.if-place-list.false)

pub type_at_place-returns-then-place-list : goal.type_at_place-returns-then-place-list
type_at_place-returns-then-place-list t c =
    c.type_of.ensures ∙ sym (type_at_here (all_titled c.args.columns.now) c.args.list.now c.args.place
    c.index-list-place.result c.if-place-list.true c.index-list-place.is)
