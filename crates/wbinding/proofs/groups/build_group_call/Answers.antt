use Rattle.wplan.specs.Plans.{aggregate_plan}
use Rattle.wbinding.specs.Resolving.{layout_of}
use Rattle.wbinding.proofs.GroupFacts.{grouping_called, listed_called, star_called}
use Rattle.wbinding.proofs.groups.build_group_call.Goals as goal

pub returns-in_ok-aggregate-in-Star : goal.returns-in_ok-aggregate-in-Star
returns-in_ok-aggregate-in-Star c =
    star_called (layout_of c.args.layout.now) c.args.call.now (aggregate_plan c.in_ok-aggregate-in-Star.aggregate)
    c.in-Star.is c.in_ok-aggregate-in-Star.ensures

pub returns-in_ok-aggregate-in-Listed : goal.returns-in_ok-aggregate-in-Listed
returns-in_ok-aggregate-in-Listed c =
    listed_called (layout_of c.args.layout.now) c.args.call.now c.in-Listed.field-0
    (aggregate_plan c.in_ok-aggregate-in-Listed.aggregate) c.in-Listed.is c.in_ok-aggregate-in-Listed.ensures

pub returns-in_ok-places-in-Columns : goal.returns-in_ok-places-in-Columns
returns-in_ok-places-in-Columns c =
    grouping_called (layout_of c.args.layout.now) c.args.call.now c.in-Columns.list c.as_slice.result.now
    c.in_ok-places-in-Columns.places.items c.in-Columns.is c.as_slice.ensures.value c.in_ok-places-in-Columns.ensures
