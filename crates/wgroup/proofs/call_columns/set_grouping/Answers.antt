use Rattle.std.proofs.Common.{map, ap, ◌∙◌}
use Rattle.wvalues.specs.Meaning.{meaning}
use Rattle.wgroup.specs.Grouping.{grouping_answer}
use Rattle.wgroup.proofs.ColumnFacts.{some_grouping}
use Rattle.wgroup.proofs.call_columns.set_grouping.Goals as goal

pub returns-in_ok-column-in-Some-clause-gives : goal.returns-in_ok-column-in-Some-clause-gives
returns-in_ok-column-in-Some-clause-gives c =
    let g = c.args.groups.now in
    some_grouping c.args.columns.now g c.grouping_value.result (c.grouping_value.ensures
    ∙ ap (grouping_answer c.args.columns.now) c.deref.ensures.value) c.in-Some.value c.in_ok-column-in-Some.column.items c.in-Some.is
    (c.in_ok-column-in-Some.ensures.value ∙ ap (map (λ i. meaning c.in-Some.value)) c.deref-in-Some.ensures.value)
