use Rattle.std.proofs.Common.{◌≡◌, Bool, List, Vec, Global, Option, Err, All, length, map, option_map, subst, sym, ap, ◌∙◌}
use Rattle.std.proofs.lemmas.Result.{err_from_is_err_and}
use Rattle.wvalues.specs.Meaning.{Meaning, meaning}
use Rattle.wvalues.specs.declared.value.Value.{Value}
use Rattle.waggregate.specs.Feeding.{values_of}
use Rattle.wplan.specs.Plans.{aggregate_plan}
use Rattle.wrows.specs.Columns.{filter_of}
use Rattle.wrows.specs.Laid.{rows_seen}
use Rattle.wrows.specs.Outcomes.{◌>>=◌, Gives}
use Rattle.wrows.proofs.RowFacts.{then_refused}
use Rattle.wgroup.specs.declared.found.Groups as memory
use Rattle.wgroup.proofs.FedFacts.{column_fed, answers_fed}
use Rattle.wgroup.proofs.call_columns.fed_column.Goals as goal

pub returns-in_err-filter-clause-gives : goal.returns-in_err-filter-clause-gives
returns-in_err-filter-clause-gives c =
    let p = err_from_is_err_and c.from_residual.result c.from_residual.ensures.1 in
    let view : Vec Value Global → List Meaning = λ column. map meaning column.items in
    let seen : Option (Vec Bool Global) → Option (List Bool) = λ filter. option_map (λ tests. tests.items) filter in
    let fault = c.in_err-filter.field-0.0 in
    let plan = aggregate_plan c.args.aggregate.now in
    let rows = rows_seen c.args.grouped.now.rows.now in
    let sets = c.args.grouped.now.sets.now in
    let values = values_of c.args.argument in
    rw (p.1, p.2) (subst (Gives view (Err fault)) (sym (column_fed plan rows sets values c.requires.values))
    (then_refused seen view fault (filter_of plan.filter rows) (answers_fed plan sets values) c.in_err-filter.ensures.gives))

pub aggregate_answers-requires-clause-len : goal.aggregate_answers-requires-clause-len
aggregate_answers-requires-clause-len c =
    subst (λ n. All (λ (groups : memory.Groups). length groups.numbers.value.items ≡ n) c.args.grouped.now.sets.now)
    (sym c.requires.wide) c.args.grouped.now.len

pub returns-clause-gives : goal.returns-clause-gives
returns-clause-gives c =
    let view : Vec Value Global → List Meaning = λ column. map meaning column.items in
    let plan = aggregate_plan c.args.aggregate.now in
    let rows = rows_seen c.args.grouped.now.rows.now in
    let sets = c.args.grouped.now.sets.now in
    let values = values_of c.args.argument in
    subst (Gives view c.aggregate_answers.result) (sym (column_fed plan rows sets values c.requires.values
    ∙ ap (λ r. r >>= answers_fed plan sets values) c.in_ok-filter.ensures.gives)) c.aggregate_answers.ensures.gives
