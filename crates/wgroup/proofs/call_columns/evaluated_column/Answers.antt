use Rattle.std.proofs.Common.{inl, List, Vec, Global, Result, Ok, map, length, sym, ap, ◌∙◌}
use Rattle.std.specs.List.{flat_map}
use Rattle.std.proofs.lemmas.Result.{err_from_is_err_and}
use Rattle.wvalues.specs.Meaning.{Meaning, meaning}
use Rattle.wvalues.specs.declared.value.Value.{Value}
use Rattle.wplan.specs.Plans.{aggregate_plan}
use Rattle.waggregate.specs.Aggregating.{Feed, feed_of}
use Rattle.wrows.specs.declared.fault.AnswerFault.{AnswerFault}
use Rattle.wrows.specs.Columns.{column_of, filter_of, in_range}
use Rattle.wrows.specs.Laid.{rows_seen}
use Rattle.wrows.specs.Outcomes.{◌>>=◌}
use Rattle.wrows.proofs.RowFacts.{then_refused}
use Rattle.wgroup.specs.Held.{set_answers}
use Rattle.wgroup.proofs.call_columns.evaluated_column.Goals as goal

pub returns-in_err-cells-clause-gives : goal.returns-in_err-cells-clause-gives
returns-in_err-cells-clause-gives c =
    let p = err_from_is_err_and c.from_residual.result c.from_residual.ensures.1 in
    let view : Vec Value Global → List Meaning = λ column. map meaning column.items in
    let fault = c.in_err-cells.field-0.0 in
    let plan = aggregate_plan c.args.aggregate.now in
    let rows = rows_seen c.args.grouped.now.rows.now in
    let fed : List Meaning → Result Feed AnswerFault = λ values. filter_of plan.filter rows >>= λ filter.
    Ok (record { values = values; filter = filter }) in
    let sets = c.args.grouped.now.sets.now in
    let answers_by : Feed → Result (List Meaning) AnswerFault = λ feed. in_range (flat_map (set_answers plan.function feed) sets) in
    rw (p.1, p.2) (then_refused {X = Feed} (λ feed. feed) view fault (feed_of plan rows) answers_by (then_refused {Y =
    Feed} view (λ feed. feed) fault (column_of plan.argument rows) fed c.in_err-cells.ensures.gives))

pub fed_column-requires-clause-values : goal.fed_column-requires-clause-values
fed_column-requires-clause-values c =
    inl (c.in_ok-cells.ensures.gives ∙ ap (λ l. Ok (map meaning l)) (sym c.deref.ensures.value))

pub fed_column-requires-clause-wide : goal.fed_column-requires-clause-wide
fed_column-requires-clause-wide c = ap length c.deref.ensures.value ∙ c.in_ok-cells.ensures.len
