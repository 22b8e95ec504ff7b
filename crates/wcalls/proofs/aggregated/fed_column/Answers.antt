use Rattle.std.proofs.Common.{Bool, List, Vec, Global, Option, Result, Ok, Err, map, option_map, subst, sym, ap, ◌∙◌}
use Rattle.std.proofs.lemmas.Result.{err_from_is_err_and}
use Rattle.wvalues.specs.Meaning.{Meaning, meaning}
use Rattle.wplan.specs.Plans.{aggregate_plan}
use Rattle.waggregate.specs.Aggregating.{Feed, aggregate_of}
use Rattle.waggregate.specs.Feeding.{values_of}
use Rattle.wrows.specs.declared.fault.AnswerFault.{AnswerFault}
use Rattle.wrows.specs.Columns.{filter_of, in_range}
use Rattle.wrows.specs.Laid.{rows_seen}
use Rattle.wrows.specs.Outcomes.{◌>>=◌, Gives}
use Rattle.wrows.proofs.RowFacts.{then_refused}
use Rattle.wcalls.specs.Calls.{each_row}
use Rattle.wcalls.specs.Windows.{frame_of}
use Rattle.wcalls.proofs.aggregated.fed_column.Goals as goal

pub returns-in_err-filter-clause-column : goal.returns-in_err-filter-clause-column
returns-in_err-filter-clause-column c w arranged =
    let p = err_from_is_err_and c.from_residual.result c.from_residual.ensures.1 in
    let view : Unit {0} → List Meaning = λ u. map meaning c.args.column.now in
    let seen : Option (Vec Bool Global) → Option (List Bool) = λ filter. option_map (λ tests. tests.items) filter in
    let fault = c.in_err-filter.field-0.0 in
    let plan = aggregate_plan c.args.aggregate.now in
    let filters = filter_of plan.filter (rows_seen c.args.arranged.now.rows.now) in
    let values = values_of c.args.argument in
    let fed : Option (List Bool) → Result Feed AnswerFault = λ filter. Ok (record { values = values; filter = filter }) in
    let answer : Feed → Result (List Meaning) AnswerFault =
    λ feed. in_range (each_row w (λ i. aggregate_of plan.function feed (frame_of w i))) in
    rw (p.1, p.2) (subst (λ r. Gives view (Err fault)
    ((r >>= λ values. filters >>= λ filter. Ok (record { values = values; filter = filter })) >>= answer)) (sym c.requires.values)
    (then_refused {X = Feed} (λ feed. feed) view fault (filters >>= fed) answer (then_refused {Y = Feed} seen (λ feed. feed)
    fault filters fed c.in_err-filter.ensures.gives)))

pub returns-clause-column : goal.returns-clause-column
returns-clause-column c w arranged =
    let view : Unit {0} → List Meaning = λ u. map meaning c.put_aggregates.new.column in
    let plan = aggregate_plan c.args.aggregate.now in
    let filters = filter_of plan.filter (rows_seen c.args.arranged.now.rows.now) in
    let values = values_of c.args.argument in
    let fed : Option (List Bool) → Result Feed AnswerFault = λ filter. Ok (record { values = values; filter = filter }) in
    let answer : Feed → Result (List Meaning) AnswerFault =
    λ feed. in_range (each_row w (λ i. aggregate_of plan.function feed (frame_of w i))) in
    subst (Gives view c.put_aggregates.result)
    (sym (ap (λ r. (r >>= λ values. filters >>= λ filter. Ok (record { values = values; filter = filter })) >>= answer)
    c.requires.values ∙ ap (λ r. (r >>= fed) >>= answer) c.in_ok-filter.ensures.gives))
    (c.put_aggregates.ensures.column w arranged)
