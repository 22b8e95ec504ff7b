use Rattle.std.proofs.Common.{[], ◌∷◌, ◌<◌, Ok, List, Vec, Global, length, map, sym, ap, ◌∙◌, arith}
use Rattle.std.proofs.lemmas.Result.{err_from_is_err_and}
use Rattle.std.proofs.lemmas.List.{length-map, map-append}
use Rattle.wvalues.specs.Meaning.{Meaning}
use Rattle.wcolumns.specs.Columns.{column_seen}
use Rattle.wcolumns.specs.declared.column.Column.{Column}
use Rattle.wplan.specs.Plans.{function_plan}
use Rattle.wrows.specs.Laid.{rows_seen}
use Rattle.wcalls.specs.Functions.{function_column}
use Rattle.wcalls.specs.Lent.{functions_seen}
use Rattle.wcalls.specs.Sound.{is_sound_function}
use Rattle.wcalls.specs.Joins.{most_of_function}
use Rattle.wcalls.specs.Kept.{are_values, is_aggregate}
use Rattle.wcalls.proofs.JoinFacts.{joins_more, joins_of_all, joins_within}
use Rattle.wcalls.proofs.ColumnFacts.{mapped_at, each_is, each_more, each_refused, alike_more}
use Rattle.wcalls.proofs.function_columns.every_column.Goals as goal

pub function_column-requires : goal.function_column-requires
function_column-requires c =
    let fs = c.args.functions.now in
    let i = c.loop-function.function-index in
    let f = c.function-item.result in
    let h : i < length (functions_seen fs) = omega (arith, c.loop-function-test.true, length-map fs (λ f. function_plan f.now)) in
    each_is is_sound_function (functions_seen fs) i (function_plan f.now) c.requires h (mapped_at (λ f. function_plan f.now)
    fs i f c.loop-function-test.true c.function-item.is)

pub loop-function-preserved : goal.loop-function-preserved
loop-function-preserved c =
    let fs = c.args.functions.now in
    let i = c.loop-function.function-index in
    let f = c.function-item.result in
    let h : i < length (functions_seen fs) = omega (arith, c.loop-function-test.true, length-map fs (λ f. function_plan f.now)) in
    let at = mapped_at (λ f. function_plan f.now) fs i f c.loop-function-test.true c.function-item.is in
    let columns = c.loop-function.columns.items in
    let column = c.in_ok-column.column in
    let most = most_of_function c.args.arranged.now.partitions.now.frame.exclusion (length c.args.arranged.now.order.now) in
    record {
      joins = joins_more most (functions_seen fs) i (function_plan f.now) _ _ _ h at c.loop-function.invariant.joins
          c.function_column.ensures.joins;
      not_less = omega (arith, c.loop-function.invariant.not_less, c.function_column.ensures.not_less);
      so_far = λ w arranged.
          each_more (function_column (rows_seen c.args.arranged.now.rows.now) w) (functions_seen fs) i (map column_seen columns)
          (function_plan f.now) (column_seen column) h at (c.loop-function.invariant.so_far w arranged)
          (c.in_ok-column.ensures.column w arranged)
          ∙ ap Ok (sym (ap (map column_seen) c.in_ok-push.ensures.items ∙ map-append column_seen columns (column ∷ [])));
      kept = ap (map are_values) c.in_ok-push.ensures.items
          ∙ alike_more are_values is_aggregate columns (functions_seen fs) i column (function_plan f.now) h at
          c.loop-function.invariant.kept c.in_ok-column.ensures.kept;
    }

pub returns-in_err-column-clause-joins : goal.returns-in_err-column-clause-joins
returns-in_err-column-clause-joins c =
    let fs = c.args.functions.now in
    let i = c.loop-function.function-index in
    let f = c.function-item.result in
    let h : i < length (functions_seen fs) = omega (arith, c.loop-function-test.true, length-map fs (λ f. function_plan f.now)) in
    let at = mapped_at (λ f. function_plan f.now) fs i f c.loop-function-test.true c.function-item.is in
    let most = most_of_function c.args.arranged.now.partitions.now.frame.exclusion (length c.args.arranged.now.order.now) in
    joins_within most (functions_seen fs) i (function_plan f.now) _ _ _ h at c.loop-function.invariant.joins c.function_column.ensures.joins

pub returns-in_err-push-clause-joins : goal.returns-in_err-push-clause-joins
returns-in_err-push-clause-joins c =
    let fs = c.args.functions.now in
    let i = c.loop-function.function-index in
    let f = c.function-item.result in
    let h : i < length (functions_seen fs) = omega (arith, c.loop-function-test.true, length-map fs (λ f. function_plan f.now)) in
    let at = mapped_at (λ f. function_plan f.now) fs i f c.loop-function-test.true c.function-item.is in
    let most = most_of_function c.args.arranged.now.partitions.now.frame.exclusion (length c.args.arranged.now.order.now) in
    joins_within most (functions_seen fs) i (function_plan f.now) _ _ _ h at c.loop-function.invariant.joins c.function_column.ensures.joins

pub returns-clause-joins : goal.returns-clause-joins
returns-clause-joins c =
    let fs = c.args.functions.now in
    let most = most_of_function c.args.arranged.now.partitions.now.frame.exclusion (length c.args.arranged.now.order.now) in
    joins_of_all most (functions_seen fs) c.loop-function.function-index _ _ c.loop-function.invariant.joins

pub returns-in_err-column-clause-columns : goal.returns-in_err-column-clause-columns
returns-in_err-column-clause-columns c w arranged =
    let p = err_from_is_err_and c.from_residual-in_err-column.result c.from_residual-in_err-column.ensures.1 in
    let fs = c.args.functions.now in
    let i = c.loop-function.function-index in
    let f = c.function-item.result in
    let h : i < length (functions_seen fs) = omega (arith, c.loop-function-test.true, length-map fs (λ f. function_plan f.now)) in
    let at = mapped_at (λ f. function_plan f.now) fs i f c.loop-function-test.true c.function-item.is in
    let view : Vec Column Global → List (List Meaning) = λ columns. map column_seen columns.items in
    rw (p.1, p.2) (each_refused (function_column (rows_seen c.args.arranged.now.rows.now) w) column_seen view
    c.in_err-column.field-0.0 (functions_seen fs) i (map column_seen c.loop-function.columns.items) (function_plan f.now)
    h at (c.loop-function.invariant.so_far w arranged) (c.in_err-column.ensures.column w arranged))
