use Rattle.std.proofs.Common.{Ok, map, sym, ap, ◌∙◌}
use Rattle.std.specs.Rc.{rc_str_bytes}
use Rattle.std.proofs.lemmas.List.{length-map}
use Rattle.std.proofs.lemmas.Result.{err_from_is_err_and}
use Rattle.wplan.specs.Plans.{select_plan}
use Rattle.wrows.specs.Laid.{rows_in}
use Rattle.wrows.proofs.RowFacts.{then_refused}
use Rattle.wplanner.specs.Parts.{TableParts}
use Rattle.wtable.specs.Tables.{rows_of_set}
use Rattle.wplanner.proofs.PlanFacts.{some_select, table_given, table_wide}
use Rattle.wplanner.proofs.executing.query_answer.Goals as goal

pub output_names-requires : goal.output_names-requires
output_names-requires c = some_select c.args.selects.now c.requires

pub new-requires : goal.new-requires
new-requires c =
    table_wide c.args.selects.now c.in_ok-cells.cells.width 0 (map rc_str_bytes c.in_ok-names.names.items) c.requires
    c.in_ok-names.ensures c.in_ok-cells.ensures.width ∙ length-map c.in_ok-names.names.items rc_str_bytes ∙ sym c.in_ok-names.names.ok.0

pub returns-in_err-cells-clause-answer : goal.returns-in_err-cells-clause-answer
returns-in_err-cells-clause-answer c =
    let p = err_from_is_err_and c.from_residual.result c.from_residual.ensures.1 in
    rw (p.1, p.2) (then_refused {Y = TableParts} rows_in (λ t. t) c.in_err-cells.field-0.0 _ _ c.in_err-cells.ensures.rows)

pub returns-clause-answer : goal.returns-clause-answer
returns-clause-answer c = table_given (map select_plan c.args.selects.now) (rows_of_set c.args.set.now)
    (rows_in c.in_ok-cells.cells) _ c.in_ok-cells.ensures.rows c.in_ok-names.ensures ∙ ap Ok (sym c.new.ensures)
