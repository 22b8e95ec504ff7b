use Rattle.std.proofs.Common.{map, refl}
use Rattle.std.proofs.lemmas.Result.{err_from_is_err_and}
use Rattle.wrows.specs.Laid.{rows_in}
use Rattle.wplan.specs.Plans.{select_plan}
use Rattle.wtable.specs.Tables.{rows_of_set}
use Rattle.wplanner.proofs.PlanFacts.{each_is_sound, some_select, sound_at, stops}
use Rattle.wplanner.proofs.executing.query_rows.Goals as goal

pub select_table_rows-requires : goal.select_table_rows-requires
select_table_rows-requires c =
    sound_at c.args.selects.now 0 c.index-selects-0.result (some_select c.args.selects.now c.requires) c.index-selects-0.is
    (each_is_sound (map select_plan c.args.selects.now) c.requires)

pub returns-in_err-cells-clause-rows : goal.returns-in_err-cells-clause-rows
returns-in_err-cells-clause-rows c =
    let p = err_from_is_err_and c.from_residual.result c.from_residual.ensures.1 in
    rw (p.1, p.2)
    (stops rows_in c.args.selects.now 0 c.index-selects-0.result (rows_of_set c.args.set.now) _ c.in_err-cells.field-0.0
    (some_select c.args.selects.now c.requires) c.index-selects-0.is refl c.in_err-cells.ensures.rows)
