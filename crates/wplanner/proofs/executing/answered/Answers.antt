use Rattle.std.proofs.Common.{List, map, sym, ap, ◌∙◌}
use Rattle.wplan.specs.Plans.{select_plan}
use Rattle.wplan.specs.declared.resolved.Selection.{Selection}
use Rattle.wrows.specs.Laid.{rows_in}
use Rattle.wplanner.specs.Answers.{answer_of, width_of}
use Rattle.wplanner.proofs.PlanFacts.{finished, goes_on, sound_at, stops, width_goes_on}
use Rattle.wplanner.proofs.executing.answered.Goals as goal

pub select_cells-requires : goal.select_cells-requires
select_cells-requires c = sound_at c.args.selects.now c.selects.select-index c.select-item.result c.selects-test.true
    c.select-item.is c.requires

pub returns-in-Err-clause-rows : goal.returns-in-Err-clause-rows
returns-in-Err-clause-rows c =
    stops rows_in c.args.selects.now c.selects.select-index c.select-item.result (rows_in c.selects.cells) _ c.in-Err.fault
    c.selects-test.true c.select-item.is c.selects.invariant.rows c.in-Err.ensures.rows

pub selects-preserved : goal.selects-preserved
selects-preserved c = record {
  rows = goes_on c.args.selects.now c.selects.select-index c.select-item.result (rows_in c.selects.cells)
      (rows_in c.in-Ok.next) _ c.selects-test.true c.select-item.is c.selects.invariant.rows c.in-Ok.ensures.rows;
  width = width_goes_on c.args.selects.now c.selects.select-index c.select-item.result c.selects.cells.width
      c.in-Ok.next.width _ c.selects-test.true c.select-item.is c.selects.invariant.width c.in-Ok.ensures.width;
}

pub returns-clause-rows : goal.returns-clause-rows
returns-clause-rows c =
    sym c.selects.invariant.rows ∙ ap (λ (ss : List Selection). answer_of (map select_plan ss) (rows_in c.selects.cells))
    (finished c.args.selects.now c.selects.select-index c.selects-test.false)

pub returns-clause-width : goal.returns-clause-width
returns-clause-width c =
    sym (ap (λ (ss : List Selection). width_of (map select_plan ss) c.selects.cells.width)
    (finished c.args.selects.now c.selects.select-index c.selects-test.false)) ∙ c.selects.invariant.width
