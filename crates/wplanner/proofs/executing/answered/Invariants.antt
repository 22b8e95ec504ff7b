use Rattle.std.proofs.Common.{◌≡◌, drop, map}
use Rattle.wplan.specs.Plans.{select_plan}
use Rattle.wrows.specs.Laid.{rows_in}
use Rattle.wplanner.specs.Answers.{answer_of, width_of}
use Rattle.wplanner.proofs.executing.answered.Given as goal

-- what is left answers what all answer
abbrev pub invariant-selects : goal.invariant-selects
invariant-selects l = record {
  rows : answer_of (map select_plan (drop l.select-index l.selects)) (rows_in l.cells)
      ≡ answer_of (map select_plan l.selects) (rows_in l.fn.source);
  width : width_of (map select_plan (drop l.select-index l.selects)) l.cells.width ≡ width_of (map select_plan l.selects) l.fn.source.width;
}
