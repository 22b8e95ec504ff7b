-- What a query with its names resolved is answered.
use Rattle.std.specs.Prelude.{ℕ, List, Result, Ok, Err}
use Rattle.wplan.specs.Plans.{SelectPlan}
use Rattle.wprinted.specs.Printing.{table_text}
use Rattle.wrows.specs.Columns.{Row}
use Rattle.wrows.specs.declared.fault.AnswerFault.{AnswerFault}
use Rattle.wplanner.specs.Answers.{table_answer}
use Rattle.wplanner.specs.Faults.{unanswered}
use Rattle.wplanner.specs.Parts.{TableParts}
use Rattle.wplanner.specs.declared.fault.AskFault.{AskFault}

-- the bytes of a table, or why there is none
abbrev pub printed : Result TableParts AnswerFault → Result (List ℕ) AskFault
printed (Ok table) = Ok (table_text table.names table.rows)
printed (Err fault) = Err (unanswered fault)

-- what a query with its names resolved is answered on some rows
abbrev pub plan_answer : List SelectPlan → List Row → Result (List ℕ) AskFault
plan_answer plans rows = printed (table_answer plans rows)
