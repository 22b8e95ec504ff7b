-- Why a query that has a meaning is not answered, and how its answer is spelled.
use Rattle.std.specs.Prelude.{◌≡◌, Result, Ok, Err}
use Rattle.wrows.specs.declared.fault.AnswerFault.{AnswerFault}
use Rattle.wrows.specs.declared.fault.AnswerFault.TheVariants as answers
use Rattle.wplanner.specs.Parts.{TableParts}
use Rattle.wplanner.specs.declared.fault.AskFault.{AskFault}
use Rattle.wplanner.specs.declared.fault.AskFault.TheVariants as faults

abbrev pub unanswered : AnswerFault → AskFault
unanswered answers.OutOfRange = faults.OutOfRange
unanswered answers.TooManyRows = faults.TooManyRows
unanswered answers.NoMemory = faults.NoMemory

-- the table, or the fault of an answer, unless memory was refused
abbrev pub AnswersTable : Result TableParts AskFault → Result TableParts AnswerFault → Type 0
AnswersTable (Ok table) meant = meant ≡ Ok table
AnswersTable (Err faults.OutOfRange) meant = meant ≡ Err answers.OutOfRange
AnswersTable (Err faults.TooManyRows) meant = meant ≡ Err answers.TooManyRows
AnswersTable (Err faults.NoMemory) meant = Unit {0}
AnswersTable (Err other) meant = ⊥
