-- What an expression says as a condition (<search condition>), and how its truth is answered.
use Rattle.std.specs.Prelude.{◌≡◌, Bool, true, false, Result, Ok, Err}
use Rattle.wquery.specs.declared.expression.Operator.{Operator}
use Rattle.wquery.specs.declared.expression.Operator.TheVariants.{Or, And}
use Rattle.wvalues.specs.declared.truth.Truth.{Truth}
use Rattle.weval.specs.Values.{Outcome, TooLarge, is_too_large, truth_of}
use Rattle.weval.specs.declared.cell.EvalFault.{EvalFault}
use Rattle.weval.specs.declared.cell.EvalFault.TheVariants.{OutOfRange, NoMemory}

-- the truth, or that it is out of range, unless memory was refused
abbrev pub Says : Result Truth EvalFault → Outcome → Type 0
Says (Ok t) o = (is_too_large o ≡ false) × (truth_of o ≡ t)
Says (Err OutOfRange) o = o ≡ TooLarge
Says (Err NoMemory) o = Unit {0}

-- an operator that joins truths
abbrev pub is_logical : Operator → Bool
is_logical Or = true
is_logical And = true
is_logical _ = false
