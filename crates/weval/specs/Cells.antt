-- What an outcome in memory says, and how an outcome is answered.
use Rattle.std.specs.Prelude.{◌≡◌, Option, Some, None, Result, Ok, Err}
use Rattle.wvalues.specs.Meaning.{meaning}
use Rattle.wvalues.specs.declared.truth.Truth.{Truth}
use Rattle.weval.specs.Values.{Outcome, Held, Judged, TooLarge}
use Rattle.weval.specs.declared.cell.Cell.{Cell}
use Rattle.weval.specs.declared.cell.Cell.TheVariants as cells
use Rattle.weval.specs.declared.cell.EvalFault.{EvalFault}
use Rattle.weval.specs.declared.cell.EvalFault.TheVariants.{OutOfRange, NoMemory}

abbrev pub outcome : Cell → Outcome
outcome (cells.Value v) = Held (meaning v)
outcome (cells.Truth t) = Judged t

-- the outcome, of which nothing is in memory where it is out of range
abbrev pub Comes : Option Cell → Outcome → Type 0
Comes (Some cell) o = outcome cell ≡ o
Comes None o = o ≡ TooLarge

-- the outcome, unless memory was refused
abbrev pub Gives : Result Cell EvalFault → Outcome → Type 0
Gives (Ok cell) o = outcome cell ≡ o
Gives (Err OutOfRange) o = o ≡ TooLarge
Gives (Err NoMemory) o = Unit {0}

-- the same of a truth
abbrev pub GivesTruth : Result Truth EvalFault → Outcome → Type 0
GivesTruth (Ok t) o = Judged t ≡ o
GivesTruth (Err OutOfRange) o = o ≡ TooLarge
GivesTruth (Err NoMemory) o = Unit {0}
