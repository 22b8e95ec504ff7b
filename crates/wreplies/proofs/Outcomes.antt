-- Outcomes of calls that may fail.
use Rattle.std.proofs.Common.{Result, Ok, Err, OnErr}

-- what follows from a fact of a failure
pub on_err_then : {A E : Type 0} (r : Result A E) (P Q : Type 0) → OnErr r P → (P → Q) → OnErr r Q
on_err_then (Ok x) P Q fact more = tt
on_err_then (Err e) P Q fact more = more fact
