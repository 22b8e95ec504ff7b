use Rattle.std.proofs.Common.{◌≡◌, [], drop, string_bytes}
use Rattle.wspots.specs.Notes.{columns_listed}
use Rattle.wspots.proofs.notes.names_of.Given as goal

abbrev pub invariant-columns : goal.invariant-columns
invariant-columns l = columns_listed (string_bytes l.names) (drop l.column-index l.columns) ≡ columns_listed [] l.columns
