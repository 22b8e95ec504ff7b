use Rattle.std.proofs.Common.{◌≡◌, string_bytes}
use Rattle.wspots.specs.Notes.{windows_before}
use Rattle.wspots.proofs.notes.windows_before.Given as goal

abbrev pub invariant-marks : goal.invariant-marks
invariant-marks l = string_bytes l.names ≡ windows_before l.scene l.before
