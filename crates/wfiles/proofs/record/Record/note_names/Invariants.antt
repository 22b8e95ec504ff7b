use Rattle.std.proofs.Common.{◌≡◌, ◌∷◌, Some, map, take, string_bytes}
use Rattle.wfolder.specs.Call.{Listed}
use Rattle.wfiles.proofs.record.Record.note_names.Given as goal

abbrev pub invariant-names : goal.invariant-names
invariant-names l = l.self.calls ≡ Listed l.folder (Some (map string_bytes (take l.name-index l.names))) ∷ l.fn.self.calls
