use Rattle.std.proofs.Common.{List, map, take, string_bytes}
use Rattle.wfolder.specs.Call.{Call}
use Rattle.wfolder.specs.Calls.{NothingFailed}
use Rattle.wfolder.specs.Order.{After, Clearing, Idle}
use Rattle.wfolder.proofs.replacing.clear.Given as goal

abbrev pub invariant-names : goal.invariant-names
invariant-names g l = record {
  cleared : (base : List Call) → After l.target base (g.F.Folder.calls l.fn.folder) Idle → Clearing l.target (map string_bytes l.name-items)
      (map string_bytes (take l.name-index l.name-items)) base (g.F.Folder.calls l.folder);
  sound : NothingFailed (g.F.Folder.counts l.folder);
}
