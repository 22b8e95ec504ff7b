use Rattle.std.proofs.Common.{◌≤◌}
use Rattle.wfolder.specs.Calls.{NothingFailed, tries}
use Rattle.wfolder.specs.Order.{Tries}
use Rattle.wfolder.proofs.replacing.make_new.Given as goal

abbrev pub invariant-tries : goal.invariant-tries
invariant-tries g l = record {
  tried : Tries l.target l.number (g.F.Folder.calls l.fn.folder) (g.F.Folder.calls l.folder);
  count : l.number ≤ tries;
  sound : NothingFailed (g.F.Folder.counts l.folder);
}
