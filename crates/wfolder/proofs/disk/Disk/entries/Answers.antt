use Rattle.std.proofs.Common.{ap, map, subst, sym}
use Rattle.std.specs.List.{AllByRecursion}
use Rattle.wfolder.specs.Disk.{entries_of}
use Rattle.wfolder.specs.Memory.{IsEntry, leading_of}
use Rattle.wfolder.proofs.Distinct.{all_entries}
use Rattle.wfolder.proofs.disk.Disk.entries.Goals as goal

pub returns-clause-each : goal.returns-clause-each
returns-clause-each c = subst (AllByRecursion (IsEntry (entries_of c.args.self.now)))
    (sym (ap (map leading_of) c.as_slice.ensures.value)) (all_entries (entries_of c.args.self.now) c.args.self.now.distinct)
