use Rattle.std.proofs.Common.{◌∙◌, ap}
use Rattle.wfolder.specs.Memory.{are_distinct}
use Rattle.wfolder.proofs.Distinct.{distinct_settled}
use Rattle.wfolder.specs.Disk.{entries_of, files_of}
use Rattle.wfolder.proofs.Does.{known_settled, syncs_folder_at}
use Rattle.wfolder.proofs.Memory.{known_same, settled_whole}
use Rattle.wfolder.proofs.disk.Disk.sync_names.Goals as goal

pub invariant_of-self : goal.invariant_of-self
invariant_of-self c = record {
  known = known_same _ _ _ (settled_whole c.args.self.now.entries.len c.settle.new.entries c.args.self.now.entries.items
      c.deref_mut.result.now c.args.self.now.entries.ok.0 c.deref_mut.ensures.value c.settle.ensures)
      (known_settled (entries_of c.args.self.now) _ c.args.self.now.known);
  distinct = ap are_distinct (settled_whole c.args.self.now.entries.len c.settle.new.entries c.args.self.now.entries.items
      c.deref_mut.result.now c.args.self.now.entries.ok.0 c.deref_mut.ensures.value c.settle.ensures)
      ∙ distinct_settled (entries_of c.args.self.now) c.args.self.now.distinct;
}

pub returns-clause-does : goal.returns-clause-does
returns-clause-does c = syncs_folder_at (entries_of c.args.self.now) _ (files_of c.args.self.now)
    (settled_whole c.args.self.now.entries.len c.settle.new.entries c.args.self.now.entries.items c.deref_mut.result.now
    c.args.self.now.entries.ok.0 c.deref_mut.ensures.value c.settle.ensures)
