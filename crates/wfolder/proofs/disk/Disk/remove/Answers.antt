use Rattle.std.proofs.Common.{ap, map}
use Rattle.wfolder.specs.Disk.{entries_of, files_of}
use Rattle.wfolder.specs.Memory.{written_file}
use Rattle.wfolder.proofs.Does.{removed_by}
use Rattle.wfolder.proofs.disk.Disk.remove.Goals as goal

pub returns-then-is_some-clause-does : goal.returns-then-is_some-clause-does
returns-then-is_some-clause-does c = removed_by c.lead.result c.is_ok.result c.args.path.now (entries_of c.args.self.now)
    (entries_of c.lead.new.self) (files_of c.args.self.now) (files_of c.lead.new.self) c.is_ok.ensures.value c.lead.ensures.ok
    c.lead.ensures.err (ap (λ v. map written_file v.items) c.lead.ensures.files)
