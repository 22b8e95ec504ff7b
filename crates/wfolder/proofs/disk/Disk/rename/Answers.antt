use Rattle.std.proofs.Common.{◌∙◌, ap, map, sym}
use Rattle.wfolder.specs.Disk.{entries_of, files_of}
use Rattle.wfolder.specs.Memory.{written_file}
use Rattle.wfolder.proofs.Does.{moved_by}
use Rattle.wfolder.proofs.disk.Disk.rename.Goals as goal

pub returns-clause-does : goal.returns-clause-does
returns-clause-does c = moved_by c.lead.result c.lead-2.result c.is_err.result c.is_ok.result c.args.from.now c.args.to.now
    (entries_of c.args.self.now) (entries_of c.lead.new.self) (entries_of c.lead-2.new.self) (files_of c.args.self.now)
    (files_of c.lead-2.new.self) _ (sym c.in-Some.is ∙ c.file_of.ensures.file) c.is_err.ensures.value c.if-is_err.false
    c.is_ok.ensures.value c.lead.ensures.ok c.lead-2.ensures.ok
    (ap (λ v. map written_file v.items) (c.lead-2.ensures.files ∙ c.lead.ensures.files))
