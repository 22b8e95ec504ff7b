use Rattle.std.proofs.Common.{◌∙◌, arith, refl, sym}
use Rattle.wfolder.specs.Disk.{entries_of}
use Rattle.wfolder.specs.Memory.{brought}
use Rattle.wfolder.proofs.Does.{changed_at, syncs_at}
use Rattle.wfolder.proofs.disk.Disk.sync.Goals as goal

pub returns-clause-files : goal.returns-clause-files
returns-clause-files c = changed_at brought _ c.args.self.now.files.items c.in-Some.number c.index_mut.result.now _
    (sym c.file_of.ensures.file ∙ c.in-Some.is) (omega (arith, c.in-Some.ensures.known, c.args.self.now.files.ok.0))
    c.index_mut.ensures.value refl

pub returns-clause-does : goal.returns-clause-does
returns-clause-does c = λ _. syncs_at c.args.path.now (entries_of c.args.self.now) c.args.self.now.files.items c.in-Some.number
    c.index_mut.result.now _ (sym c.file_of.ensures.file ∙ c.in-Some.is)
    (omega (arith, c.in-Some.ensures.known, c.args.self.now.files.ok.0)) c.index_mut.ensures.value refl
