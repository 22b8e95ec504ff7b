use Rattle.std.proofs.Common.{◌∙◌, arith, sym}
use Rattle.wfolder.specs.Disk.{entries_of}
use Rattle.wfolder.specs.Memory.{appended}
use Rattle.wfolder.proofs.Does.{changed_at, writes_at}
use Rattle.wfolder.proofs.disk.Disk.write.Goals as goal

pub returns-clause-files : goal.returns-clause-files
returns-clause-files c = changed_at (appended c.args.bytes.now c.append.result) _ c.args.self.now.files.items c.in-Some.number
    c.index_mut.result.now c.append.new.self
    (sym c.file_of.ensures.file ∙ c.in-Some.is) (omega (arith, c.in-Some.ensures.known, c.args.self.now.files.ok.0))
    c.index_mut.ensures.value c.append.ensures

pub returns-clause-does : goal.returns-clause-does
returns-clause-does c = λ _. writes_at c.args.path.now c.args.bytes.now c.append.result (entries_of c.args.self.now)
    c.args.self.now.files.items c.in-Some.number c.index_mut.result.now c.append.new.self (sym c.file_of.ensures.file ∙ c.in-Some.is)
    (omega (arith, c.in-Some.ensures.known, c.args.self.now.files.ok.0)) c.index_mut.ensures.value c.append.ensures
