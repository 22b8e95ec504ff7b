use Rattle.std.proofs.Common.{◌∙◌, Option, subst, sym, vec_len, ℕ}
use Rattle.wfolder.specs.Disk.{entries_of}
use Rattle.wfolder.specs.Memory.{IsKnown}
use Rattle.wfolder.proofs.Memory.{known_leads, leads_none, leads_some}
use Rattle.wfolder.proofs.disk.Disk.file_of.Goals as goal

pub returns-in_err-place-clause-file : goal.returns-in_err-place-clause-file
returns-in_err-place-clause-file c = c.from_residual.ensures
    ∙ sym (leads_none c.args.path.now c.args.self.now.entries.items c.place_of.result c.place_of.ensures c.in_err-place.was)

pub returns-clause-file : goal.returns-clause-file
returns-clause-file c = sym (leads_some c.args.path.now c.args.self.now.entries.items c.place_of.result c.in_ok-place.place
    c.index.result.now c.place_of.ensures c.in_ok-place.was c.index.ensures)

pub returns-clause-known : goal.returns-clause-known
returns-clause-known c = subst (λ (file : Option ℕ). IsKnown (vec_len c.args.self.now.files) file) (sym (returns-clause-file c))
    (known_leads c.args.path.now (entries_of c.args.self.now) (vec_len c.args.self.now.files) c.args.self.now.known)
