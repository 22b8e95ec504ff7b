use Rattle.std.proofs.Common.{◌∙◌, ap, arith, sym}
use Rattle.std.proofs.lemmas.List.{length-map}
use Rattle.wfolder.specs.Disk.{entries_of, files_of}
use Rattle.wfolder.specs.Memory.{written_file}
use Rattle.wfolder.proofs.Does.{creates_at, none_of, pushed}
use Rattle.wfolder.proofs.Memory.{known_more}
use Rattle.wfolder.proofs.disk.Disk.create.Goals as goal

pub invariant_of-self : goal.invariant_of-self
invariant_of-self c = record {
  known = known_more _ _ (entries_of c.args.self.now) c.push.ensures.lower_bound c.args.self.now.known;
  distinct = c.args.self.now.distinct;
}

pub returns-clause-does : goal.returns-clause-does
returns-clause-does c =
    let same = length-map c.args.self.now.files.items written_file in
    λ _. creates_at c.args.path.now (entries_of c.args.self.now) (entries_of c.lead.new.self) (files_of c.args.self.now)
    (files_of c.lead.new.self) c.len-number.result
    (known_more _ _ (entries_of c.args.self.now) (omega (arith, same, c.args.self.now.files.ok.0)) c.args.self.now.known)
    (sym c.file_of.ensures.file ∙ none_of c.file_of.result c.is_some.result c.is_some.ensures c.if-is_some.false)
    (omega (arith, same, c.args.self.now.files.ok.0, c.len-number.ensures)) c.in_ok-lead.ensures.ok
    (pushed c.args.self.now.files.items _ _ (ap (λ v. v.items) c.in_ok-lead.ensures.files ∙ c.in_ok-push.ensures.items)
    (ap (λ bytes. record { bytes = bytes; synced = _ }) c.new-bytes.ensures.items))
