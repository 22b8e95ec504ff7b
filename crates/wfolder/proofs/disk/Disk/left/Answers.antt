use Rattle.std.proofs.Common.{◌∙◌, ◌+◌, ℕ, List, Option, None, ap, arith, string_bytes, subst, sym, take}
use Rattle.std.proofs.lemmas.List.{length-map}
use Rattle.std.specs.List.{AllByRecursion, flat_map}
use Rattle.wfolder.specs.Disk.{disk_of, entries_of, files_of}
use Rattle.wfolder.specs.Memory.{held_by, leading_of, states_at, written_file}
use Rattle.wfolder.specs.Model.{MayHold}
use Rattle.wfolder.proofs.Crash.{allowed}
use Rattle.wfolder.proofs.Memory.{known_more, states_all, states_more}
use Rattle.wfolder.proofs.disk.Disk.left.Goals as goal

pub loop-file-preserved : goal.loop-file-preserved
loop-file-preserved c =
    let told : List (Option ℕ) → List (Option (List ℕ)) = λ files. flat_map (states_at (files_of c.args.self.now)) files in
    states_more (files_of c.args.self.now) c.deref-file-items.result.now c.loop-file.file-index None
    (held_by c.loop-file.left.items) (held_by c.push_left.new.left.items) c.loop-file-test.true
    (c.loop-file.invariant ∙ ap (λ files. told (take c.loop-file.file-index files)) (sym c.deref-file-items.ensures.value))
    c.in_ok-push_left.ensures
    ∙ ap (λ files. told (take (c.loop-file.file-index + 1) files)) c.deref-file-items.ensures.value

pub returns-clause-told : goal.returns-clause-told
returns-clause-told c = states_all (files_of c.args.self.now) c.args.entry.now.earlier.items c.loop-file.file-index c.args.entry.now.file
    (held_by c.loop-file.left.items) (held_by c.push_left-2.new.left.items)
    (omega (arith, c.loop-file-test.false, c.deref-file-items.ensures.len, c.args.entry.now.earlier.ok.0))
    c.loop-file.invariant c.in_ok-push_left-2.ensures

pub returns-clause-allowed : goal.returns-clause-allowed
returns-clause-allowed c = λ is. subst (AllByRecursion (MayHold (disk_of c.args.self.now) (string_bytes c.args.entry.now.path)))
    (sym (returns-clause-told c))
    (allowed (entries_of c.args.self.now) (files_of c.args.self.now) (leading_of c.args.entry.now)
    (known_more _ _ (entries_of c.args.self.now)
    (omega (arith, length-map c.args.self.now.files.items written_file, c.args.self.now.files.ok.0)) c.args.self.now.known) is)
