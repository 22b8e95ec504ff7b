use Rattle.std.proofs.Common.{◌∙◌, ◌+◌, ℕ, List, ap, map, string_bytes, sym, take}
use Rattle.wfolder.specs.Memory.{leading_of, new_names}
use Rattle.wfolder.specs.declared.disk.Entry.{Entry}
use Rattle.wfolder.proofs.Memory.{names_more}
use Rattle.wfolder.proofs.disk.Disk.names.Goals as goal

pub loop-entry-preserved : goal.loop-entry-preserved
loop-entry-preserved c =
    let told : List Entry → List (List ℕ) = λ es. new_names c.args.folder.now (map leading_of es) in
    names_more c.args.folder.now c.deref-entry-items.result.now c.loop-entry.entry-index c.entry-item.result
    (map string_bytes c.loop-entry.names.items) (map string_bytes c.push_name.new.names.items) c.loop-entry-test.true c.entry-item.is
    (c.loop-entry.invariant ∙ ap (λ es. told (take c.loop-entry.entry-index es)) (sym c.deref-entry-items.ensures.value))
    c.in_ok-push_name.ensures
    ∙ ap (λ es. told (take (c.loop-entry.entry-index + 1) es)) c.deref-entry-items.ensures.value
