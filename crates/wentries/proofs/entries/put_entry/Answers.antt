use Rattle.std.proofs.Common.{◌∙◌, ap}
use Rattle.wentries.specs.Entries.{known_entries}
use Rattle.wentries.proofs.Finding.{place_put_named, gap_put}
use Rattle.wentries.proofs.entries.put_entry.Goals as goal

pub returns-in-Ok-clause-ok : goal.returns-in-Ok-clause-ok
returns-in-Ok-clause-ok c =
    place_put_named c.args.entries.now.items c.args.name _ c.args.held _ c.in-Ok.i c.index_mut-entry.result.now
    (rw c.deref.ensures.value at c.in-Ok.ensures.found) c.index_mut-entry.ensures.value

pub returns-in_ok-insert-in-Err-clause-ok : goal.returns-in_ok-insert-in-Err-clause-ok
returns-in_ok-insert-in-Err-clause-ok c =
    ap known_entries c.in_ok-insert-in-Err.ensures.items ∙ gap_put c.args.entries.now.items _ c.in-Err.i
    (rw c.deref.ensures.value at c.in-Err.ensures.absent)
