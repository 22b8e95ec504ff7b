use Rattle.std.proofs.Common.{◌≡◌, drop, map}
use Rattle.wquery.specs.QueryTree.{view_entry}
use Rattle.wscope.specs.Windows.{named_windows}
use Rattle.wwindows.specs.Windows.{some_entry_after, copies_unknown}
use Rattle.wwindows.proofs.windows.any_entry_unknown.Given as goal

abbrev pub invariant-entries : goal.invariant-entries
invariant-entries l = (l.place ≡ l.entry-index)
    × (some_entry_after (named_windows l.windows.entries.items) 0 copies_unknown (map view_entry l.entries)
    ≡ some_entry_after (named_windows l.windows.entries.items) l.place copies_unknown (map view_entry (drop l.entry-index l.entries)))
