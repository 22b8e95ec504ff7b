use Rattle.std.proofs.Common.{◌≡◌, drop, map}
use Rattle.std.specs.List.{list_any}
use Rattle.wquery.specs.QueryTree.{view_entry}
use Rattle.wwindows.specs.Limits.{is_long_entry}
use Rattle.wwindows.proofs.limits.any_long_entry.Given as goal

abbrev pub invariant-entries : goal.invariant-entries
invariant-entries l = list_any is_long_entry (map view_entry l.entries) ≡ list_any is_long_entry
    (map view_entry (drop l.entry-index l.entries))
