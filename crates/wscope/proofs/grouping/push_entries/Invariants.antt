use Rattle.std.proofs.Common.{◌≡◌, ◌++◌, drop, map}
use Rattle.std.specs.List.{flat_map}
use Rattle.wquery.specs.GroupElements.{entry_columns, view_group_entry}
use Rattle.wscope.specs.Groups.{lent_columns}
use Rattle.wscope.proofs.grouping.push_entries.Given as goal

abbrev pub invariant-entries : goal.invariant-entries
invariant-entries l = lent_columns l.made.items ++ flat_map entry_columns
    (map view_group_entry (drop l.entry-index l.entries)) ≡ lent_columns l.fn.made.items ++ flat_map entry_columns
    (map view_group_entry l.entries)
