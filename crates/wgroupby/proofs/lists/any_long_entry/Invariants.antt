use Rattle.std.proofs.Common.{◌≡◌, drop, map}
use Rattle.std.specs.List.{list_any}
use Rattle.wquery.specs.GroupElements.{view_group_entry}
use Rattle.wgroupby.specs.Rules.{is_entry_long}
use Rattle.wgroupby.proofs.lists.any_long_entry.Given as goal

abbrev pub invariant-entries : goal.invariant-entries
invariant-entries l = list_any is_entry_long (map view_group_entry l.entries) ≡ list_any is_entry_long
    (map view_group_entry (drop l.entry-index l.entries))
