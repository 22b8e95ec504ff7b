use Rattle.std.proofs.Common.{◌≡◌, ◌++◌, drop, map}
use Rattle.wquery.specs.GroupElements.{view_group_entry}
use Rattle.wscope.specs.Sources.{all_titled}
use Rattle.wgroupby.specs.Held.{entry_in}
use Rattle.wgroupby.specs.Rules.{entry_by}
use Rattle.wbinding.specs.Groups.{column_place}
use Rattle.wbinding.proofs.groups.build_entries.Given as goal

abbrev pub invariant-entries : goal.invariant-entries
invariant-entries l = map entry_in l.made.items ++ map (entry_by (column_place (all_titled l.columns)))
    (map view_group_entry (drop l.entry-index l.entries)) ≡ map (entry_by (column_place (all_titled l.columns)))
    (map view_group_entry l.entries)
