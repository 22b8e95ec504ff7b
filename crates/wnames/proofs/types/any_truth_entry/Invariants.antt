use Rattle.std.proofs.Common.{◌≡◌, drop, map}
use Rattle.std.specs.List.{list_any}
use Rattle.wquery.specs.QueryTree.{view_entry}
use Rattle.wscope.specs.Sources.{all_titled}
use Rattle.wnames.specs.Types.{is_truth_entry}
use Rattle.wnames.proofs.types.any_truth_entry.Given as goal

abbrev pub invariant-entries : goal.invariant-entries
invariant-entries l = list_any (is_truth_entry (all_titled l.columns)) (map view_entry l.entries)
    ≡ list_any (is_truth_entry (all_titled l.columns)) (map view_entry (drop l.entry-index l.entries))
