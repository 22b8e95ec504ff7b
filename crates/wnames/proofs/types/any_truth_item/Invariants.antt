use Rattle.std.proofs.Common.{◌≡◌, drop, map}
use Rattle.std.specs.List.{list_any}
use Rattle.wquery.specs.QueryTree.{view_item}
use Rattle.wscope.specs.Sources.{all_titled}
use Rattle.wnames.specs.Types.{is_truth_item}
use Rattle.wnames.proofs.types.any_truth_item.Given as goal

abbrev pub invariant-items : goal.invariant-items
invariant-items l = list_any (is_truth_item (all_titled l.columns)) (map view_item l.items)
    ≡ list_any (is_truth_item (all_titled l.columns)) (map view_item (drop l.item-index l.items))
