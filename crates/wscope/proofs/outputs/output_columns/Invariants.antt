use Rattle.std.proofs.Common.{◌≡◌, ◌++◌, drop, map}
use Rattle.wquery.specs.QueryTree.{view_item}
use Rattle.wscope.specs.Sources.{all_titled, answered}
use Rattle.wscope.proofs.outputs.output_columns.Given as goal

abbrev pub invariant-items : goal.invariant-items
invariant-items l = all_titled l.made.items ++ answered (all_titled l.columns) (map view_item (drop l.item-index l.items))
    ≡ answered (all_titled l.columns) (map view_item l.items)
