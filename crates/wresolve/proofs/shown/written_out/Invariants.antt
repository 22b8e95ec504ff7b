use Rattle.std.proofs.Common.{◌≡◌, ◌++◌, drop, map}
use Rattle.wquery.specs.QueryTree.{view_item}
use Rattle.wscope.specs.Sources.{all_titled, written_out}
use Rattle.wresolve.specs.Shown.{shown_items}
use Rattle.wresolve.proofs.shown.written_out.Given as goal

abbrev pub invariant-items : goal.invariant-items
invariant-items l = shown_items l.shown.items ++ written_out (all_titled l.columns)
    (map view_item (drop l.item-index l.items)) ≡ written_out (all_titled l.columns) (map view_item l.items)
