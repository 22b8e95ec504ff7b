use Rattle.std.proofs.Common.{◌≡◌, drop, map}
use Rattle.std.specs.List.{list_any}
use Rattle.wquery.specs.QueryTree.{view_item}
use Rattle.wscope.specs.Called.{is_star}
use Rattle.wnames.proofs.groups.has_star.Given as goal

abbrev pub invariant-items : goal.invariant-items
invariant-items l = list_any is_star (map view_item l.items) ≡ list_any is_star (map view_item (drop l.item-index l.items))
