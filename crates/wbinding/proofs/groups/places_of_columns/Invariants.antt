use Rattle.std.proofs.Common.{◌≡◌, ◌++◌, drop, map}
use Rattle.wquery.specs.Tree.{view_column}
use Rattle.wscope.specs.Sources.{all_titled}
use Rattle.wbinding.specs.Groups.{column_place}
use Rattle.wbinding.proofs.groups.places_of_columns.Given as goal

abbrev pub invariant-list : goal.invariant-list
invariant-list l = l.places.items ++ map (column_place (all_titled l.columns))
    (map view_column (drop l.column-index l.list)) ≡ map (column_place (all_titled l.columns)) (map view_column l.list)
