use Rattle.std.proofs.Common.{◌≡◌, ◌++◌, drop, map}
use Rattle.wquery.specs.GroupElements.{view_part}
use Rattle.wscope.specs.Sources.{all_titled}
use Rattle.wgroupby.specs.Held.{lists_in}
use Rattle.wbinding.specs.Groups.{column_place}
use Rattle.wbinding.proofs.groups.places_of_parts.Given as goal

abbrev pub invariant-parts : goal.invariant-parts
invariant-parts l = lists_in l.made.items ++ map (map (column_place (all_titled l.columns)))
    (map view_part (drop l.part-index l.parts)) ≡ map (map (column_place (all_titled l.columns))) (map view_part l.parts)
