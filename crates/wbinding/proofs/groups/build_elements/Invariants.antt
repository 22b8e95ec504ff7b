use Rattle.std.proofs.Common.{◌≡◌, ◌++◌, drop, map}
use Rattle.wquery.specs.GroupElements.{view_element}
use Rattle.wscope.specs.Sources.{all_titled}
use Rattle.wgroupby.specs.Held.{element_in}
use Rattle.wgroupby.specs.Rules.{element_by}
use Rattle.wbinding.specs.Groups.{column_place}
use Rattle.wbinding.proofs.groups.build_elements.Given as goal

abbrev pub invariant-elements : goal.invariant-elements
invariant-elements l = map element_in l.made.items ++ map (element_by (column_place (all_titled l.columns)))
    (map view_element (drop l.element-index l.elements)) ≡ map (element_by (column_place (all_titled l.columns)))
    (map view_element l.elements)
