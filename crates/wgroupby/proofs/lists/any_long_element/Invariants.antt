use Rattle.std.proofs.Common.{◌≡◌, drop, map}
use Rattle.std.specs.List.{list_any}
use Rattle.wquery.specs.GroupElements.{view_element}
use Rattle.wgroupby.specs.Rules.{is_element_long}
use Rattle.wgroupby.proofs.lists.any_long_element.Given as goal

abbrev pub invariant-elements : goal.invariant-elements
invariant-elements l = list_any is_element_long (map view_element l.elements) ≡ list_any is_element_long
    (map view_element (drop l.element-index l.elements))
