use Rattle.std.proofs.Common.{◌≡◌, drop, map}
use Rattle.std.specs.List.{list_any}
use Rattle.wquery.specs.GroupElements.{view_part}
use Rattle.wgroupby.specs.Rules.{is_long}
use Rattle.wgroupby.proofs.lists.any_long_part.Given as goal

abbrev pub invariant-parts : goal.invariant-parts
invariant-parts l = list_any is_long (map view_part l.parts) ≡ list_any is_long (map view_part (drop l.part-index l.parts))
