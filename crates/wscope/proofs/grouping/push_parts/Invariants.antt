use Rattle.std.proofs.Common.{◌≡◌, ◌++◌, drop, map}
use Rattle.std.specs.List.{flat_map}
use Rattle.wquery.specs.GroupElements.{view_part}
use Rattle.wscope.specs.Groups.{lent_columns}
use Rattle.wscope.proofs.grouping.push_parts.Given as goal

abbrev pub invariant-parts : goal.invariant-parts
invariant-parts l = lent_columns l.made.items ++ flat_map (λ part. part) (map view_part (drop l.part-index l.parts))
    ≡ lent_columns l.fn.made.items ++ flat_map (λ part. part) (map view_part l.parts)
