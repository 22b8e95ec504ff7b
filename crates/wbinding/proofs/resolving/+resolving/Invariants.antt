use Rattle.std.proofs.Common.{◌≡◌, ◌++◌, drop, map}
use Rattle.wquery.specs.Tree.{view_link, views}
use Rattle.wplan.specs.Formula.{operand_of, formula}
use Rattle.wbinding.specs.Resolving.{branch_made, resolved}
use Rattle.wbinding.specs.Resolving.{layout_of}
use Rattle.wbinding.proofs.resolving.+resolving.Given as goal

abbrev pub invariant-build_links-links : goal.invariant-build_links-links
invariant-build_links-links l = map operand_of l.made.items ++ map (branch_made (layout_of l.layout))
    (map view_link (drop l.link-index l.links)) ≡ map (branch_made (layout_of l.layout)) (map view_link l.links)

abbrev pub invariant-build_listed-list : goal.invariant-build_listed-list
invariant-build_listed-list l = map formula l.made.items ++ map (resolved (layout_of l.layout))
    (views (drop l.e-index l.list)) ≡ map (resolved (layout_of l.layout)) (views l.list)
