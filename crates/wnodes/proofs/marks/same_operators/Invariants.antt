use Rattle.std.proofs.Common.{◌≡◌, drop, map}
use Rattle.wquery.specs.Tree.{view_link}
use Rattle.wnodes.specs.Sameness.{are_same_links}
use Rattle.wnodes.specs.Heads.{said_links}
use Rattle.wnodes.proofs.Fronts.{same_marks}
use Rattle.wnodes.proofs.marks.same_operators.Given as goal

abbrev pub invariant-links : goal.invariant-links
invariant-links l = (l.place ≡ l.x-index) × (are_same_links (said_links l.a) (said_links l.b)
    ≡ same_marks (map view_link (drop l.x-index l.a)) (map view_link (drop l.x-index l.b)))
