use Rattle.std.proofs.Common.{map, refl, ◌∙◌, sym}
use Rattle.wquery.specs.Tree.{view_link}
use Rattle.wnodes.proofs.Equal.{ends}
use Rattle.wnodes.proofs.Fronts.{marks_from_front, same_marks}
use Rattle.wnodes.proofs.marks.same_operators.Goals as goal

pub links-init : goal.links-init
links-init c = (refl, marks_from_front (map view_link c.args.a.now) (map view_link c.args.b.now))

pub returns : goal.returns
returns c =
    ends (λ xs ys. same_marks (map view_link xs) (map view_link ys)) refl (λ y ys. refl) c.args.a.now c.args.b.now
    c.links.x-index c.links.place c.links-test.false c.links.invariant.0 ∙ sym c.links.invariant.1
