-- Facts of `||`, and what the operand of a link says.
use Rattle.std.proofs.Common.{◌≡◌, Bool, true, false, ◌||◌, refl, ap}
use Rattle.wquery.specs.declared.expression.Link.{Link}
use Rattle.wquery.specs.declared.expression.Arguments.TheFolds.{fold_out-Link}
use Rattle.wquery.specs.Tree.{Tree, Given, Reach, KeyTree, Branch, WindowTree, view, view_link, arguments_step}
use Rattle.wquery.specs.Tree.{expression_step, over_step, call_step, key_step, link_step, window_step}

pub or_false : (a : Bool) → a || false ≡ a
or_false true = refl
or_false false = refl

pub or_assoc : (a b c : Bool) → (a || b) || c ≡ a || (b || c)
or_assoc true b c = refl
or_assoc false b c = refl

pub link_operand : (l : Link) → (view_link l).operand ≡ view l.operand
unfolding view_link view
link_operand l = ap (λ (b : Branch). b.operand) (fold_out-Link Given Tree Reach Tree KeyTree Branch WindowTree
    arguments_step expression_step over_step call_step key_step link_step window_step l)
