-- What calls, chains and lists of a query say, part by part.
use Rattle.std.proofs.Common.{◌≡◌, Bool, ap, refl, sym, ◌∙◌, map}
use Rattle.std.specs.declared.alloc.Global.{Global}
use Rattle.std.specs.declared.boxed.Box.{Box}
use Rattle.std.specs.declared.vec.Vec.{Vec}
use Rattle.wquery.specs.declared.expression.ChainKind.{ChainKind}
use Rattle.wquery.specs.declared.expression.Link.{Link}
use Rattle.wquery.specs.declared.expression.Expression.{Expression}
use Rattle.wquery.specs.declared.expression.Expression.TheVariants as queries
use Rattle.wquery.specs.declared.expression.Arguments.TheOpen as layer
use Rattle.wquery.specs.declared.expression.Arguments.TheFolds.{fold-Expression, fold-roll-Expression}
use Rattle.wquery.specs.Tree.{Tree, Given, Reach, KeyTree, Branch, WindowTree, NoLinks, Joined, Among as Contained, trees, views}
use Rattle.wquery.specs.Tree.{linked, view, view_link, arguments_step, expression_step, over_step, call_step, key_step}
use Rattle.wquery.specs.Tree.{link_step, window_step}
pub use Rattle.wquery.proofs.Says.{view_call_is, view_of_call}
use Rattle.wquery.proofs.Says.{in_says}

pub view_of_chain : (kind : ChainKind) (first : Box Expression Global) (links : Vec Link Global)
    → view (queries.Chain kind first links) ≡ Joined kind (view first.value) (linked NoLinks (map view_link links.items))
unfolding view view_link
view_of_chain kind first links = ap (fold-Expression Given Tree Reach Tree KeyTree Branch WindowTree arguments_step
    expression_step over_step call_step key_step link_step window_step) (sym (queries.rolls-Chain kind first links))
    ∙ fold-roll-Expression Given Tree Reach Tree KeyTree Branch WindowTree arguments_step expression_step over_step
    call_step key_step link_step window_step (layer.Chain kind first links)

pub view_of_in : (n : Bool) (x : Box Expression Global) (xs : Vec Expression Global)
    → view (queries.In n x xs) ≡ Contained n (view x.value) (trees (views xs.items))
view_of_in n x xs = in_says n x xs x.value refl
