-- Lists of expressions, as they are made.
use Rattle.std.proofs.Common.{◌≡◌, List, [], ◌∷◌, refl, ap, map}
use Rattle.wquery.specs.Tree.{Tree, trees}
use Rattle.wplan.specs.Formula.{Formula}
use Rattle.wbinding.specs.Resolving.{Layout, resolved}
use Rattle.wresolve.specs.Selecting.{trees_made}

pub trees_made_map : (l : Layout) (ts : List Tree) → trees_made l (trees ts) ≡ map (resolved l) ts
trees_made_map l [] = refl
trees_made_map l (t ∷ ts) = ap (λ (fs : List Formula). resolved l t ∷ fs) (trees_made_map l ts)
