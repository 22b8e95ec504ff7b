-- The nodes right below a node of an expression, and what the nodes come to that stand side by side.
use Rattle.std.specs.Prelude.{ℕ, suc, ◌+◌, List, [], ◌∷◌, ◌++◌, map}
use Rattle.wquery.specs.Tree.{Tree, Branch, Reach, trees, keys, views, view_keys, view_link}
use Rattle.wnodes.specs.Nodes.{Findings, found, found_below, found_trees, found_reach, found_keys}
use Rattle.wnodes.specs.declared.children.Children.{Children}

-- each node for itself, what stands below it left out
abbrev pub standing : Findings (List Tree)
standing = record { none = []; both = λ xs ys. xs ++ ys; at = λ t below. t ∷ [] }

-- the nodes right below a node
abbrev pub children_of : Tree → List Tree
children_of t = found_below standing t

-- the expressions of a window
abbrev pub children_in : Reach → List Tree
children_in reach = found_reach standing reach

-- what nodes come to that stand side by side
abbrev pub found_all {ℓ} : {M : Type ℓ} → Findings M → List Tree → M
found_all f [] = f.none
found_all f (t ∷ ts) = f.both (found f t) (found_all f ts)

-- how many nodes an expression has
abbrev pub sizing : Findings ℕ
sizing = record { none = 0; both = λ m n. m + n; at = λ t below. suc below }

-- the operands of links
abbrev pub operands : List Branch → List Tree
operands bs = map (λ (b : Branch). b.operand) bs

-- the nodes of expressions that stand side by side, those below them left out
abbrev pub standing_in : List Tree → List Tree
standing_in ts = found_trees standing (trees ts)

-- the nodes that stand side by side in memory
unfoldable pub nodes_left : Children → List Tree
nodes_left c = standing_in (views c.first.now) ++ (standing_in (views c.second.now) ++ (standing_in (views c.third.now)
    ++ (operands (map view_link c.links.now) ++ found_keys standing (keys (view_keys c.keys.now)))))
