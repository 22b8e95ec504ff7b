-- A node's hash with those of the nodes below it.
use Rattle.std.proofs.Common.{◌≡◌, List, refl, ap, sym, ◌∙◌}
use Rattle.std.specs.declared.hash.DefaultHasher.{DefaultHasher}
use Rattle.wquery.specs.Tree.{Tree}
use Rattle.wnodes.specs.Nodes.{found}
use Rattle.wnodes.specs.Children.{children_of, found_all}
use Rattle.wnodes.specs.Heads.{bare}
use Rattle.wnodes.specs.Hashed.{written}
use Rattle.wnodes.specs.Sketch.{behind, sketching}
use Rattle.wnodes.proofs.Beside.{below_all}

-- a node as it is made in memory
pub node_sketched : (t h : Tree) (ts : List Tree) (s : DefaultHasher) → h ≡ bare t → ts ≡ children_of t
    → found_all sketching ts (behind (written h) s) ≡ found sketching t s
node_sketched t h ts s is e =
    let below = below_all sketching (record { left = λ m. refl; right = λ m. refl; three = λ l m n. refl }) t in
    (λ i. found_all sketching (e i) (behind (written (is i)) s))
    ∙ ap (λ (m : DefaultHasher → DefaultHasher). m (behind (written (bare t)) s)) (sym below)
