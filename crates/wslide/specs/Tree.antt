-- The levels of a tree of joins.
use Rattle.std.specs.Prelude.{◌≡◌, ℕ, ◌+◌, ◌≤◌, ◌^◌, List, [], ◌∷◌, length, All, vec_len}
use Rattle.std.specs.declared.vec.Vec.{Vec}
use Rattle.std.specs.declared.alloc.Global.{Global}
use Rattle.wslide.specs.declared.tree.FoldTree.{FoldTree}

-- each two neighbors joined. A last one that has no partner is left out
abbrev pub paired : {P : Type 0} → (P → P → P) → List P → List P
paired joined [] = []
paired joined (x ∷ []) = []
paired joined (x ∷ y ∷ zs) = joined x y ∷ paired joined zs

-- the lowest of these levels, or nothing
abbrev pub lowest : {P : Type 0} → List (Vec P Global) → List P
lowest [] = []
lowest (level ∷ levels) = level.items

-- the first level is `base`, each next one has the pairs of the one below, and the pairs of the last are `top`
abbrev pub Climbs : {P : Type 0} → (P → P → P) → List P → List (Vec P Global) → List P → Type 0
Climbs joined base [] top = base ≡ top
Climbs joined base (level ∷ levels) top = (level.items ≡ base) × Climbs joined (paired joined base) levels top

-- the parts that a tree was built of
abbrev pub tree_parts : {P : Type 0} → FoldTree P → List P
tree_parts t = lowest t.levels.items

-- the tree was built by this fold
pub record IsBuiltBy {P : Type 0} (is_part : P → Type 0) (joined : P → P → P) (t : FoldTree P) : Type 0 where
  pub parts : All is_part (tree_parts t)
  pub climbs : Climbs joined (tree_parts t) t.levels.items []
  pub low : (height : ℕ) → length (tree_parts t) ≤ 2 ^ height → vec_len t.levels ≤ height + 1
