-- Lists of a window, counted, and the windows before a place.
use Rattle.std.proofs.Common.{◌≡◌, suc, ◌==◌, false, not, List, [], ◌∷◌, length, refl, ap}
use Rattle.std.proofs.Math.Dec.{eqb-suc-zero}
use Rattle.wquery.specs.declared.expression.Expression.{Expression}
use Rattle.wquery.specs.declared.expression.Key.{Key}
use Rattle.wquery.specs.Tree.{trees, views, keys, view_keys}
use Rattle.wnodes.specs.Nodes.{count_trees, count_keys}
use Rattle.wscope.specs.Types.{Titled}
use Rattle.wwindows.specs.Windows.{has_keys, has_trees, has_range_key}

pub trees_counted : (xs : List Expression) → count_trees (trees (views xs)) ≡ length xs
trees_counted [] = refl
trees_counted (x ∷ xs) = ap suc (trees_counted xs)

pub keys_counted : (xs : List Key) → count_keys (keys (view_keys xs)) ≡ length xs
keys_counted [] = refl
keys_counted (x ∷ xs) = ap suc (keys_counted xs)

pub no_keys : (xs : List Key) → (length xs == 0) ≡ not (has_keys (keys (view_keys xs)))
no_keys [] = refl
no_keys (x ∷ xs) = eqb-suc-zero (length xs)

pub some_trees : (xs : List Expression) → not (length xs == 0) ≡ has_trees (trees (views xs))
some_trees [] = refl
some_trees (x ∷ xs) = ap not (eqb-suc-zero (length xs))

pub other_count : (cs : List Titled) (xs : List Key) → (length xs ≡ 1 → ⊥) → has_range_key cs (keys (view_keys xs)) ≡ false
other_count cs [] h = refl
other_count cs (x ∷ []) h = absurd (h refl)
other_count cs (x ∷ y ∷ xs) h = refl
