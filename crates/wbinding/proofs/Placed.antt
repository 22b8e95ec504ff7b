-- What stands at a place of a list, and the place of what stands there.
use Rattle.std.proofs.Common.{◌≡◌, ℕ, zero, suc, ◌<◌, ◌≤◌, ◌+◌, Bool, true, false, List}
use Rattle.std.proofs.Common.{[], ◌∷◌, ◌++◌, length, get_or, refl, ap, sym, ◌∙◌, arith}
use Rattle.std.specs.Prelude.{if◌then◌else◌}
use Rattle.wquery.specs.declared.expression.Expression.{Expression}
use Rattle.wquery.specs.Tree.{Tree, NullWord, view, views, trees}
use Rattle.wnodes.specs.Sameness.{is_same}
use Rattle.wdistinct.specs.Places.{place_of_same}
use Rattle.wbinding.specs.Functions.{tree_at}

pub tree_at_past : (es : List Expression) (n : ℕ) → length es ≤ n → tree_at n (trees (views es)) ≡ NullWord
tree_at_past [] n h = refl
tree_at_past (e ∷ es) zero h = absurd (omega arith)
tree_at_past (e ∷ es) (suc n) h = tree_at_past es n (omega arith)

pub tree_at_here : (es : List Expression) (n : ℕ) (e : Expression) → n < length es → e ≡ get_or es n e
    → tree_at n (trees (views es)) ≡ view e
tree_at_here [] n e h is = absurd (omega arith)
tree_at_here (x ∷ xs) zero e h is = ap view (sym is)
tree_at_here (x ∷ xs) (suc n) e h is = tree_at_here xs n e (omega arith) is

in_first : (us ws : List Tree) (t : Tree) → place_of_same us t < length us → place_of_same us t ≡ place_of_same (us ++ ws) t
in_first [] ws t h = absurd (omega arith)
in_first (u ∷ us) ws t h = by (is_same u t) h (in_first us ws t)
  where
    by : (b : Bool) → (if b then 0 else suc (place_of_same us t)) < suc (length us)
        → (place_of_same us t < length us → place_of_same us t ≡ place_of_same (us ++ ws) t)
        → (if b then 0 else suc (place_of_same us t)) ≡ (if b then 0 else suc (place_of_same (us ++ ws) t))
    by true k rest = refl
    by false k rest = ap suc (rest (omega arith))

behind : (us ws : List Tree) (t : Tree) → length us ≤ place_of_same us t → place_of_same us t + place_of_same ws t
    ≡ place_of_same (us ++ ws) t
behind [] ws t h = omega arith
behind (u ∷ us) ws t h = by (is_same u t) h (behind us ws t)
  where
    by : (b : Bool) → suc (length us) ≤ (if b then 0 else suc (place_of_same us t))
        → (length us ≤ place_of_same us t → place_of_same us t + place_of_same ws t ≡ place_of_same (us ++ ws) t)
        → (if b then 0 else suc (place_of_same us t)) + place_of_same ws t ≡ (if b then 0 else suc (place_of_same (us ++ ws) t))
    by true k rest = absurd (omega arith)
    by false k rest =
        let e : place_of_same us t + place_of_same ws t ≡ place_of_same (us ++ ws) t = rest (omega arith) in
        omega arith

-- the place of an expression of the first of two lists, and of one behind it
pub place_in_first : (us ws : List Tree) (t : Tree) (n len : ℕ) → n ≡ place_of_same us t → len ≡ length us → n < len
    → n ≡ place_of_same (us ++ ws) t
place_in_first us ws t n len is all h = is ∙ in_first us ws t (omega arith)

pub place_behind : (us ws : List Tree) (t : Tree) (n m len : ℕ) → n ≡ place_of_same us t → m ≡ place_of_same ws t
    → len ≡ length us → len ≤ n → n + m ≡ place_of_same (us ++ ws) t
place_behind us ws t n m len is rest all h =
    let e : place_of_same us t + place_of_same ws t ≡ place_of_same (us ++ ws) t = behind us ws t (omega arith) in
    omega arith
