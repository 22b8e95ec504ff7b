-- Orders the other way round, and lists of one key.
use Rattle.std.proofs.Common.{◌≡◌, ℕ, List, [], ◌∷◌, sym, ap, ◌∙◌, refl}
use Rattle.std.specs.Ordering.{is_lt, is_gt, ordering_reverse, ordering_then}
use Rattle.std.specs.Cmp.{IsTotalOrder}
use Rattle.std.specs.declared.cmp.Ordering.{Ordering}
use Rattle.std.specs.declared.cmp.Ordering.TheVariants.{Less, Equal, Greater}
use Rattle.wvalues.specs.declared.key.SortKey.{SortKey}
use Rattle.std.specs.Borrow.{Bor}
use Rattle.wvalues.specs.declared.value.Value.{Value}
use Rattle.wvalues.specs.Meaning.{Meaning, meaning}
use Rattle.wvalues.specs.Order.{key_cmp, keys_cmp}
use Rattle.wframe.specs.Bounds.{moved}
use Rattle.wframe.specs.Cells.{meanings}

gt_reverse : (o : Ordering) → is_gt o ≡ is_lt (ordering_reverse o)
gt_reverse Less = refl
gt_reverse Equal = refl
gt_reverse Greater = refl

-- to be greater is to have the other one less
pub gt_is_lt : {K : Type 0} {R : K → K → Ordering} (o : IsTotalOrder R) → (x y : K) → is_gt (R x y) ≡ is_lt (R y x)
gt_is_lt {R = R} o x y = gt_reverse (R x y) ∙ ap is_lt (sym (o.antisymm y x))

then_equal : (o : Ordering) → ordering_then o Equal ≡ o
then_equal Less = refl
then_equal Equal = refl
then_equal Greater = refl

-- what is compared of lists of one
pub one_key : (move : SortKey → ℕ → Meaning → Meaning) (n : ℕ) (k : SortKey) (x y : Bor Value) (ks : List SortKey)
    (xs ys : List (Bor Value)) → ks ≡ k ∷ [] → xs ≡ x ∷ [] → ys ≡ y ∷ []
    → key_cmp k (meaning x.now) (move k n (meaning y.now)) ≡ keys_cmp ks (meanings xs) (moved move ks n (meanings ys))
one_key move n k x y ks xs ys e f h = rw (e, f, h) (sym (then_equal (key_cmp k (meaning x.now) (move k n (meaning y.now)))))
