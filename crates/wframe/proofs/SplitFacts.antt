-- An order by two lists of keys as one.
use Rattle.std.proofs.Common.{◌≡◌, ℕ, ◌≤◌, ◌<◌, true, false, List, [], ◌∷◌, ◌++◌, length, sym, ap, ◌∙◌, refl, arith}
use Rattle.std.specs.Ordering.{is_gt, is_eq, ordering_then}
use Rattle.std.specs.declared.cmp.Ordering.{Ordering}
use Rattle.std.specs.declared.cmp.Ordering.TheVariants.{Less, Equal, Greater}
use Rattle.wvalues.specs.declared.key.SortKey.{SortKey}
use Rattle.wvalues.specs.Meaning.{Meaning}
use Rattle.wvalues.specs.Order.{key_cmp, keys_cmp}
use Rattle.wframe.specs.Peers.{key_at, AreOrdered, AreOrderedWithin}

then_assoc : (r s t : Ordering) → ordering_then r (ordering_then s t) ≡ ordering_then (ordering_then r s) t
then_assoc Less s t = refl
then_assoc Equal s t = refl
then_assoc Greater s t = refl

keys_split : (vs ks : List SortKey) (a b c d : List Meaning) → length a ≡ length vs → length c ≡ length vs
    → keys_cmp (vs ++ ks) (a ++ b) (c ++ d) ≡ ordering_then (keys_cmp vs a c) (keys_cmp ks b d)
keys_split [] ks [] b [] d h g = refl
keys_split [] ks (x ∷ a) b c d h g = absurd (omega (arith, h))
keys_split [] ks [] b (y ∷ c) d h g = absurd (omega (arith, g))
keys_split (v ∷ vs) ks [] b c d h g = absurd (omega (arith, h))
keys_split (v ∷ vs) ks (x ∷ a) b [] d h g = absurd (omega (arith, g))
keys_split (v ∷ vs) ks (x ∷ a) b (y ∷ c) d h g =
    let ha : length a ≡ length vs = omega (arith, h) in
    let gc : length c ≡ length vs = omega (arith, g) in
    ap (ordering_then (key_cmp v x y)) (keys_split vs ks a b c d ha gc) ∙ then_assoc (key_cmp v x y) (keys_cmp vs a c) (keys_cmp ks b d)

first_gt : (r s : Ordering) → is_gt (ordering_then r s) ≡ false → is_gt r ≡ false
first_gt Less s h = refl
first_gt Equal s h = refl
first_gt Greater s h = h

second_gt : (r s : Ordering) → is_gt (ordering_then r s) ≡ false → is_eq r ≡ true → is_gt s ≡ false
second_gt Less s h e = cc
second_gt Equal s h e = h
second_gt Greater s h e = cc

module _ (vs ks : List SortKey) (all values keys : List (List Meaning)) (rows : (i : ℕ) → i < length all
    → key_at all i ≡ key_at values i ++ key_at keys i) (wide : (i : ℕ) → i < length all
    → length (key_at values i) ≡ length vs) (ordered : AreOrdered (keys_cmp (vs ++ ks)) all) where
  both : (i j : ℕ) → i ≤ j → j < length all
      → is_gt (ordering_then (keys_cmp vs (key_at values i) (key_at values j)) (keys_cmp ks (key_at keys i) (key_at keys j))) ≡ false
  both i j l h =
      let hi : i < length all = omega arith in
      ap is_gt (sym (keys_split vs ks (key_at values i) (key_at keys i) (key_at values j) (key_at keys j) (wide i hi) (wide j h)))
      ∙ ap (λ x. is_gt (keys_cmp (vs ++ ks) x (key_at values j ++ key_at keys j))) (sym (rows i hi))
      ∙ ap (λ y. is_gt (keys_cmp (vs ++ ks) (key_at all i) y)) (sym (rows j h))
      ∙ ordered i j l h

  pub split_values : length all ≡ length values → AreOrdered (keys_cmp vs) values
  split_values n i j l h = first_gt (keys_cmp vs (key_at values i) (key_at values j))
      (keys_cmp ks (key_at keys i) (key_at keys j)) (both i j l (omega arith))

  pub split_keys : length all ≡ length keys → AreOrderedWithin (keys_cmp vs) values (keys_cmp ks) keys
  split_keys n i j l h e = second_gt (keys_cmp vs (key_at values i) (key_at values j))
      (keys_cmp ks (key_at keys i) (key_at keys j)) (both i j l (omega arith)) e
