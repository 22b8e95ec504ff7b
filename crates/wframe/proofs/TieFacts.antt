-- Peers are in the same frames, and have the same.
use Rattle.std.proofs.Common.{◌≡◌, ℕ, Bool, true, false, not, ◌&&◌, List, length, ap, ◌∙◌, refl}
use Rattle.std.specs.Ordering.{is_lt, is_eq}
use Rattle.std.specs.Cmp.{IsTotalOrder}
use Rattle.std.specs.declared.cmp.Ordering.{Ordering}
use Rattle.std.specs.declared.cmp.Ordering.TheVariants.{Less, Equal, Greater}
use Rattle.std.proofs.lemmas.Cmp.{alike_right}
use Rattle.std.proofs.lemmas.List.Elements.{filter_agree}
use Rattle.wvalues.specs.declared.key.SortKey.{SortKey}
use Rattle.wvalues.specs.Meaning.{Meaning}
use Rattle.wvalues.specs.Order.{keys_cmp}
use Rattle.wvalues.specs.OrderLaws.{keys_total}
use Rattle.wframe.specs.declared.frame.FrameMode.{FrameMode}
use Rattle.wframe.specs.declared.frame.FrameMode.TheVariants.{Rows, Range, Groups}
use Rattle.wframe.specs.declared.frame.FrameBound.{FrameBound}
use Rattle.wframe.specs.declared.frame.FrameBound.TheVariants.{UnboundedPreceding, Preceding, CurrentRow, Following, UnboundedFollowing}
use Rattle.wframe.specs.declared.frame.FrameExclusion.{FrameExclusion}
use Rattle.wframe.specs.declared.frame.FrameExclusion.TheVariants as exclusion
use Rattle.wframe.specs.Peers.{key_at, are_peers, distinct, group_number}
use Rattle.wframe.specs.Bounds.{along, against, moved, starts_after, ends_before, key_starts_after, key_ends_before}
use Rattle.wframe.specs.Partition.{Partition}
use Rattle.wframe.specs.Frame.{is_before_start, is_after_end, is_in_extent, is_excluded, is_kept}
use Rattle.wframe.specs.Ties.{takes_groups, leaves_groups, holds_groups}
use Rattle.wframe.proofs.BoundFacts.{along_same, against_same, moved_same}

equal_from : (r : Ordering) → is_eq r ≡ true → r ≡ Equal
equal_from Less h = cc
equal_from Equal h = refl
equal_from Greater h = cc

and_first : (a b : Bool) → (a && b) ≡ true → a ≡ true
and_first true b h = refl
and_first false b h = h

and_second : (a b : Bool) → (a && b) ≡ true → b ≡ true
and_second true b h = h
and_second false b h = cc

module _ {K : Type 0} {R : K → K → Ordering} (o : IsTotalOrder R) where
  -- equals compare alike
  both_alike : (a b c d : K) → R a b ≡ Equal → R c d ≡ Equal → R a c ≡ R b d
  both_alike a b c d h k = o.congr a b c h ∙ alike_right o c d b k

module _ (ks : List SortKey) (a b c d : List Meaning) (h : keys_cmp ks a b ≡ Equal) (k : keys_cmp ks c d ≡ Equal) where
  alike_against : (n : ℕ) → keys_cmp ks (moved against ks n a) (moved against ks n b) ≡ Equal
  alike_against n = moved_same against (λ k m x y. against_same k.desc k.nulls_first k.col m x y) ks n a b ∙ h

  alike_along : (n : ℕ) → keys_cmp ks (moved along ks n a) (moved along ks n b) ≡ Equal
  alike_along n = moved_same along (λ k m x y. along_same k.desc k.nulls_first k.col m x y) ks n a b ∙ h

  start_alike : (bound : FrameBound) → key_starts_after ks bound a c ≡ key_starts_after ks bound b d
  start_alike UnboundedPreceding = refl
  start_alike (Preceding n) = ap is_lt (both_alike (keys_total ks) c d (moved against ks n a) (moved against ks n b) k (alike_against n))
  start_alike CurrentRow = ap is_lt (both_alike (keys_total ks) c d a b k h)
  start_alike (Following n) = ap is_lt (both_alike (keys_total ks) c d (moved along ks n a) (moved along ks n b) k (alike_along n))
  start_alike UnboundedFollowing = refl

  end_alike : (bound : FrameBound) → key_ends_before ks bound a c ≡ key_ends_before ks bound b d
  end_alike UnboundedPreceding = refl
  end_alike (Preceding n) = ap is_lt (both_alike (keys_total ks) (moved against ks n a) (moved against ks n b) c d (alike_against n) k)
  end_alike CurrentRow = ap is_lt (both_alike (keys_total ks) a b c d h k)
  end_alike (Following n) = ap is_lt (both_alike (keys_total ks) (moved along ks n a) (moved along ks n b) c d (alike_along n) k)
  end_alike UnboundedFollowing = refl

module _ (ks : List SortKey) (keys : List (List Meaning)) where
  pub number_alike : (i k : ℕ) → are_peers (keys_cmp ks) keys i k ≡ true → group_number (keys_cmp ks) keys i
      ≡ group_number (keys_cmp ks) keys k
  number_alike i k h =
      ap (λ xs. length (distinct (keys_cmp ks) xs)) (filter_agree (λ key. is_lt (keys_cmp ks key (key_at keys i)))
      (λ key. is_lt (keys_cmp ks key (key_at keys k)))
      (λ key. ap is_lt (alike_right (keys_total ks) (key_at keys i) (key_at keys k) key
      (equal_from (keys_cmp ks (key_at keys i) (key_at keys k)) h))) keys)

  module _ (i k j l : ℕ) (h : are_peers (keys_cmp ks) keys i k ≡ true) (g : are_peers (keys_cmp ks) keys j l ≡ true) where
    hi : keys_cmp ks (key_at keys i) (key_at keys k) ≡ Equal
    hi = equal_from (keys_cmp ks (key_at keys i) (key_at keys k)) h

    gj : keys_cmp ks (key_at keys j) (key_at keys l) ≡ Equal
    gj = equal_from (keys_cmp ks (key_at keys j) (key_at keys l)) g

    pub starts_alike : (mode : FrameMode) (bound : FrameBound) → takes_groups mode ≡ true
        → is_before_start ks keys mode bound i j ≡ is_before_start ks keys mode bound k l
    starts_alike Rows bound t = cc
    starts_alike Range bound t = start_alike ks (key_at keys i) (key_at keys k) (key_at keys j) (key_at keys l) hi gj bound
    starts_alike Groups bound t = ap (λ m. starts_after bound m (group_number (keys_cmp ks) keys j)) (number_alike i k h)
        ∙ ap (starts_after bound (group_number (keys_cmp ks) keys k)) (number_alike j l g)

    pub ends_alike : (mode : FrameMode) (bound : FrameBound) → takes_groups mode ≡ true
        → is_after_end ks keys mode bound i j ≡ is_after_end ks keys mode bound k l
    ends_alike Rows bound t = cc
    ends_alike Range bound t = end_alike ks (key_at keys i) (key_at keys k) (key_at keys j) (key_at keys l) hi gj bound
    ends_alike Groups bound t = ap (λ m. ends_before bound m (group_number (keys_cmp ks) keys j)) (number_alike i k h)
        ∙ ap (ends_before bound (group_number (keys_cmp ks) keys k)) (number_alike j l g)

    pub excluded_alike : (x : FrameExclusion) → leaves_groups x ≡ true
        → is_excluded x i j (are_peers (keys_cmp ks) keys i j) ≡ is_excluded x k l (are_peers (keys_cmp ks) keys k l)
    excluded_alike exclusion.CurrentRow t = cc
    excluded_alike exclusion.Group t = ap is_eq (both_alike (keys_total ks) (key_at keys i) (key_at keys k) (key_at keys j)
        (key_at keys l) hi gj)
    excluded_alike exclusion.Ties t = cc
    excluded_alike exclusion.NoOthers t = refl

pub kept_alike : (p : Partition) (i k j l : ℕ) → holds_groups p.frame ≡ true → are_peers (keys_cmp p.order) p.keys i k
    ≡ true → are_peers (keys_cmp p.order) p.keys j l ≡ true → is_kept p i j ≡ is_kept p k l
kept_alike p i k j l t h g =
    let m = and_first (takes_groups p.frame.mode) (leaves_groups p.frame.exclusion) t in
    let x = and_second (takes_groups p.frame.mode) (leaves_groups p.frame.exclusion) t in
    ap (λ b. (not b && not (is_after_end p.order p.keys p.frame.mode p.frame.end i j))
    && not (is_excluded p.frame.exclusion i j (are_peers (keys_cmp p.order) p.keys i j)))
    (starts_alike p.order p.keys i k j l h g p.frame.mode p.frame.start m)
    ∙ ap (λ b. (not (is_before_start p.order p.keys p.frame.mode p.frame.start k l) && not b)
    && not (is_excluded p.frame.exclusion i j (are_peers (keys_cmp p.order) p.keys i j)))
    (ends_alike p.order p.keys i k j l h g p.frame.mode p.frame.end m)
    ∙ ap (λ b. is_in_extent p k l && not b) (excluded_alike p.order p.keys i k j l h g p.frame.exclusion x)
