-- Partitions one after another.
use Rattle.std.proofs.Common.{◌≡◌, ℕ, ◌+◌, ◌-◌, ◌<◌, ◌≤◌, ◌⊎◌, inl, inr, true, false, not, List, []}
use Rattle.std.proofs.Common.{◌∷◌, ◌++◌, length, drop, get_or, sym, ap, ◌∙◌, refl, arith, subst}
use Rattle.std.specs.Ordering.{is_lt, is_gt, is_eq}
use Rattle.std.specs.Cmp.{IsTotalOrder}
use Rattle.std.specs.declared.cmp.Ordering.{Ordering}
use Rattle.std.specs.declared.cmp.Ordering.TheVariants.{Less, Equal, Greater}
use Rattle.wvalues.specs.Meaning.{Meaning}
use Rattle.wframe.specs.declared.frame.Span.{Span}
use borrow.Author.Count.{below_more}
use Rattle.std.specs.Prelude.{slice_range}
use Rattle.std.proofs.lemmas.Bool.Decides.{nat_tests}
use Rattle.std.proofs.lemmas.List.{get_or_push, get_or_append_left, get_or-take, get_or-drop, length-take, length-drop}
use Rattle.wframe.specs.Partitions.{IsPartition}
use Rattle.wframe.specs.Places.{Tiles, is_in_span}
use Rattle.wframe.specs.Peers.{key_at, AreOrdered, AreOrderedWithin, is_before, is_upto}
use Rattle.wframe.specs.Cuts.{CutsAt}
use Rattle.wframe.specs.PeerGroups.{HoldsEnd}
use Rattle.std.proofs.lemmas.Bool.{cases_lt}
use Rattle.wframe.proofs.CutFacts.{upto_lt, cut_found, end_cut}
use Rattle.wframe.proofs.OrderFacts.{gt_is_lt}

pub Tiles-push : (low mid : ℕ) (ss : List Span) (s : Span) → Tiles low ss mid → s.from ≡ mid → s.from < s.to → Tiles low (ss ++ s ∷ []) s.to
Tiles-push low mid [] s t e l = (e ∙ sym t, l, refl)
Tiles-push low mid (r ∷ rs) s t e l = (t.0, t.1, Tiles-push r.to mid rs s t.2 e l)

not_lt : (r : Ordering) → not (is_lt r) ≡ false → is_lt r ≡ true
not_lt Less h = refl
not_lt Equal h = cc
not_lt Greater h = cc

lt_not : (r : Ordering) → is_lt r ≡ false → not (is_lt r) ≡ true
lt_not Less h = cc
lt_not Equal h = refl
lt_not Greater h = refl

module _ {R : List Meaning → List Meaning → Ordering} (o : IsTotalOrder R) (keys : List (List Meaning)) (ordered : AreOrdered R keys) where
  -- rows up to a row that is no greater are not after its peers
  pub first_upto : (first : ℕ) → first < length keys → (j : ℕ) → j < first + 1 → is_upto R keys first j ≡ true
  first_upto first h j l = lt_not (R (key_at keys first) (key_at keys j))
      (sym (gt_is_lt o (key_at keys j) (key_at keys first)) ∙ ordered j first (omega arith) h)

  -- a row that is not equal to an earlier one is after its peers
  pub not_upto : (first place : ℕ) → first < place → place < length keys → is_eq (R (key_at keys first) (key_at keys place))
      ≡ false → is_upto R keys first place ≡ false
  not_upto first place l h other = by (R (key_at keys first) (key_at keys place)) (ordered first place (omega arith) h) other
    where
      by : (r : Ordering) → is_gt r ≡ false → is_eq r ≡ false → not (is_lt r) ≡ false
      by Less g e = refl
      by Equal g e = cc
      by Greater g e = cc

  pub end_found : (first place : ℕ) → first < length keys → place < length keys
      → ((j : ℕ) → j < place → is_upto R keys first j ≡ true) → is_upto R keys first place ≡ false
      → CutsAt (length keys) (is_upto R keys first) place
  end_found first place hf hp before here =
      cut_found (length keys) (is_upto R keys) first place (end_cut o (length keys) (key_at keys) (key_at keys) ordered
      ordered) hf hp before here

  -- a row that is equal to another one is not after its peers
  pub equal_upto : (first place : ℕ) → is_eq (R (key_at keys first) (key_at keys place)) ≡ true → is_upto R keys first place ≡ true
  equal_upto first place same = by (R (key_at keys first) (key_at keys place)) same
    where
      by : (r : Ordering) → is_eq r ≡ true → not (is_lt r) ≡ true
      by Less e = cc
      by Equal e = refl
      by Greater e = cc

  -- where no place lies between, the end is found
  pub held_end : (first : ℕ) (s : Span) → first < length keys → HoldsEnd R keys first s → s.to ≤ s.from + 1
      → CutsAt (length keys) (is_upto R keys first) s.to
  held_end first s hf held near = by (cases_lt s.to (length keys))
    where
      before : (j : ℕ) → j < s.to → is_upto R keys first j ≡ true
      before j l = let within = held.within in let some = held.some in
          (end_cut o (length keys) (key_at keys) (key_at keys) ordered ordered).down first j s.from hf
          (omega (arith, near, l)) (omega (arith, within, some)) held.passed

      by : (s.to < length keys) ⊎ (length keys ≤ s.to) → CutsAt (length keys) (is_upto R keys first) s.to
      by (inl h) = end_found first s.to hf h before (held.others h)
      by (inr h) = record { within = held.within; passed = before; others = λ j l k. absurd (omega (arith, h, l, k)) }

  -- where the peers of one row end, those of the next begin
  pub next_before : (i c : ℕ) → i < length keys → CutsAt (length keys) (is_upto R keys i) c → c < length keys
      → CutsAt (length keys) (is_before R keys c) c
  next_before i c hi at hc = record {
    within = omega arith;
    passed = λ j l. upto_lt o (key_at keys j) (key_at keys i) (key_at keys c) (gt_is_lt o (key_at keys j) (key_at keys i)
        ∙ upto (R (key_at keys i) (key_at keys j)) (at.passed j l)) (not_lt (R (key_at keys i) (key_at keys c))
        (at.others c (omega arith) hc));
    others = λ j l h. sym (gt_is_lt o (key_at keys c) (key_at keys j)) ∙ ordered c j l h;
  }
    where
      upto : (r : Ordering) → not (is_lt r) ≡ true → is_lt r ≡ false
      upto Less h = cc
      upto Equal h = refl
      upto Greater h = refl

  -- nothing stands before the first row
  pub none_before : 0 < length keys → CutsAt (length keys) (is_before R keys 0) 0
  none_before h = record {
    within = omega arith;
    passed = λ j l. absurd (omega arith);
    others = λ j l k. sym (gt_is_lt o (key_at keys 0) (key_at keys j)) ∙ ordered 0 j l k;
  }

-- a fact on each of a list, and on one more
pub each_item_more : {X : Type 0} (P : ℕ → X → Type 0) (xs ys : List X) (i : ℕ) (x : X) → ys ≡ xs ++ x ∷ [] → length xs ≡ i
    → ((k : ℕ) (d : X) → k < i → P k (get_or xs k d)) → P i x → (k : ℕ) (d : X) → k < i + 1 → P k (get_or ys k d)
each_item_more P xs ys i x e n each here k d =
    below_more (λ k. P k (get_or ys k d)) i
    (λ k h. let l : k < length xs = omega arith in
    subst (P k) (sym (ap (λ zs. get_or zs k d) e ∙ get_or_append_left xs (x ∷ []) d k l)) (each k d h))
    (subst (P i) (sym (ap (λ zs. get_or zs i d) e ∙ get_or_push xs x d i n)) here) k

pub part_at : {X : Type 0} (xs : List X) (from to i : ℕ) (d : X) → i < to - from → get_or (slice_range xs from to) i d
    ≡ get_or xs (from + i) d
part_at xs from to i d h = get_or-take (to - from) (drop from xs) i d h ∙ get_or-drop from xs i d

is_equal : (r : Ordering) → is_eq r ≡ true → r ≡ Equal
is_equal Less h = cc
is_equal Equal h = refl
is_equal Greater h = cc

-- the rows of a partition are in order
pub ordered_part : (P R : List Meaning → List Meaning → Ordering) (o : IsTotalOrder P) (parts keys : List (List Meaning))
    (s : Span) → length parts ≡ length keys → AreOrderedWithin P parts R keys → IsPartition P parts s
    → AreOrdered R (slice_range keys s.from s.to)
ordered_part P R o parts keys s n ordered part i j l h =
    let m : length (slice_range keys s.from s.to) ≤ s.to - s.from = omega (arith, length-take (s.to - s.from) (drop s.from keys)) in
    let hj : j < s.to - s.from = omega (arith, m) in
    let hi : i < s.to - s.from = omega (arith, hj) in
    let w = part.within in
    let jn : s.from + j < length parts = omega (arith, w, hj) in
    let ik : s.from + j < length keys = omega (arith, jn) in
    let e : is_gt (R (key_at keys (s.from + i)) (key_at keys (s.from + j))) ≡ false =
    ordered (s.from + i) (s.from + j) (omega arith) ik (both i j hi hj) in
    ap (λ x. is_gt (R x (key_at (slice_range keys s.from s.to) j))) (part_at keys s.from s.to i [] hi)
    ∙ ap (λ y. is_gt (R (key_at keys (s.from + i)) y)) (part_at keys s.from s.to j [] hj)
    ∙ e
  where
    in_part : (k : ℕ) → k < s.to - s.from → is_eq (P (key_at parts s.from) (key_at parts (s.from + k))) ≡ true
    in_part k hk =
        let w = part.within in
        let within : is_in_span s (s.from + k) ≡ true = grind (arith, nat_tests) in
        sym (part.each (s.from + k) (omega (arith, w, hk))) ∙ within

    both : (i j : ℕ) → i < s.to - s.from → j < s.to - s.from → is_eq (P (key_at parts (s.from + i)) (key_at parts (s.from + j))) ≡ true
    both i j hi hj = ap is_eq (sym (o.congr (key_at parts s.from) (key_at parts (s.from + i)) (key_at parts (s.from + j))
        (is_equal (P (key_at parts s.from) (key_at parts (s.from + i))) (in_part i hi)))) ∙ in_part j hj

pub length-slice : {X : Type 0} (xs : List X) (from to : ℕ) → to ≤ length xs → length (slice_range xs from to) ≡ to - from
length-slice xs from to h = omega (arith, length-take (to - from) (drop from xs), length-drop from xs)
