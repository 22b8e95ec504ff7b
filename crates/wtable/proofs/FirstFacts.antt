-- The first of some elements in order, where others that come after many are left out.
use Rattle.std.proofs.Common.{◌≡◌, ℕ, zero, suc, ◌+◌, ◌-◌, ◌<◌, ◌≤◌, Bool, true, false, cond, not, List, [], ◌∷◌, ◌++◌, length, filter}
use Rattle.std.proofs.Common.{take, drop, get_or, take-append-drop, Ordering, Less, Equal, Greater, is_gt, is_lt}
use Rattle.std.proofs.Common.{true≢false, refl, sym, ap, ◌∙◌, append_assoc, arith}
use Rattle.std.specs.Cmp.{IsTotalOrder}
use Rattle.std.specs.List.{AllByRecursion}
use Rattle.std.proofs.lemmas.Cmp.{tied_itself, upto}
use Rattle.std.proofs.lemmas.List.{length-append, length-take, take-append-le}
use Rattle.std.proofs.lemmas.List.Elements.{filter-append}
use Rattle.wframe.specs.Sorting.{inserted, sorted}
use Rattle.wframe.proofs.SortFacts.{IsUp, all_inserted, all_upto, class, class_sorted, gt_is_lt, one_order, up_sorted}

-- what is cut of a list tells no more than so many of its first
pub cut_of_taken : {X : Type 0} (offset limit most : ℕ) (xs : List X) → most ≡ offset + limit
    → take limit (drop offset xs) ≡ drop offset (take most xs)
cut_of_taken zero limit most xs e = let same : limit ≡ most = omega (arith, e) in ap (λ n. take n xs) same
cut_of_taken (suc offset) limit zero xs e = absurd (omega (arith, e))
cut_of_taken (suc offset) zero (suc most) [] e = refl
cut_of_taken (suc offset) (suc limit) (suc most) [] e = refl
cut_of_taken (suc offset) limit (suc most) (x ∷ xs) e = cut_of_taken offset limit most xs (omega (arith, e))

module _ {X : Type 0} (cmp : X → X → Ordering) (total : IsTotalOrder cmp) where
  -- whether an element does not come after another one
  abbrev pub comes : X → X → Bool
  comes last x = not (is_gt (cmp x last))

  abbrev count : X → List X → ℕ
  count last xs = length (filter (comes last) xs)

  not_after : (x y : X) → is_gt (cmp x y) ≡ false → comes y x ≡ true
  not_after x y h = ap not h

  pub comes_itself : (x : X) → comes x x ≡ true
  comes_itself x = not_after x x (ap is_gt (tied_itself total x))

  -- what comes before or with an element comes before or with one that is not before that
  comes_on : (x p r : X) → is_lt (cmp r p) ≡ false → comes p x ≡ true → comes r x ≡ true
  comes_on x p r h k = not_after x r (upto total x p r (first (is_gt (cmp x p)) k) (gt_is_lt cmp total p r ∙ h))
    where
      first : (b : Bool) → not b ≡ true → b ≡ false
      first false e = refl
      first true e = absurd (true≢false (sym e))

  pub more_come : (p r : X) (xs : List X) → is_lt (cmp r p) ≡ false → count p xs ≤ count r xs
  more_come p r [] h = omega arith
  more_come p r (x ∷ xs) h = go (comes p x) refl (more_come p r xs h)
    where
      go : (b : Bool) → comes p x ≡ b → count p xs ≤ count r xs
          → length (cond b (x ∷ filter (comes p) xs) (filter (comes p) xs)) ≤ count r (x ∷ xs)
      go true e more = rw (comes_on x p r h e) (omega (arith, more))
      go false e more =
          elim (comes r x) as (λ b. count p xs ≤ length (cond b (x ∷ filter (comes r) xs) (filter (comes r) xs))) [
            | true ↦ omega (arith, more)
            | false ↦ more
          ]

  pub count_more : (p x : X) (xs : List X) → count p xs ≤ count p (xs ++ x ∷ [])
  count_more p x xs =
      omega (arith, ap length (filter-append (comes p) xs (x ∷ [])), length-append (filter (comes p) xs) (filter (comes p) (x ∷ [])))

  abbrev Upto : X → X → Type 0
  Upto x y = is_gt (cmp x y) ≡ false

  -- a list and the same one with an element more, behind so many
  record Around (many : ℕ) (r : X) (larger smaller : List X) : Type 0 where
    pub front : List X
    pub back : List X
    pub with : larger ≡ front ++ r ∷ back
    pub without : smaller ≡ front ++ back
    pub behind : many ≤ length front
    pub above : AllByRecursion (Upto r) back

  further : (a : X) (n : ℕ) (r : X) (xs ys : List X) → Around n r xs ys → Around (suc n) r (a ∷ xs) (a ∷ ys)
  further a n r xs ys h = record {
    front = a ∷ h.front;
    back = h.back;
    with = ap (λ l. a ∷ l) h.with;
    without = ap (λ l. a ∷ l) h.without;
    behind = omega (arith, h.behind);
    above = h.above;
  }

  fewer : (m n : ℕ) (r : X) (xs ys : List X) → m ≤ n → Around n r xs ys → Around m r xs ys
  fewer m n r xs ys le h = record {
    front = h.front;
    back = h.back;
    with = h.with;
    without = h.without;
    behind = omega (arith, le, h.behind);
    above = h.above;
  }

  at_first : (r : X) (ys : List X) → IsUp cmp total ys → Around 0 r (inserted cmp r ys) ys
  at_first r [] up = record { front = []; back = []; with = refl; without = refl; behind = omega arith; above = tt }
  at_first r (y ∷ ys) up = go (is_gt (cmp r y)) refl (at_first r ys up.1)
    where
      go : (b : Bool) → is_gt (cmp r y) ≡ b → Around 0 r (inserted cmp r ys) ys
          → Around 0 r (cond b (y ∷ inserted cmp r ys) (r ∷ y ∷ ys)) (y ∷ ys)
      go true e more = fewer 0 1 r (y ∷ inserted cmp r ys) (y ∷ ys) (omega arith) (further y 0 r (inserted cmp r ys) ys more)
      go false e more = record {
        front = [];
        back = y ∷ ys;
        with = refl;
        without = refl;
        behind = omega arith;
        above = (e, all_upto cmp total r y ys e up.0);
      }

  -- an element that goes into both lists, before the one that is more if it does not come after it
  here : (f r : X) (back : List X) → AllByRecursion (Upto r) back
      → Around (length (filter (comes r) (f ∷ []))) r (inserted cmp f (r ∷ back)) (inserted cmp f back)
  here f r back above = go (is_gt (cmp f r)) refl
    where
      next : (bs : List X) → Upto f r → AllByRecursion (Upto r) bs → inserted cmp f bs ≡ f ∷ bs
      next [] e all = refl
      next (b ∷ bs) e all = rw (upto total f r b e all.0) refl

      go : (b : Bool) → is_gt (cmp f r) ≡ b → Around (length (cond (not b) (f ∷ []) [])) r
          (cond b (r ∷ inserted cmp f back) (f ∷ r ∷ back)) (inserted cmp f back)
      go true e = record {
        front = [];
        back = inserted cmp f back;
        with = refl;
        without = refl;
        behind = omega arith;
        above = all_inserted cmp total (Upto r) f back (gt_is_lt cmp total r f ∙ not_both (cmp f r) e) above;
      }
        where
          not_both : (o : Ordering) → is_gt o ≡ true → is_lt o ≡ false
          not_both Less h = absurd (true≢false (sym h))
          not_both Equal h = refl
          not_both Greater h = refl
      go false e = record {
        front = f ∷ [];
        back = back;
        with = refl;
        without = next back e above;
        behind = omega arith;
        above = above;
      }

  both : (f r : X) (front back : List X) → AllByRecursion (Upto r) back
      → Around (length front + length (filter (comes r) (f ∷ []))) r (inserted cmp f (front ++ r ∷ back)) (inserted cmp f (front ++ back))
  both f r [] back above =
      fewer (0 + length (filter (comes r) (f ∷ []))) (length (filter (comes r) (f ∷ []))) r (inserted cmp f (r ∷ back))
      (inserted cmp f back) (omega arith) (here f r back above)
  both f r (a ∷ front) back above = go (is_gt (cmp f a)) (both f r front back above)
    where
      n : ℕ
      n = length (filter (comes r) (f ∷ []))

      one : n ≤ 1
      one = elim (comes r f) as (λ b. length (cond b (f ∷ []) []) ≤ 1) [
        | true ↦ omega arith
        | false ↦ omega arith
      ]

      go : (b : Bool) → Around (length front + n) r (inserted cmp f (front ++ r ∷ back)) (inserted cmp f (front ++ back))
          → Around (suc (length front) + n) r (cond b (a ∷ inserted cmp f (front ++ r ∷ back)) (f ∷ a ∷ (front ++ r ∷ back)))
          (cond b (a ∷ inserted cmp f (front ++ back)) (f ∷ a ∷ (front ++ back)))
      go true more = fewer (suc (length front) + n) (suc (length front + n)) r (a ∷ inserted cmp f (front ++ r ∷ back))
          (a ∷ inserted cmp f (front ++ back)) (omega arith)
          (further a (length front + n) r (inserted cmp f (front ++ r ∷ back)) (inserted cmp f (front ++ back)) more)
      go false more = record {
        front = f ∷ a ∷ front;
        back = back;
        with = refl;
        without = refl;
        behind = omega (arith, one);
        above = above;
      }

  around : (r : X) (front back : List X) → Around (count r front) r (sorted cmp (front ++ r ∷ back)) (sorted cmp (front ++ back))
  around r [] back = at_first r (sorted cmp back) (up_sorted cmp total back)
  around r (f ∷ front) back =
      let h = around r front back in
      let more = both f r h.front h.back h.above in
      let sum : count r (f ∷ front) ≡ length (filter (comes r) (f ∷ [])) + count r front =
      ap length (filter-append (comes r) (f ∷ []) front) ∙ length-append (filter (comes r) (f ∷ [])) (filter (comes r) front) in
      fewer (count r (f ∷ front)) (length h.front + length (filter (comes r) (f ∷ []))) r (sorted cmp (f ∷ (front ++ r ∷ back)))
      (sorted cmp (f ∷ (front ++ back))) (omega (arith, h.behind, sum))
      (rw (h.with, h.without) more)

  -- an element behind as many as are asked for that do not come after it is none of the first
  pub left_out : (r : X) (most : ℕ) (front back : List X) → most ≤ count r front
      → take most (sorted cmp (front ++ r ∷ back)) ≡ take most (sorted cmp (front ++ back))
  left_out r most front back h =
      let a = around r front back in
      let within : most ≤ length a.front = omega (arith, h, a.behind) in
      ap (take most) a.with ∙ take-append-le most a.front (r ∷ a.back) within ∙ sym (take-append-le most a.front a.back within)
      ∙ ap (take most) (sym a.without)

  all_left_out : (most : ℕ) (front late back : List X) → AllByRecursion (λ r. most ≤ count r front) late
      → take most (sorted cmp (front ++ (late ++ back))) ≡ take most (sorted cmp (front ++ back))
  all_left_out most front [] back all = refl
  all_left_out most front (r ∷ late) back all = left_out r most front (late ++ back) all.0 ∙ all_left_out most front late back all.1

  -- of a list that goes up, none of the first comes after one of the others
  none_needed : (xs : List X) → AllByRecursion (λ r. 0 ≤ count r []) xs
  none_needed [] = tt
  none_needed (x ∷ xs) = (omega arith, none_needed xs)

  late_ones : (n : ℕ) (ys : List X) → IsUp cmp total ys → AllByRecursion (λ r. n ≤ count r (take n ys)) (drop n ys)
  late_ones zero ys up = none_needed ys
  late_ones (suc n) [] up = tt
  late_ones (suc n) (y ∷ ys) up = go (drop n ys) (dropped n ys up.0) (late_ones n ys up.1)
    where
      dropped : (m : ℕ) (zs : List X) → AllByRecursion (λ z. is_gt (cmp y z) ≡ false) zs
          → AllByRecursion (λ z. is_gt (cmp y z) ≡ false) (drop m zs)
      dropped zero zs all = all
      dropped (suc m) [] all = tt
      dropped (suc m) (z ∷ zs) all = dropped m zs all.1

      go : (zs : List X) → AllByRecursion (λ z. is_gt (cmp y z) ≡ false) zs → AllByRecursion (λ r. n ≤ count r (take n ys)) zs
          → AllByRecursion (λ r. suc n ≤ count r (y ∷ take n ys)) zs
      go [] a b = tt
      go (z ∷ zs) a b = (rw (not_after y z a.0) (omega (arith, b.0)), go zs a.1 b.1)

  -- to sort a part of a list first changes nothing
  pub sorted_again : (xs back : List X) → sorted cmp (sorted cmp xs ++ back) ≡ sorted cmp (xs ++ back)
  sorted_again xs back =
      one_order cmp total (sorted cmp (sorted cmp xs ++ back)) (sorted cmp (xs ++ back)) (up_sorted cmp total (sorted cmp xs ++ back))
      (up_sorted cmp total (xs ++ back))
      (λ w. class_sorted cmp total w (sorted cmp xs ++ back) ∙ filter-append _ (sorted cmp xs) back
      ∙ ap (λ l. l ++ class cmp total w back) (class_sorted cmp total w xs) ∙ sym (filter-append _ xs back)
      ∙ sym (class_sorted cmp total w (xs ++ back)))

  -- the first of some elements stand for them, whatever follows
  pub pruned : (most : ℕ) (xs back : List X)
      → take most (sorted cmp (take most (sorted cmp xs) ++ back)) ≡ take most (sorted cmp (xs ++ back))
  pruned most xs back =
      let ys : List X = sorted cmp xs in
      sym (all_left_out most (take most ys) (drop most ys) back (late_ones most ys (up_sorted cmp total xs)))
      ∙ ap (λ l. take most (sorted cmp l)) (sym (append_assoc (take most ys) (drop most ys) back))
      ∙ ap (λ l. take most (sorted cmp (l ++ back))) (take-append-drop most ys)
      ∙ ap (take most) (sorted_again xs back)

  -- of a list that goes up, all do not come after the last one
  last_of_all : (i : ℕ) (d : X) (ys : List X) → IsUp cmp total ys → i + 1 ≡ length ys → count (get_or ys i d) ys ≡ length ys
  last_of_all i d [] up e = refl
  last_of_all zero d (y ∷ []) up e = rw (comes_itself y) refl
  last_of_all zero d (y ∷ z ∷ zs) up e = absurd (omega (arith, e))
  last_of_all (suc i) d (y ∷ ys) up e =
      let rest : count (get_or ys i d) ys ≡ length ys = last_of_all i d ys up.1 (omega (arith, e)) in
      rw (not_after y (get_or ys i d) (reached i ys up.0 (omega (arith, e)))) (ap suc rest)
    where
      reached : (j : ℕ) (zs : List X) → AllByRecursion (λ z. is_gt (cmp y z) ≡ false) zs → j < length zs
          → is_gt (cmp y (get_or zs j d)) ≡ false
      reached j [] all h = absurd (omega (arith, h))
      reached zero (z ∷ zs) all h = all.0
      reached (suc j) (z ∷ zs) all h = reached j zs all.1 (omega (arith, h))

  up_taken : (n : ℕ) (ys : List X) → IsUp cmp total ys → IsUp cmp total (take n ys)
  up_taken zero ys up = tt
  up_taken (suc n) [] up = tt
  up_taken (suc n) (y ∷ ys) up = (taken n ys up.0, up_taken n ys up.1)
    where
      taken : (m : ℕ) (zs : List X) → AllByRecursion (λ z. is_gt (cmp y z) ≡ false) zs
          → AllByRecursion (λ z. is_gt (cmp y z) ≡ false) (take m zs)
      taken zero zs all = tt
      taken (suc m) [] all = tt
      taken (suc m) (z ∷ zs) all = (all.0, taken m zs all.1)

  -- the last of so many first ones is a pivot: so many do not come after it
  pub last_is_pivot : (most : ℕ) (d : X) (xs : List X) → 0 < most → most - 1 < length (take most (sorted cmp xs))
      → most ≤ count (get_or (take most (sorted cmp xs)) (most - 1) d) (take most (sorted cmp xs))
  last_is_pivot most d xs h within =
      let ys : List X = take most (sorted cmp xs) in
      let long : most - 1 + 1 ≡ length ys = omega (arith, h, within, length-take most (sorted cmp xs)) in
      omega (arith, h, long, last_of_all (most - 1) d ys (up_taken most (sorted cmp xs) (up_sorted cmp total xs)) long)
