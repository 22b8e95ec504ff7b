-- Spans from cuts.
use Rattle.std.proofs.Common.{◌≡◌, ℕ, zero, suc, ◌+◌, ◌-◌, ◌<◌, ◌≤◌, max, Bool, true, false, cond, not}
use Rattle.std.proofs.Common.{◌&&◌, List, [], ◌∷◌, length, sym, ap, ◌∙◌, refl, arith, inl, inr, ◌⊎◌}
use Rattle.std.specs.Prelude.{filter, nat_lt, nat_le}
use Rattle.std.specs.Ordering.{is_lt, is_gt, is_eq}
use Rattle.std.specs.Cmp.{IsTotalOrder}
use Rattle.std.specs.declared.cmp.Ordering.{Ordering}
use Rattle.std.specs.declared.cmp.Ordering.TheVariants.{Less, Equal, Greater}
use Rattle.std.proofs.lemmas.Cmp.{tied_itself}
use Rattle.std.proofs.lemmas.Bool.{cases_lt}
use Rattle.std.proofs.lemmas.Bool.Decides.{nat_tests}
use Rattle.std.proofs.lemmas.List.{append-nil}
use Rattle.wvalues.specs.Meaning.{Meaning}
use Rattle.wframe.specs.declared.frame.Span.{Span}
use Rattle.wvalues.specs.Order.{keys_cmp}
use Rattle.wframe.specs.declared.frame.FrameExclusion.{FrameExclusion}
use Rattle.wframe.specs.declared.frame.FrameExclusion.TheVariants.{NoOthers}
use Rattle.wframe.specs.Partition.{Partition}
use Rattle.wframe.specs.Frame.{is_before_start, is_after_end, is_in_extent, is_excluded, is_kept}
use Rattle.wframe.specs.Frame.{frame_rows, frame_start, frame_end, frame_extent}
use Rattle.wframe.specs.Places.{places_from, places, spans_places, is_in_span, IsRisen}
use Rattle.wframe.specs.Peers.{key_at, are_peers, is_before, is_upto}
use Rattle.wframe.specs.Cuts.{IsCut, CutsAt}
use Rattle.wframe.proofs.SpanFacts.{between, filter_span, filter_none}
use Rattle.wframe.proofs.OrderFacts.{gt_is_lt}

length-places_from : (a n : ℕ) → length (places_from a n) ≡ n
length-places_from a zero = refl
length-places_from a (suc n) = ap suc (length-places_from (a + 1) n)

-- what passes, where a front of the places passes
front_filter : (n : ℕ) (test : ℕ → Bool) (c : ℕ) → CutsAt n test c → filter test (places n) ≡ between 0 c
front_filter n test c at =
    let t : n ≡ n - 0 = omega arith in
    let w = at.within in
    ap (λ m. filter test (places_from 0 m)) t
    ∙ filter_span test 0 0 c n [] (omega arith) (omega arith) w (λ j l h. absurd (omega arith)) (λ j l h. at.passed j h)
    (filter_none test c n (λ j l h. at.others j l h))
    ∙ append-nil (between 0 c)

-- a cut is the number of places that pass
pub cut_count : (n : ℕ) (test : ℕ → Bool) (c : ℕ) → CutsAt n test c → c ≡ length (filter test (places n))
cut_count n test c at =
    let t : c - 0 ≡ c = omega arith in
    sym (ap length (front_filter n test c at) ∙ length-places_from 0 (c - 0) ∙ t)

-- tests that agree on places keep the same ones
agree_from : (p q : ℕ → Bool) (a n : ℕ) → ((j : ℕ) → j < a + n → p j ≡ q j) → filter p (places_from a n) ≡ filter q (places_from a n)
agree_from p q a zero h = refl
agree_from p q a (suc n) h =
    ap (λ b. cond b (a ∷ filter p (places_from (a + 1) n)) (filter p (places_from (a + 1) n))) (h a (omega arith))
    ∙ ap (λ ps. cond (q a) (a ∷ ps) ps) (agree_from p q (a + 1) n (λ j l. h j (omega arith)))

pub agree : (p q : ℕ → Bool) (n : ℕ) → ((j : ℕ) → j < n → p j ≡ q j) → filter p (places n) ≡ filter q (places n)
agree p q n h = agree_from p q 0 n (λ j l. h j (omega arith))

-- a weaker test keeps no fewer
one_cond : (b c : Bool) (x : ℕ) (xs ys : List ℕ) → (b ≡ true → c ≡ true) → length xs ≤ length ys
    → length (cond b (x ∷ xs) xs) ≤ length (cond c (x ∷ ys) ys)
one_cond true true x xs ys h l = omega (arith, l)
one_cond true false x xs ys h l = let e : false ≡ true = h refl in cc
one_cond false true x xs ys h l = omega (arith, l)
one_cond false false x xs ys h l = l

weaker_from : (p q : ℕ → Bool) (a n : ℕ) → ((j : ℕ) → j < a + n → p j ≡ true → q j ≡ true)
    → length (filter p (places_from a n)) ≤ length (filter q (places_from a n))
weaker_from p q a zero h = omega arith
weaker_from p q a (suc n) h = one_cond (p a) (q a) a (filter p (places_from (a + 1) n)) (filter q (places_from (a + 1) n))
    (h a (omega arith)) (weaker_from p q (a + 1) n (λ j l. h j (omega arith)))

-- the number of places that pass does not fall
pub count_rises : (n : ℕ) (passes : ℕ → ℕ → Bool) (i k : ℕ) → IsCut n passes → i ≤ k → k < n
    → length (filter (passes i) (places n)) ≤ length (filter (passes k) (places n))
count_rises n passes i k cut l h = weaker_from (passes i) (passes k) 0 n (λ j m e. cut.rises i k j l h (omega arith) e)

-- the places of a span, as a filter
pub span_filter : (n a b : ℕ) → a ≤ b → b ≤ n → filter (is_in_span (record { from = a; to = b })) (places n) ≡ between a b
span_filter n a b l h =
    let t : n ≡ n - 0 = omega arith in
    ap (λ m. filter (is_in_span (record { from = a; to = b })) (places_from 0 m)) t
    ∙ filter_span (is_in_span (record { from = a; to = b })) 0 a b n [] (omega arith) l h
    (λ j m k. grind (arith, nat_tests)) (λ j m k. grind (arith, nat_tests))
    (filter_none (is_in_span (record { from = a; to = b })) b n (λ j m k. grind (arith, nat_tests)))
    ∙ append-nil (between a b)

-- between two cuts lies what passes the second alone
in_cuts_by : (s e j : ℕ) (b a : Bool) → (j < s → b ≡ true) → (s ≤ j → b ≡ false) → (j < e → not a ≡ true)
    → (e ≤ j → not a ≡ false) → (nat_le s j && nat_lt j (max s e)) ≡ (not b && not a)
in_cuts_by s e j true true x y z w = grind (arith, nat_tests)
in_cuts_by s e j true false x y z w = grind (arith, nat_tests)
in_cuts_by s e j false true x y z w = grind (arith, nat_tests)
in_cuts_by s e j false false x y z w = grind (arith, nat_tests)

pub in_cuts : (n s e : ℕ) (before after : ℕ → Bool) → CutsAt n before s → CutsAt n (λ j. not (after j)) e → (j : ℕ) → j < n
    → is_in_span (record { from = s; to = max s e }) j ≡ (not (before j) && not (after j))
in_cuts n s e before after at to j h = in_cuts_by s e j (before j) (after j) (at.passed j) (λ l. at.others j l h)
    (to.passed j) (λ l. to.others j l h)

eq_by : (r : Ordering) → (is_lt r ≡ false) → is_gt r ≡ false → is_eq r ≡ true
eq_by Less h g = cc
eq_by Equal h g = refl
eq_by Greater h g = cc

lt_not_eq : (r : Ordering) → is_lt r ≡ true → is_eq r ≡ false
lt_not_eq Less h = refl
lt_not_eq Equal h = cc
lt_not_eq Greater h = cc

gt_not_eq : (r : Ordering) → is_gt r ≡ true → is_eq r ≡ false
gt_not_eq Less h = cc
gt_not_eq Equal h = cc
gt_not_eq Greater h = refl

not_true : (b : Bool) → not b ≡ true → b ≡ false
not_true true h = cc
not_true false h = refl

not_false : (b : Bool) → not b ≡ false → b ≡ true
not_false true h = refl
not_false false h = cc

module _ {R : List Meaning → List Meaning → Ordering} (o : IsTotalOrder R) (keys : List (List Meaning)) where
  pub own_peer : (i : ℕ) → are_peers R keys i i ≡ true
  own_peer i = ap is_eq (tied_itself o (key_at keys i))

  -- the rows behind a row's peers are none
  pub no_peer : (n i e : ℕ) → CutsAt n (is_upto R keys i) e → (j : ℕ) → e ≤ j → j < n → are_peers R keys i j ≡ false
  no_peer n i e to j l h = lt_not_eq (R (key_at keys i) (key_at keys j))
      (not_false (is_lt (R (key_at keys i) (key_at keys j))) (to.others j l h))

  -- a row's peers end behind it
  pub end_behind : (n i e : ℕ) → i < n → CutsAt n (is_upto R keys i) e → i < e
  end_behind n i e hi to = by_cases (cases_lt i e)
    where
      by_cases : (i < e) ⊎ (e ≤ i) → i < e
      by_cases (inl h) = h
      by_cases (inr h) = let f : false ≡ true = ap is_lt (sym (tied_itself o (key_at keys i)))
          ∙ not_false (is_lt (R (key_at keys i) (key_at keys i))) (to.others i h hi) in cc

module _ {R : List Meaning → List Meaning → Ordering} (o : IsTotalOrder R) (keys : List (List Meaning)) (n i s e : ℕ)
    (hi : i < n) (at : CutsAt n (is_before R keys i) s) (to : CutsAt n (is_upto R keys i) e) where
  -- a row is among its peers
  pub peers_from : s ≤ i
  peers_from = by_cases (cases_lt i s)
    where
      by_cases : (i < s) ⊎ (s ≤ i) → s ≤ i
      by_cases (inl h) = let f : false ≡ true = ap is_lt (sym (tied_itself o (key_at keys i))) ∙ at.passed i h in cc
      by_cases (inr h) = h

  pub peers_to : i < e
  peers_to = end_behind o keys n i e hi to

  -- the span between the cuts has the peers
  pub in_peers : (j : ℕ) → j < n → is_in_span (record { from = s; to = e }) j ≡ are_peers R keys i j
  in_peers j hj = by_cases (cases_lt j s) (cases_lt j e)
    where
      a : List Meaning
      a = key_at keys i

      b : List Meaning
      b = key_at keys j

      by_cases : (j < s) ⊎ (s ≤ j) → (j < e) ⊎ (e ≤ j) → is_in_span (record { from = s; to = e }) j ≡ is_eq (R a b)
      by_cases (inl h) x =
          let out : is_in_span (record { from = s; to = e }) j ≡ false = grind (arith, nat_tests) in
          out ∙ sym (gt_not_eq (R a b) (gt_is_lt o a b ∙ at.passed j h))
      by_cases (inr h) (inl k) =
          let within : is_in_span (record { from = s; to = e }) j ≡ true = grind (arith, nat_tests) in
          within ∙ sym (eq_by (R a b) (not_true (is_lt (R a b)) (to.passed j k)) (gt_is_lt o a b ∙ at.others j h hj))
      by_cases (inr h) (inr k) =
          let out : is_in_span (record { from = s; to = e }) j ≡ false = grind (arith, nat_tests) in
          out ∙ sym (lt_not_eq (R a b) (not_false (is_lt (R a b)) (to.others j k hj)))

  -- the peers as a span
  pub peers_filter : between s e ≡ filter (are_peers R keys i) (places n)
  peers_filter =
      let l : s ≤ e = omega (arith, peers_from, peers_to) in
      sym (span_filter n s e l to.within) ∙ agree (is_in_span (record { from = s; to = e })) (are_peers R keys i) n in_peers

-- a frame's spans have its rows
pub frame_filter : (p : Partition) (i s e : ℕ) (peers : Span) →
    CutsAt (length p.keys) (is_before_start p.order p.keys p.frame.mode p.frame.start i) s
    → CutsAt (length p.keys) (λ j. not (is_after_end p.order p.keys p.frame.mode p.frame.end i j)) e →
    ((j : ℕ) → j < length p.keys → is_in_span peers j ≡ are_peers (keys_cmp p.order) p.keys i j) →
    filter (λ j. is_in_span (record { from = s; to = max s e }) j
    && not (is_excluded p.frame.exclusion i j (is_in_span peers j))) (places (length p.keys)) ≡ frame_rows p i
frame_filter p i s e peers at to peer =
    agree (λ j. is_in_span (record { from = s; to = max s e }) j
    && not (is_excluded p.frame.exclusion i j (is_in_span peers j))) (is_kept p i) (length p.keys) (λ j h.
    ap (λ b. b && not (is_excluded p.frame.exclusion i j (is_in_span peers j)))
    (in_cuts (length p.keys) s e (is_before_start p.order p.keys p.frame.mode p.frame.start i)
    (is_after_end p.order p.keys p.frame.mode p.frame.end i) at to j h)
    ∙ ap (λ b. is_in_extent p i j && not (is_excluded p.frame.exclusion i j b)) (peer j h))

-- where nothing is excluded, the frame's rows are its span
excluded_none : (exclusion : FrameExclusion) (i j : ℕ) (b : Bool) → exclusion ≡ NoOthers → is_excluded exclusion i j b ≡ false
excluded_none exclusion i j b e = ap (λ x. is_excluded x i j b) e

and_not_false : (a b : Bool) → b ≡ false → a ≡ (a && not b)
and_not_false true b e = ap not (sym e)
and_not_false false b e = refl

pub plain_rows : (p : Partition) (i s e : ℕ)
    → CutsAt (length p.keys) (is_before_start p.order p.keys p.frame.mode p.frame.start i) s
    → CutsAt (length p.keys) (λ j. not (is_after_end p.order p.keys p.frame.mode p.frame.end i j)) e → p.frame.exclusion ≡ NoOthers →
    between s (max s e) ≡ frame_rows p i
plain_rows p i s e at to none =
    let n = length p.keys in
    let sw = at.within in
    let ew = to.within in
    let l : s ≤ max s e = omega arith in
    let w : max s e ≤ n = omega (arith, sw, ew) in
    sym (span_filter n s (max s e) l w)
    ∙ agree (is_in_span (record { from = s; to = max s e })) (is_kept p i) n (λ j h.
    in_cuts n s e (is_before_start p.order p.keys p.frame.mode p.frame.start i) (is_after_end p.order p.keys p.frame.mode
    p.frame.end i) at to j h
    ∙ and_not_false (is_in_extent p i j) (is_excluded p.frame.exclusion i j (are_peers (keys_cmp p.order) p.keys i j))
    (excluded_none p.frame.exclusion i j (are_peers (keys_cmp p.order) p.keys i j) none))

filter_le : (p : ℕ → Bool) (xs : List ℕ) → length (filter p xs) ≤ length xs
filter_le p [] = omega arith
filter_le p (x ∷ xs) = one_cond (p x) true x (filter p xs) xs (λ h. refl) (filter_le p xs)

pub count_within : (n : ℕ) (p : ℕ → Bool) → length (filter p (places n)) ≤ n
count_within n p = omega (arith, filter_le p (places n), length-places_from 0 n)

pub slid : (s e t g n : ℕ) → s ≤ t → e ≤ g → t ≤ n → g ≤ n
    → IsRisen n (record { from = s; to = max s e }) (record { from = t; to = max t g })
slid s e t g n st eg tn gn = record { from = st; to = omega arith; ordered = omega arith; within = omega arith }

-- what is left of a frame's span, as its rows
pub frame_left : (p : Partition) (row : ℕ) (span peers : Span) (exclusion : FrameExclusion) (spans : List Span) →
    CutsAt (length p.keys) (is_before_start p.order p.keys p.frame.mode p.frame.start row) (frame_start p row)
    → CutsAt (length p.keys) (λ j. not (is_after_end p.order p.keys p.frame.mode p.frame.end row j)) (frame_end p row) →
    span ≡ frame_extent p row → exclusion ≡ p.frame.exclusion
    → ((j : ℕ) → j < length p.keys → is_in_span peers j ≡ are_peers (keys_cmp p.order) p.keys row j) →
    spans_places spans ≡ filter (λ j. is_in_span span j && not (is_excluded exclusion row j (is_in_span peers j)))
    (places (length p.keys)) → spans_places spans ≡ frame_rows p row
frame_left p row span peers exclusion spans at to is same peer r =
    r
    ∙ ap (λ s. filter (λ j. is_in_span s j && not (is_excluded exclusion row j (is_in_span peers j))) (places (length p.keys))) is
    ∙ ap (λ x. filter (λ j. is_in_span (frame_extent p row) j && not (is_excluded x row j (is_in_span peers j)))
    (places (length p.keys))) same
    ∙ frame_filter p row (frame_start p row) (frame_end p row) peers at to peer
