-- Bounds without an offset end where a row's peers do, where groups are counted too.
use Rattle.std.proofs.Common.{◌≡◌, ℕ, zero, suc, ◌+◌, ◌<◌, ◌≤◌, max, Bool, true, false, not, ◌||◌, ◌&&◌, List}
use Rattle.std.proofs.Common.{length, ltb, sym, ap, ◌∙◌, subst, refl, arith, lt-ltb, inl, inr, ◌⊎◌, ◌-◌}
use Rattle.std.specs.Ordering.{is_lt, is_gt, is_eq}
use Rattle.std.specs.declared.cmp.Ordering.{Ordering}
use Rattle.std.specs.declared.cmp.Ordering.TheVariants.{Less, Equal, Greater}
use Rattle.std.proofs.lemmas.Bool.{cases_lt}
use Rattle.std.proofs.lemmas.Bool.Decides.{nat_tests}
use Rattle.wvalues.specs.declared.key.SortKey.{SortKey}
use Rattle.wvalues.specs.Meaning.{Meaning}
use Rattle.wvalues.specs.Order.{keys_cmp}
use Rattle.wvalues.specs.OrderLaws.{keys_total}
use Rattle.wframe.specs.declared.frame.FrameMode.{FrameMode}
use Rattle.wframe.specs.declared.frame.FrameMode.TheVariants.{Rows, Groups, Range}
use Rattle.wframe.specs.declared.frame.FrameBound.{FrameBound}
use Rattle.wframe.specs.declared.frame.FrameBound.TheVariants.{UnboundedPreceding, Preceding, CurrentRow, Following, UnboundedFollowing}
use Rattle.wframe.specs.declared.frame.Span.{Span}
use Rattle.wframe.specs.Peers.{AreOrdered, key_at, group_number, is_before, is_upto}
use Rattle.wframe.specs.Cuts.{CutsAt}
use Rattle.wframe.specs.Bounds.{is_offset, key_starts_after, key_ends_before}
use Rattle.wframe.specs.Moves.{move_of, moved_number}
use Rattle.wframe.specs.Offsets.{moves_groups}
use Rattle.wframe.specs.Ties.{takes_groups}
use Rattle.wframe.specs.Partition.{Partition}
use Rattle.wframe.specs.Partitions.{IsGroup}
use Rattle.wframe.specs.Frame.{is_before_start, is_after_end}
use Rattle.wframe.specs.FrameEnds.{IsFrameOf}
use Rattle.wframe.proofs.OrderFacts.{gt_is_lt}
use Rattle.wframe.proofs.NumberFacts.{peers_number, others_number, eq_equal}
use Rattle.wframe.proofs.ModeFacts.{numbers_rise}
use Rattle.wframe.proofs.TieFacts.{number_alike}
use Rattle.wframe.proofs.CutFacts.{lt_is_less}
use Rattle.wframe.proofs.FrameFacts.{own_peer}
use Rattle.wframe.proofs.EndFacts.{frame_cut}

below : (r : Ordering) (a b : ℕ) → (r ≡ Less → a < b) → (r ≡ Equal → a ≡ b) → (r ≡ Greater → b < a) → is_lt r ≡ ltb a b
below Less a b l e g = sym (lt-ltb a b (l refl))
below Equal a b l e g = let h = e refl in grind (arith, nat_tests)
below Greater a b l e g = let h = g refl in grind (arith, nat_tests)

module _ (ks : List SortKey) (keys : List (List Meaning)) (ordered : AreOrdered (keys_cmp ks) keys) where
  -- a row with a smaller key has a smaller group number
  less_far : (i d : ℕ) → i + d < length keys → keys_cmp ks (key_at keys i) (key_at keys (i + d)) ≡ Less
      → group_number (keys_cmp ks) keys i < group_number (keys_cmp ks) keys (i + d)
  less_far i zero h l =
      let e : i + 0 ≡ i = omega arith in
      let f : Less ≡ Equal = sym l ∙ ap (λ k. keys_cmp ks (key_at keys i) (key_at keys k)) e
      ∙ eq_equal (keys_cmp ks (key_at keys i) (key_at keys i)) (own_peer (keys_total ks) keys i) in
      cc
  less_far i (suc d) h l = by_next (is_eq (keys_cmp ks (key_at keys i) (key_at keys (i + 1)))) refl (less_far (i + 1) d (omega arith))
    where
      e : i + 1 + d ≡ i + suc d
      e = omega arith

      by_next : (b : Bool) → b ≡ is_eq (keys_cmp ks (key_at keys i) (key_at keys (i + 1)))
          → (keys_cmp ks (key_at keys (i + 1)) (key_at keys (i + 1 + d)) ≡ Less
          → group_number (keys_cmp ks) keys (i + 1) < group_number (keys_cmp ks) keys (i + 1 + d))
          → group_number (keys_cmp ks) keys i < group_number (keys_cmp ks) keys (i + suc d)
      by_next true p far =
          let same = peers_number (keys_total ks) keys ordered i (sym p) in
          let tied = eq_equal (keys_cmp ks (key_at keys i) (key_at keys (i + 1))) (sym p) in
          let rest = far (sym ((keys_total ks).congr (key_at keys i) (key_at keys (i + 1)) (key_at keys (i + 1 + d)) tied)
          ∙ ap (λ k. keys_cmp ks (key_at keys i) (key_at keys k)) e ∙ l) in
          let f = ap (group_number (keys_cmp ks) keys) e in
          omega (arith, same, rest, f)
      by_next false p far =
          let next = others_number (keys_total ks) keys ordered i (omega arith) (sym p) in
          let up = numbers_rise ks keys ordered (i + 1) (i + suc d) (omega arith) h in
          omega (arith, next, up)

  less_number : (i j : ℕ) → i < length keys → j < length keys → keys_cmp ks (key_at keys i) (key_at keys j) ≡ Less
      → group_number (keys_cmp ks) keys i < group_number (keys_cmp ks) keys j
  less_number i j hi hj l = by_cases (cases_lt i j)
    where
      by_cases : (i < j) ⊎ (j ≤ i) → group_number (keys_cmp ks) keys i < group_number (keys_cmp ks) keys j
      by_cases (inl h) =
          let e : i + (j - i) ≡ j = omega arith in
          subst (λ k. group_number (keys_cmp ks) keys i < group_number (keys_cmp ks) keys k) e
          (less_far i (j - i) (omega arith) (ap (λ k. keys_cmp ks (key_at keys i) (key_at keys k)) e ∙ l))
      by_cases (inr h) =
          let f : true ≡ false = sym (ap is_lt l) ∙ sym (gt_is_lt (keys_total ks) (key_at keys j) (key_at keys i)) ∙ ordered j i h hi in
          cc

  -- group numbers stand as the keys do
  number_order : (i j : ℕ) → i < length keys → j < length keys → is_lt (keys_cmp ks (key_at keys i) (key_at keys j))
      ≡ ltb (group_number (keys_cmp ks) keys i) (group_number (keys_cmp ks) keys j)
  number_order i j hi hj =
      below (keys_cmp ks (key_at keys i) (key_at keys j)) (group_number (keys_cmp ks) keys i) (group_number (keys_cmp ks) keys j)
      (less_number i j hi hj)
      (λ e. number_alike ks keys i j (ap is_eq e))
      (λ e. less_number j i hj hi (lt_is_less (keys_cmp ks (key_at keys j) (key_at keys i))
      (sym (gt_is_lt (keys_total ks) (key_at keys i) (key_at keys j)) ∙ ap is_gt e)))

  -- where a bound has no offset, GROUPS is RANGE
  pub start_by_key : (mode : FrameMode) (bound : FrameBound) (i j : ℕ) → takes_groups mode ≡ true → is_offset bound ≡ false
      → i < length keys → j < length keys → is_before_start ks keys mode bound i j ≡ key_starts_after ks bound
      (key_at keys i) (key_at keys j)
  start_by_key Rows bound i j t o hi hj = cc
  start_by_key Range bound i j t o hi hj = refl
  start_by_key Groups UnboundedPreceding i j t o hi hj = refl
  start_by_key Groups (Preceding d) i j t o hi hj = cc
  start_by_key Groups CurrentRow i j t o hi hj = sym (number_order j i hj hi)
  start_by_key Groups (Following d) i j t o hi hj = cc
  start_by_key Groups UnboundedFollowing i j t o hi hj = refl

  pub end_by_key : (mode : FrameMode) (bound : FrameBound) (i j : ℕ) → takes_groups mode ≡ true → is_offset bound ≡ false
      → i < length keys → j < length keys → is_after_end ks keys mode bound i j ≡ key_ends_before ks bound (key_at keys i) (key_at keys j)
  end_by_key Rows bound i j t o hi hj = cc
  end_by_key Range bound i j t o hi hj = refl
  end_by_key Groups UnboundedPreceding i j t o hi hj = refl
  end_by_key Groups (Preceding d) i j t o hi hj = cc
  end_by_key Groups CurrentRow i j t o hi hj = sym (number_order i j hi hj)
  end_by_key Groups (Following d) i j t o hi hj = cc
  end_by_key Groups UnboundedFollowing i j t o hi hj = refl

-- tests of places that agree have the same cut
cut_agrees : (n c d : ℕ) (p q : ℕ → Bool) → c ≡ d → ((j : ℕ) → j < n → p j ≡ q j) → CutsAt n q d → CutsAt n p c
cut_agrees n c d p q same e at = record {
  within = omega (arith, same, at.within);
  passed = λ j l. e j (omega (arith, same, l, at.within)) ∙ at.passed j (omega (arith, same, l));
  others = λ j l h. e j h ∙ at.others j (omega (arith, same, l)) h;
}

none_at : (n : ℕ) → CutsAt n (λ j. false) 0
none_at n = record { within = omega arith; passed = λ j l. absurd (omega arith); others = λ j l h. refl }

all_at : (n : ℕ) → CutsAt n (λ j. true) n
all_at n = record { within = omega arith; passed = λ j l. refl; others = λ j l h. absurd (omega arith) }

-- the ends of a row's peers, moved by a bound without an offset
module _ (ks : List SortKey) (keys : List (List Meaning)) (row c : ℕ) where
  peers_start : (bound : FrameBound) → is_offset bound ≡ false → CutsAt (length keys) (is_before (keys_cmp ks) keys row) c
      → CutsAt (length keys) (λ j. key_starts_after ks bound (key_at keys row) (key_at keys j))
      (moved_number (move_of bound (length keys)) (length keys) c)
  peers_start UnboundedPreceding o at = cut_agrees (length keys) (moved_number (move_of UnboundedPreceding (length keys))
      (length keys) c) 0 (λ j. false) (λ j. false) (omega (arith, at.within)) (λ j l. refl) (none_at (length keys))
  peers_start (Preceding d) o at = cc
  peers_start CurrentRow o at = cut_agrees (length keys) (moved_number (move_of CurrentRow (length keys)) (length keys) c) c
      (is_before (keys_cmp ks) keys row) (is_before (keys_cmp ks) keys row) (omega (arith, at.within)) (λ j l. refl) at
  peers_start (Following d) o at = cc
  peers_start UnboundedFollowing o at = cut_agrees (length keys) (moved_number (move_of UnboundedFollowing (length keys))
      (length keys) c) (length keys) (λ j. true) (λ j. true) (omega (arith, at.within)) (λ j l. refl) (all_at (length keys))

  peers_end : (bound : FrameBound) → is_offset bound ≡ false → CutsAt (length keys) (is_upto (keys_cmp ks) keys row) c
      → CutsAt (length keys) (λ j. not (key_ends_before ks bound (key_at keys row) (key_at keys j)))
      (moved_number (move_of bound (length keys)) (length keys) c)
  peers_end UnboundedPreceding o at = cut_agrees (length keys) (moved_number (move_of UnboundedPreceding (length keys))
      (length keys) c) 0 (λ j. false) (λ j. false) (omega (arith, at.within)) (λ j l. refl) (none_at (length keys))
  peers_end (Preceding d) o at = cc
  peers_end CurrentRow o at = cut_agrees (length keys) (moved_number (move_of CurrentRow (length keys)) (length keys) c) c
      (is_upto (keys_cmp ks) keys row) (is_upto (keys_cmp ks) keys row) (omega (arith, at.within)) (λ j l. refl) at
  peers_end (Following d) o at = cc
  peers_end UnboundedFollowing o at = cut_agrees (length keys) (moved_number (move_of UnboundedFollowing (length keys))
      (length keys) c) (length keys) (λ j. true) (λ j. true) (omega (arith, at.within)) (λ j l. refl) (all_at (length keys))

no_start : (t a b : Bool) → t ≡ true → (t && (a || b)) ≡ false → a ≡ false
no_start true true b h e = e
no_start true false b h e = refl
no_start false a b h e = cc

no_end : (t a b : Bool) → t ≡ true → (t && (a || b)) ≡ false → b ≡ false
no_end true true b h e = cc
no_end true false b h e = e
no_end false a b h e = cc

-- in RANGE and GROUPS without an offset the ends of a row's peers, moved
pub frame_by_peers : (p : Partition) (row s e : ℕ) (peers r : Span) → AreOrdered (keys_cmp p.order) p.keys
    → takes_groups p.frame.mode ≡ true → moves_groups p.frame ≡ false → row < length p.keys
    → IsGroup (keys_cmp p.order) p.keys row peers → s ≡ moved_number (move_of p.frame.start (length p.keys))
    (length p.keys) peers.from → e ≡ moved_number (move_of p.frame.end (length p.keys)) (length p.keys) peers.to
    → r.from ≡ s → r.to ≡ max s e → IsFrameOf p row r
frame_by_peers p row s e peers r ordered takes moves h group is upto from to =
    let n = length p.keys in
    let mode = p.frame.mode in
    let start = p.frame.start in
    let end = p.frame.end in
    let no_s = no_start (takes_groups mode) (is_offset start) (is_offset end) takes moves in
    let no_e = no_end (takes_groups mode) (is_offset start) (is_offset end) takes moves in
    let at = cut_agrees n s (moved_number (move_of start n) n peers.from) (is_before_start p.order p.keys mode start row)
    (λ j. key_starts_after p.order start (key_at p.keys row) (key_at p.keys j)) is
    (λ j l. start_by_key p.order p.keys ordered mode start row j takes no_s h l) (peers_start p.order p.keys row peers.from
    start no_s group.start) in
    let last = cut_agrees n e (moved_number (move_of end n) n peers.to)
    (λ j. not (is_after_end p.order p.keys mode end row j))
    (λ j. not (key_ends_before p.order end (key_at p.keys row) (key_at p.keys j))) upto
    (λ j l. ap not (end_by_key p.order p.keys ordered mode end row j takes no_e h l)) (peers_end p.order p.keys row peers.to
    end no_e group.end) in
    frame_cut p row s e r at last from to
