-- The folds of one partition after another.
use Rattle.std.proofs.Common.{◌≡◌, ℕ, zero, suc, ◌+◌, ◌*◌, ◌-◌, ◌<◌, ◌≤◌, List, [], ◌∷◌, ◌++◌, length, slice_range, ◌⊎◌, inl, inr}
use Rattle.std.proofs.Common.{take, drop, refl, sym, ap, ◌∙◌, arith, subst, length-take-le, length-drop, get_or-drop}
use Rattle.std.specs.List.{flat_map}
use Rattle.std.proofs.lemmas.List.{take_more, flat_map_more}
use Rattle.std.proofs.lemmas.Bool.{cases_lt}
use Rattle.wframe.specs.declared.frame.Span.{Span}
use Rattle.wframe.specs.Places.{span_at, Tiles}
use Rattle.wframe.specs.Partition.{Partitioned, partition_of}
use Rattle.wframe.specs.declared.frame.FrameExclusion.{FrameExclusion}
use Rattle.wframe.specs.declared.frame.FrameExclusion.TheVariants.{CurrentRow, Group, Ties, NoOthers}
use Rattle.wslide.specs.Frames.{most, most_by_two_queues, most_by_queues}

-- the place that some of the first spans reach
abbrev pub reached : ℕ → List Span → ℕ → ℕ
reached low ss zero = low
reached low [] (suc k) = low
reached low (s ∷ ss) (suc k) = reached s.to ss k

pub reached_from : (low : ℕ) (ss : List Span) (high k : ℕ) → Tiles low ss high → k < length ss → reached low ss k ≡ (span_at ss k).from
reached_from low [] high k t h = absurd (omega arith)
reached_from low (s ∷ ss) high zero t h = sym t.0
reached_from low (s ∷ ss) high (suc k) t h = reached_from s.to ss high k t.2 (omega arith)

pub reached_more : (low : ℕ) (ss : List Span) (k : ℕ) → k < length ss → reached low ss (k + 1) ≡ (span_at ss k).to
reached_more low [] k h = absurd (omega arith)
reached_more low (s ∷ ss) zero h = refl
reached_more low (s ∷ ss) (suc k) h =
    let e : suc k + 1 ≡ suc (k + 1) = omega arith in
    ap (reached low (s ∷ ss)) e ∙ reached_more s.to ss k (omega arith)

-- more spans reach as far, or further
reached_least : (low : ℕ) (ss : List Span) (high k : ℕ) → Tiles low ss high → low ≤ reached low ss k
reached_least low ss high zero t = omega arith
reached_least low [] high (suc k) t = omega arith
reached_least low (s ∷ ss) high (suc k) t = omega (arith, t.0, t.1, reached_least s.to ss high k t.2)

reached_rises : (low : ℕ) (ss : List Span) (high k m : ℕ) → Tiles low ss high → k ≤ m → reached low ss k ≤ reached low ss m
reached_rises low ss high zero m t h = reached_least low ss high m t
reached_rises low ss high (suc k) zero t h = absurd (omega arith)
reached_rises low [] high (suc k) (suc m) t h = omega arith
reached_rises low (s ∷ ss) high (suc k) (suc m) t h = reached_rises s.to ss high k m t.2 (omega arith)

-- how many rows lie before a span, counted from the begin of an earlier one
abbrev pub rows_up_to : List Span → ℕ → ℕ → ℕ
rows_up_to ss from k = reached 0 ss k - reached 0 ss from

-- the span of one of some partitions, whose first row is known
pub record IsAmong (ss : List Span) (from to k first : ℕ) (s : Span) : Type 0 where
  pub begins : first ≤ s.from
  pub ends : s.to - first ≤ (span_at ss (to - 1)).to - (span_at ss from).from
  pub before : rows_up_to ss from k ≡ s.from - first
  pub with_it : s.to - first ≡ rows_up_to ss from (k + 1)

pub among : (ss : List Span) (high from to k first : ℕ) (s : Span) → Tiles 0 ss high → from ≤ k → k < to → to ≤ length ss
    → first ≡ (span_at ss from).from → s ≡ span_at ss k → IsAmong ss from to k first s
among ss high from to k first s t low below within is_first is_own =
    let begin = reached_from 0 ss high from t (omega arith) in
    let own = reached_from 0 ss high k t (omega arith) in
    let end = reached_more 0 ss k (omega arith) in
    let last = reached_more 0 ss (to - 1) (omega arith) in
    let rise = reached_rises 0 ss high from k t low in
    let rise_on = reached_rises 0 ss high (k + 1) (to - 1 + 1) t (omega arith) in
    let from_is = ap (λ (x : Span). x.from) is_own in
    let to_is = ap (λ (x : Span). x.to) is_own in
    record {
      begins = omega arith;
      ends = omega arith;
      before = omega arith;
      with_it = omega arith;
    }

-- the rows of the partitions from one on up to another are as many as those of a fold over them
pub rows_until : (ss : List Span) (high from to rows : ℕ) → Tiles 0 ss high → to ≤ length ss
    → (from < to → rows ≡ (span_at ss (to - 1)).to - (span_at ss from).from) → rows_up_to ss from to ≤ rows
rows_until ss high from to rows t within given = by_case (cases_lt from to)
  where
    by_case : (from < to) ⊎ (to ≤ from) → rows_up_to ss from to ≤ rows
    by_case (inl some) =
        let whole : to - 1 + 1 ≡ to = omega arith in
        let begin = reached_from 0 ss high from t (omega arith) in
        let end = reached_more 0 ss (to - 1) (omega arith) in
        let same = ap (reached 0 ss) whole in
        let own = given some in
        omega arith
    by_case (inr none) = let rise = reached_rises 0 ss high to from t none in omega arith

-- a partition more
pub one_more : {X : Type 0} (f : Span → List X) (ss : List Span) (from k : ℕ) → from ≤ k → k < length ss
    → flat_map f (slice_range ss from (k + 1)) ≡ flat_map f (slice_range ss from k) ++ f (span_at ss k)
one_more f ss from k h below =
    let rest = drop from ss in
    let one : Span = record { from = 0; to = 0 } in
    let number : k + 1 - from ≡ k - from + 1 = omega arith in
    let whole : from + (k - from) ≡ k = omega arith in
    let last : span_at rest (k - from) ≡ span_at ss k = get_or-drop from ss (k - from) one ∙ ap (span_at ss) whole in
    ap (λ n. flat_map f (take n rest)) number
    ∙ ap (flat_map f) (take_more rest (k - from) one (omega (arith, length-drop from ss)))
    ∙ sym (flat_map_more f [] (take (k - from) rest) (span_at rest (k - from)))
    ∙ ap (λ s. flat_map f (slice_range ss from k) ++ f s) last

pub partition_long : (all : Partitioned) (s : Span) → s.to ≤ length all.keys → length (partition_of all s).keys ≡ s.to - s.from
partition_long all s h = length-take-le (s.to - s.from) (drop s.from all.keys) (omega (arith, length-drop s.from all.keys))

-- the joins of some rows and of some more
joins_added : (e : FrameExclusion) (m n : ℕ) → most_by_queues e m + most_by_queues e n ≡ most_by_queues e (m + n)
joins_added NoOthers m n = omega arith
joins_added CurrentRow m n = omega arith
joins_added Group m n = omega arith
joins_added Ties m n = omega arith

joins_least : (e : FrameExclusion) (n joins : ℕ) → joins ≤ most e n → joins ≤ most_by_two_queues n → joins ≤ most_by_queues e n
joins_least NoOthers n joins by few = by
joins_least CurrentRow n joins by few = few
joins_least Group n joins by few = few
joins_least Ties n joins by few = few

rising_joins : (e : FrameExclusion) (m n : ℕ) → m ≤ n → most_by_queues e m ≤ most_by_queues e n
rising_joins NoOthers m n h = omega arith
rising_joins CurrentRow m n h = omega arith
rising_joins Group m n h = omega arith
rising_joins Ties m n h = omega arith

pub few_joins : (e : FrameExclusion) (n : ℕ) → most_by_queues e n ≤ 8 * n
few_joins NoOthers n = omega arith
few_joins CurrentRow n = omega arith
few_joins Group n = omega arith
few_joins Ties n = omega arith

-- the joins of a partition more
pub joins_more : (e other : FrameExclusion) (start before after from to : ℕ) → other ≡ e → from ≤ to
    → before ≤ start + most_by_queues e from → after ≤ before + most other (to - from)
    → after ≤ before + most_by_two_queues (to - from) → after ≤ start + most_by_queues e to
joins_more e other start before after from to same h so_far by few =
    let at : after ≤ before + most e (to - from) = subst (λ x. after ≤ before + most x (to - from)) same by in
    let own : after - before ≤ most_by_queues e (to - from) = joins_least e (to - from) (after - before) (omega arith) (omega arith) in
    let both = joins_added e from (to - from) in
    let whole : from + (to - from) ≡ to = omega arith in
    let all = ap (most_by_queues e) whole in
    omega arith

pub joins_within : (e : FrameExclusion) (start joins m n : ℕ) → m ≤ n → joins ≤ start + most_by_queues e m
    → joins ≤ start + most_by_queues e n
joins_within e start joins m n h few = let more = rising_joins e m n h in omega arith
