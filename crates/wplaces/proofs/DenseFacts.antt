-- Ranks without gaps, one row after another.
use Rattle.std.proofs.Common.{◌≡◌, ◌+◌, ◌-◌, ◌<◌, ◌≤◌, ℕ, suc, cond, List, [], ◌∷◌, length, true, false, sym, ap, ◌∙◌, arith}
use Rattle.std.specs.List.{list_any}
use Rattle.std.specs.Ordering.{is_eq}
use Rattle.std.specs.declared.cmp.Ordering.{Ordering}
use Rattle.std.proofs.lemmas.Bool.Decides.{nat_tests}
use Rattle.wvalues.specs.Meaning.{Meaning}
use Rattle.wvalues.specs.Order.{keys_cmp}
use Rattle.wvalues.specs.declared.key.SortKey.{SortKey}
use Rattle.wframe.specs.declared.frame.Span.{Span}
use Rattle.wframe.specs.Places.{is_in_span}
use Rattle.wframe.specs.Partition.{Partition}
use Rattle.wframe.specs.Peers.{AreOrdered, are_peers, distinct, group_number, smaller_keys}
use Rattle.wplaces.specs.Ranks.{dense_rank_of}

-- one of each run of equals, of which there are no more than elements
pub distinct_short : {K : Type 0} (cmp : K → K → Ordering) (xs : List K) → length (distinct cmp xs) ≤ length xs
distinct_short cmp [] = omega arith
distinct_short cmp (x ∷ xs) =
    let more : length (distinct cmp xs) ≤ length xs = distinct_short cmp xs in
    elim (list_any (λ y. is_eq (cmp x y)) xs) as (λ b. length (cond b (distinct cmp xs) (x ∷ distinct cmp xs))
    ≤ suc (length xs)) [ true ↦ omega (arith, more) | false ↦ omega (arith, more) ]

-- the row after a span's last place is not in it, and after another of its places it is
pub past_last : (s : Span) (row : ℕ) → s.to ≡ row + 1 → is_in_span s (row + 1) ≡ false
past_last s row e = grind (arith, nat_tests)

pub before_last : (s : Span) (row : ℕ) → s.from ≤ row → row < s.to → (s.to ≡ row + 1 → ⊥) → is_in_span s (row + 1) ≡ true
before_last s row l h e = grind (arith, nat_tests)

-- what the law of groups says of one partition
module _ (p : Partition) (row before : ℕ) (s : Span) (h : row < length p.keys) (some : row ≡ 0 → ⊥)
    (ordered : AreOrdered (keys_cmp p.order) p.keys)
    (ranked : (j : ℕ) → row ≡ j + 1 → before ≡ dense_rank_of p j)
    (each : (j : ℕ) → j < length p.keys → is_in_span s j ≡ are_peers (keys_cmp p.order) p.keys (row - 1) j)
    (from : s.from ≤ row - 1) (to : row - 1 < s.to) where
  abbrev number : ℕ → ℕ
  number = group_number (keys_cmp p.order) p.keys

  at : (row - 1) + 1 ≡ row
  at = omega (arith, some)

  pub dense_same : row < s.to
      → ((ks : List SortKey) (keys : List (List Meaning)) (i : ℕ) → AreOrdered (keys_cmp ks) keys → i + 1 < length keys
      → are_peers (keys_cmp ks) keys i (i + 1) ≡ true → group_number (keys_cmp ks) keys (i + 1) ≡ group_number (keys_cmp ks) keys i)
      → before ≡ dense_rank_of p row
  dense_same l peers =
      let tied : are_peers (keys_cmp p.order) p.keys (row - 1) (row - 1 + 1) ≡ true =
      sym (each (row - 1 + 1) (omega (arith, at, h))) ∙ before_last s (row - 1) from to (λ e. absurd (omega (arith, at, e, l))) in
      ranked (row - 1) (sym at) ∙ ap (λ n. 1 + n) (sym (peers p.order p.keys (row - 1) ordered (omega (arith, at, h)) tied))
      ∙ ap (λ i. 1 + number i) at

  pub dense_next : s.to ≤ row
      → ((ks : List SortKey) (keys : List (List Meaning)) (i : ℕ) → AreOrdered (keys_cmp ks) keys → i + 1 < length keys
      → are_peers (keys_cmp ks) keys i (i + 1) ≡ false → group_number (keys_cmp ks) keys (i + 1)
      ≡ group_number (keys_cmp ks) keys i + 1)
      → before + 1 ≡ dense_rank_of p row
  dense_next l others =
      let last : s.to ≡ row - 1 + 1 = omega (arith, at, l, to) in
      let other : are_peers (keys_cmp p.order) p.keys (row - 1) (row - 1 + 1) ≡ false =
      sym (each (row - 1 + 1) (omega (arith, at, h))) ∙ past_last s (row - 1) last in
      let is : before ≡ 1 + number (row - 1) = ranked (row - 1) (sym at) in
      let step : number (row - 1 + 1) ≡ number (row - 1) + 1 = others p.order p.keys (row - 1) ordered (omega (arith, at, h)) other in
      let next : before + 1 ≡ 1 + number (row - 1 + 1) = omega (arith, is, step) in
      next ∙ ap (λ i. 1 + number i) at

pub dense_first : (p : Partition) (row : ℕ) → row < length p.keys → row ≡ 0 → AreOrdered (keys_cmp p.order) p.keys
    → ((ks : List SortKey) (keys : List (List Meaning)) → AreOrdered (keys_cmp ks) keys → 0 < length keys
    → group_number (keys_cmp ks) keys 0 ≡ 0) → 1 ≡ dense_rank_of p row
dense_first p row h e ordered first =
    sym (ap (λ i. 1 + group_number (keys_cmp p.order) p.keys i) e ∙ ap (λ n. 1 + n) (first p.order p.keys ordered (omega (arith, h, e))))

-- a rank is no more than the row's number
pub dense_few : (p : Partition) (row before : ℕ) (s : Span) → (row ≡ 0 → ⊥)
    → ((j : ℕ) → row ≡ j + 1 → before ≡ dense_rank_of p j)
    → s.from ≡ length (smaller_keys (keys_cmp p.order) p.keys (row - 1)) → s.from ≤ row - 1 → before ≤ row
dense_few p row before s some ranked smaller from =
    let at : row ≡ (row - 1) + 1 = omega (arith, some) in
    let is : before ≡ 1 + group_number (keys_cmp p.order) p.keys (row - 1) = ranked (row - 1) at in
    let few : group_number (keys_cmp p.order) p.keys (row - 1) ≤ length (smaller_keys (keys_cmp p.order) p.keys (row - 1)) =
    distinct_short (keys_cmp p.order) (smaller_keys (keys_cmp p.order) p.keys (row - 1)) in
    omega (arith, is, few, smaller, from, at)
