-- The bounds of a frame are cuts.
use Rattle.std.proofs.Common.{◌≡◌, ℕ, ℤ, pos, ◌+◌, ◌<◌, ◌≤◌, ◌+ℤ◌, ◌-ℤ◌, Bool, true, false, not}
use Rattle.std.proofs.Common.{List, [], ◌∷◌, ltb, ap, ◌∙◌, refl, arith, ltb-true, lt-ltb}
use Rattle.std.specs.Ordering.{is_gt, int_cmp, ordering_then}
use Rattle.std.proofs.lemmas.Int.{ints}
use Rattle.std.proofs.lemmas.Bool.Decides.{nat_tests}
use Rattle.wvalues.specs.declared.key.SortKey.{SortKey}
use Rattle.wvalues.specs.Meaning.{Meaning, Null, Int, Text}
use Rattle.wvalues.specs.Order.{key_cmp, keys_cmp}
use Rattle.wvalues.specs.OrderLaws.{keys_total}
use Rattle.wframe.specs.declared.frame.FrameBound.{FrameBound}
use Rattle.wframe.specs.declared.frame.FrameBound.TheVariants.{UnboundedPreceding, Preceding, CurrentRow, Following, UnboundedFollowing}
use Rattle.wframe.specs.Bounds.{starts_after, ends_before, key_starts_after, key_ends_before, along, against, moved}
use Rattle.wframe.specs.Cuts.{IsCut}
use Rattle.wframe.proofs.CutFacts.{Rises, start_cut, end_cut, no_cut, whole_cut}

lt_more : (a b c d : ℕ) → (a < b → c < d) → ltb a b ≡ true → ltb c d ≡ true
lt_more a b c d f h = lt-ltb c d (f (ltb-true a b h))

not_lt_more : (a b c d : ℕ) → (c < d → a < b) → not (ltb a b) ≡ true → not (ltb c d) ≡ true
not_lt_more a b c d f h = grind (arith, nat_tests)

module _ (n : ℕ) (at : ℕ → ℕ) (rises : (i j : ℕ) → i ≤ j → j < n → at i ≤ at j) where
  pub number_start_cut : (bound : FrameBound) → IsCut n (λ i j. starts_after bound (at i) (at j))
  number_start_cut UnboundedPreceding = no_cut n
  number_start_cut (Preceding d) = record {
    down = λ i j k hi l hk. lt_more (at k + d) (at i) (at j + d) (at i) (λ h. omega (arith, rises j k l hk));
    rises = λ i k j l hk hj. lt_more (at j + d) (at i) (at j + d) (at k) (λ h. omega (arith, rises i k l hk));
  }
  number_start_cut CurrentRow = record {
    down = λ i j k hi l hk. lt_more (at k) (at i) (at j) (at i) (λ h. omega (arith, rises j k l hk));
    rises = λ i k j l hk hj. lt_more (at j) (at i) (at j) (at k) (λ h. omega (arith, rises i k l hk));
  }
  number_start_cut (Following d) = record {
    down = λ i j k hi l hk. lt_more (at k) (at i + d) (at j) (at i + d) (λ h. omega (arith, rises j k l hk));
    rises = λ i k j l hk hj. lt_more (at j) (at i + d) (at j) (at k + d) (λ h. omega (arith, rises i k l hk));
  }
  number_start_cut UnboundedFollowing = whole_cut n

  pub number_end_cut : (bound : FrameBound) → IsCut n (λ i j. not (ends_before bound (at i) (at j)))
  number_end_cut UnboundedPreceding = no_cut n
  number_end_cut (Preceding d) = record {
    down = λ i j k hi l hk. not_lt_more (at i) (at k + d) (at i) (at j + d) (λ h. omega (arith, rises j k l hk));
    rises = λ i k j l hk hj. not_lt_more (at i) (at j + d) (at k) (at j + d) (λ h. omega (arith, rises i k l hk));
  }
  number_end_cut CurrentRow = record {
    down = λ i j k hi l hk. not_lt_more (at i) (at k) (at i) (at j) (λ h. omega (arith, rises j k l hk));
    rises = λ i k j l hk hj. not_lt_more (at i) (at j) (at k) (at j) (λ h. omega (arith, rises i k l hk));
  }
  number_end_cut (Following d) = record {
    down = λ i j k hi l hk. not_lt_more (at i + d) (at k) (at i + d) (at j) (λ h. omega (arith, rises j k l hk));
    rises = λ i k j l hk hj. not_lt_more (at i + d) (at j) (at k + d) (at j) (λ h. omega (arith, rises i k l hk));
  }
  number_end_cut UnboundedFollowing = whole_cut n

-- the order of numbers stays when both are moved alike
int_cmp-add : (x y z : ℤ) → int_cmp (x +ℤ z) (y +ℤ z) ≡ int_cmp x y
int_cmp-add x y z = grind (arith, ints)

int_cmp-sub : (x y z : ℤ) → int_cmp (x -ℤ z) (y -ℤ z) ≡ int_cmp x y
int_cmp-sub x y z = grind (arith, ints)

pub along_same : (d nulls : Bool) (col n : ℕ) (x y : Meaning) → let k : SortKey =
    record { col = col; desc = d; nulls_first = nulls } in key_cmp k (along k n x) (along k n y) ≡ key_cmp k x y
along_same d nulls col n Null Null = refl
along_same d nulls col n Null (Int y) = refl
along_same d nulls col n Null (Text y) = refl
along_same d nulls col n (Int x) Null = refl
along_same d nulls col n (Text x) Null = refl
along_same true nulls col n (Int x) (Int y) = int_cmp-sub y x (pos n)
along_same false nulls col n (Int x) (Int y) = int_cmp-add x y (pos n)
along_same d nulls col n (Int x) (Text y) = refl
along_same d nulls col n (Text x) (Int y) = refl
along_same d nulls col n (Text x) (Text y) = refl

pub against_same : (d nulls : Bool) (col n : ℕ) (x y : Meaning) → let k : SortKey =
    record { col = col; desc = d; nulls_first = nulls } in key_cmp k (against k n x) (against k n y) ≡ key_cmp k x y
against_same d nulls col n Null Null = refl
against_same d nulls col n Null (Int y) = refl
against_same d nulls col n Null (Text y) = refl
against_same d nulls col n (Int x) Null = refl
against_same d nulls col n (Text x) Null = refl
against_same true nulls col n (Int x) (Int y) = int_cmp-add y x (pos n)
against_same false nulls col n (Int x) (Int y) = int_cmp-sub x y (pos n)
against_same d nulls col n (Int x) (Text y) = refl
against_same d nulls col n (Text x) (Int y) = refl
against_same d nulls col n (Text x) (Text y) = refl

-- lists of keys stay in their order when their first keys are moved alike
pub moved_same : (move : SortKey → ℕ → Meaning → Meaning) → ((k : SortKey) (n : ℕ) (x y : Meaning)
    → key_cmp k (move k n x) (move k n y) ≡ key_cmp k x y) → (ks : List SortKey) (n : ℕ) (xs ys : List Meaning)
    → keys_cmp ks (moved move ks n xs) (moved move ks n ys) ≡ keys_cmp ks xs ys
moved_same move same [] n xs ys = refl
moved_same move same (k ∷ ks) n [] [] = refl
moved_same move same (k ∷ ks) n [] (y ∷ ys) = refl
moved_same move same (k ∷ ks) n (x ∷ xs) [] = refl
moved_same move same (k ∷ ks) n (x ∷ xs) (y ∷ ys) = ap (λ o. ordering_then o (keys_cmp ks xs ys)) (same k n x y)

module _ (ks : List SortKey) (n : ℕ) (key : ℕ → List Meaning) (rises : Rises (keys_cmp ks) n key) where
  moved_rises : (move : SortKey → ℕ → Meaning → Meaning) (d : ℕ) → ((k : SortKey) (m : ℕ) (x y : Meaning)
      → key_cmp k (move k m x) (move k m y) ≡ key_cmp k x y) → Rises (keys_cmp ks) n (λ i. moved move ks d (key i))
  moved_rises move d same i j l h = ap is_gt (moved_same move same ks d (key i) (key j)) ∙ rises i j l h

  against_rises : (d : ℕ) → Rises (keys_cmp ks) n (λ i. moved against ks d (key i))
  against_rises d = moved_rises against d (λ k m x y. against_same k.desc k.nulls_first k.col m x y)

  along_rises : (d : ℕ) → Rises (keys_cmp ks) n (λ i. moved along ks d (key i))
  along_rises d = moved_rises along d (λ k m x y. along_same k.desc k.nulls_first k.col m x y)

  pub key_start_cut : (bound : FrameBound) → IsCut n (λ i j. key_starts_after ks bound (key i) (key j))
  key_start_cut UnboundedPreceding = no_cut n
  key_start_cut (Preceding d) = start_cut (keys_total ks) n key (λ i. moved against ks d (key i)) rises (against_rises d)
  key_start_cut CurrentRow = start_cut (keys_total ks) n key key rises rises
  key_start_cut (Following d) = start_cut (keys_total ks) n key (λ i. moved along ks d (key i)) rises (along_rises d)
  key_start_cut UnboundedFollowing = whole_cut n

  pub key_end_cut : (bound : FrameBound) → IsCut n (λ i j. not (key_ends_before ks bound (key i) (key j)))
  key_end_cut UnboundedPreceding = no_cut n
  key_end_cut (Preceding d) = end_cut (keys_total ks) n key (λ i. moved against ks d (key i)) rises (against_rises d)
  key_end_cut CurrentRow = end_cut (keys_total ks) n key key rises rises
  key_end_cut (Following d) = end_cut (keys_total ks) n key (λ i. moved along ks d (key i)) rises (along_rises d)
  key_end_cut UnboundedFollowing = whole_cut n
