-- While the sums fit, to wrap changes nothing.
use Rattle.std.proofs.Common.{◌≡◌, ℕ, ◌+◌, ◌*◌, ◌^◌, ◌<◌, ◌≤◌, Bool, List, [], ◌∷◌, map, Some}
use Rattle.std.proofs.Common.{None, ◌||◌, ℤ, pos, ◌+ℤ◌, arith, ap, sym, ◌∙◌, cond, refl}
use Rattle.std.specs.List.{fold, count_by, list_any, AllByRecursion}
use Rattle.std.specs.Prelude.{unsigned_abs}
use Rattle.std.proofs.lemmas.Int.{ints}
use Rattle.wvalues.specs.Meaning.{Meaning, Null, Int, Text}
use Rattle.wslide.specs.Aggregates.{is_value, number_of, IsInRange, count_of, sum_of, sum_or_none}
use Rattle.wslide.specs.Sums.{wrapped, sums_joined, sum_part}

abs_add : (a b : ℤ) → unsigned_abs (a +ℤ b) ≤ unsigned_abs a + unsigned_abs b
abs_add a b = grind (arith, ints)

add_zero : (a : ℤ) → a ≡ a +ℤ pos 0
add_zero a = omega (arith, ints)

add_assoc : (a b c : ℤ) → (a +ℤ b) +ℤ c ≡ a +ℤ (b +ℤ c)
add_assoc a b c = omega (arith, ints)

zero_add : (a : ℤ) → pos 0 +ℤ a ≡ a
zero_add a = omega (arith, ints)

-- what a row adds is below 2^95, and nothing where it feeds no value
small_number : (v : Meaning) → IsInRange v → unsigned_abs (number_of v) ≤ cond (is_value v) 1 0 * 2 ^ 95
small_number Null h = omega (arith, ints)
small_number (Int x) h = grind (arith, ints)
small_number (Text x) h = omega (arith, ints)

sum_by_from : (p : ℕ → Bool) (acc : ℕ) (rows : List ℕ) → fold (λ a row. a + cond (p row) 1 0) acc rows ≡ acc + count_by p rows
sum_by_from p acc [] = omega arith
sum_by_from p acc (row ∷ rows) = sum_by_from p (acc + cond (p row) 1 0) rows
    ∙ sym (ap (λ n. acc + n) (sum_by_from p (0 + cond (p row) 1 0) rows) ∙ omega arith)

-- a sum of two whole numbers that are small
unwrapped : (a z : ℤ) → unsigned_abs a + unsigned_abs z < 2 ^ 126 → wrapped (a +ℤ z) ≡ a +ℤ z
unwrapped a z h = grind (arith, ints)

module _ (feed : ℕ → Meaning) where
  count_more : (row : ℕ) (rows : List ℕ) → count_of feed (row ∷ rows) ≡ 0 + cond (is_value (feed row)) 1 0 + count_of feed rows
  count_more row rows = sum_by_from (λ r. is_value (feed r)) (0 + cond (is_value (feed row)) 1 0) rows

  exact_from : (acc : ℤ) (rows : List ℕ) → unsigned_abs acc + count_of feed rows * 2 ^ 95 < 2 ^ 126
      → AllByRecursion (λ row. IsInRange (feed row)) rows
      → fold sums_joined (Some acc) (map (λ row. sum_part (feed row)) rows) ≡ Some (acc +ℤ sum_of feed rows)
  exact_from acc [] h hs = ap Some (add_zero acc)
  exact_from acc (row ∷ rows) h hs =
      by (λ a b. exact_from a rows b hs.1) (feed row) hs.0 (omega (arith, count_more row rows))
    where
      by : ((a : ℤ) → unsigned_abs a + count_of feed rows * 2 ^ 95 < 2 ^ 126
          → fold sums_joined (Some a) (map (λ r. sum_part (feed r)) rows) ≡ Some (a +ℤ sum_of feed rows))
          → (v : Meaning) → IsInRange v → unsigned_abs acc + (cond (is_value v) 1 0 + count_of feed rows) * 2 ^ 95 < 2 ^ 126
          → fold sums_joined (sums_joined (Some acc) (sum_part v)) (map (λ r. sum_part (feed r)) rows)
          ≡ Some (acc +ℤ (number_of v +ℤ sum_of feed rows))
      by more Null r g = more acc (omega arith) ∙ ap (λ z. Some (acc +ℤ z)) (sym (zero_add (sum_of feed rows)))
      by more (Int x) r g =
          let size = small_number (Int x) r in
          let sum = abs_add acc x in
          ap (λ a. fold sums_joined (Some a) (map (λ r. sum_part (feed r)) rows)) (unwrapped acc x (omega arith))
          ∙ more (acc +ℤ x) (omega arith) ∙ ap Some (add_assoc acc x (sum_of feed rows))
      by more (Text x) r g =
          let size = small_number (Text x) r in
          let sum = abs_add acc (pos 0) in
          ap (λ a. fold sums_joined (Some a) (map (λ r. sum_part (feed r)) rows)) (unwrapped acc (pos 0) (omega arith))
          ∙ more (acc +ℤ pos 0) (omega arith) ∙ ap Some (add_assoc acc (pos 0) (sum_of feed rows))

  exact_where : (rows : List ℕ) → count_of feed rows * 2 ^ 95 < 2 ^ 126 → AllByRecursion (λ row. IsInRange (feed row)) rows
      → fold sums_joined None (map (λ row. sum_part (feed row)) rows) ≡ sum_or_none feed rows
  exact_where [] h hs = refl
  exact_where (row ∷ rows) h hs =
      by (λ b. exact_where rows b hs.1) (λ a b. exact_from a rows b hs.1) (feed row) hs.0 (omega (arith, count_more row rows))
    where
      by : (count_of feed rows * 2 ^ 95 < 2 ^ 126 → fold sums_joined None (map (λ r. sum_part (feed r)) rows) ≡ sum_or_none feed rows)
          → ((a : ℤ) → unsigned_abs a + count_of feed rows * 2 ^ 95 < 2 ^ 126
          → fold sums_joined (Some a) (map (λ r. sum_part (feed r)) rows) ≡ Some (a +ℤ sum_of feed rows))
          → (v : Meaning) → IsInRange v → (cond (is_value v) 1 0 + count_of feed rows) * 2 ^ 95 < 2 ^ 126
          → fold sums_joined (sum_part v) (map (λ r. sum_part (feed r)) rows)
          ≡ cond (is_value v || list_any (λ r. is_value (feed r)) rows) (Some (number_of v +ℤ sum_of feed rows)) None
      by none more Null r g = none (omega arith) ∙ ap (λ z. cond (list_any (λ r. is_value (feed r)) rows) (Some z) None)
          (sym (zero_add (sum_of feed rows)))
      by none more (Int x) r g = let size = small_number (Int x) r in more x (omega arith)
      by none more (Text x) r g = let size = small_number (Text x) r in more (pos 0) (omega arith)

  pub exact : (rows : List ℕ) → count_of feed rows < 2 ^ 31 → AllByRecursion (λ row. IsInRange (feed row)) rows
      → fold sums_joined None (map (λ row. sum_part (feed row)) rows) ≡ sum_or_none feed rows
  exact rows h hs = exact_where rows (omega arith) hs
