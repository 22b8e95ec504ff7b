-- While the counts fit, to wrap changes nothing.
use Rattle.std.proofs.Common.{◌≡◌, ℕ, ◌+◌, ◌^◌, ◌<◌, ◌≤◌, ◌%◌, Bool, true, false, List, [], ◌∷◌, length}
use Rattle.std.proofs.Common.{map, arith, cond, get_or, Option, Some, None, sym, ap, refl}
use Rattle.std.specs.List.{fold, count_by}
use Rattle.wvalues.specs.Meaning.{Meaning, Null}
use Rattle.wslide.specs.Aggregates.{is_value}
use Rattle.wslide.specs.Counts.{counts_joined, count_at}

test_at : (b : Bool) → cond b 1 0 ≤ 1
test_at true = omega arith
test_at false = omega arith

module _ (p : ℕ → Bool) where
  pub counted_from : (acc other : ℕ) (rows : List ℕ) → acc ≡ other → acc + length rows < 2 ^ 64
      → fold counts_joined acc (map (λ row. cond (p row) 1 0) rows) ≡ fold (λ a row. a + cond (p row) 1 0) other rows
  counted_from acc other [] e h = e
  counted_from acc other (row ∷ rows) e h =
      let small = test_at (p row) in
      let next : (acc + cond (p row) 1 0) % 2 ^ 64 ≡ other + cond (p row) 1 0 = omega arith in
      counted_from ((acc + cond (p row) 1 0) % 2 ^ 64) (other + cond (p row) 1 0) rows next (omega arith)

  pub counted : (rows : List ℕ) → length rows < 2 ^ 64 → fold counts_joined 0 (map (λ row. cond (p row) 1 0) rows) ≡ count_by p rows
  counted rows h = counted_from 0 0 rows refl (omega arith)

-- a row whose filter is true counts as one without a filter, and another row does not count
pub count_passed : (column : Option (List Meaning)) (tests : List Bool) (row : ℕ) → get_or tests row false ≡ true
    → count_at column None row ≡ count_at column (Some tests) row
count_passed None tests row h = ap (λ b. cond b 1 0) (sym h)
count_passed (Some values) tests row h = ap (λ b. cond (is_value (cond b (get_or values row Null) Null)) 1 0) (sym h)

pub count_left_out : (column : Option (List Meaning)) (tests : List Bool) (row : ℕ) → get_or tests row false ≡ false
    → 0 ≡ count_at column (Some tests) row
count_left_out None tests row h = ap (λ b. cond b 1 0) (sym h)
count_left_out (Some values) tests row h = ap (λ b. cond (is_value (cond b (get_or values row Null) Null)) 1 0) (sym h)
