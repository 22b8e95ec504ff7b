-- Values in their range, one by one.
use Rattle.std.proofs.Common.{ℕ, zero, suc, ◌<◌, Bool, true, false, cond, List, [], ◌∷◌, length, get_or, Option, arith}
use Rattle.std.specs.Prelude.{All}
use Rattle.wvalues.specs.Meaning.{Meaning, Null}
use Rattle.wslide.specs.Aggregates.{passes, fed, IsInRange}

other_default : (values : List Meaning) (row : ℕ) (d : Meaning) → row < length values → IsInRange (get_or values row Null)
    → IsInRange (get_or values row d)
other_default [] row d h r = absurd (omega arith)
other_default (x ∷ xs) zero d h r = r
other_default (x ∷ xs) (suc row) d h r = other_default xs row d (omega arith) r

pub all_in_range : (values : List Meaning) → ((row : ℕ) → row < length values → IsInRange (get_or values row Null)) → All IsInRange values
all_in_range values each = λ row d h. other_default values row d h (each row h)

at_each : (values : List Meaning) (row : ℕ) → ((k : ℕ) → k < length values → IsInRange (get_or values k Null))
    → IsInRange (get_or values row Null)
at_each [] row each = tt
at_each (x ∷ xs) zero each = each 0 (omega arith)
at_each (x ∷ xs) (suc row) each = at_each xs row (λ k h. each (suc k) (omega arith))

or_null : (b : Bool) (v : Meaning) → IsInRange v → IsInRange (cond b v Null)
or_null true v h = h
or_null false v h = tt

pub fed_in_range : (values : List Meaning) → ((row : ℕ) → row < length values → IsInRange (get_or values row Null))
    → (filter : Option (List Bool)) (row : ℕ) → IsInRange (fed values filter row)
fed_in_range values each filter row = or_null (passes filter row) (get_or values row Null) (at_each values row each)
