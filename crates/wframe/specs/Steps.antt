-- Rows in order, one step at a time.
use Rattle.std.specs.Prelude.{ℕ, ◌+◌, Bool, true, false, not, List}
use Rattle.std.specs.Ordering.{is_gt}
use Rattle.std.specs.declared.cmp.Ordering.{Ordering}
use Rattle.std.specs.declared.cmp.Ordering.TheVariants.{Less, Equal, Greater}
use Rattle.wvalues.specs.Meaning.{Meaning}
use Rattle.wframe.specs.Peers.{key_at}

-- whether an order of partition values allows a step, where they are equal by the keys
abbrev pub allows : Ordering → Bool → Bool
allows Less in_keys = true
allows Equal in_keys = in_keys
allows Greater in_keys = false

-- whether a row may stand right before the next one
abbrev pub is_step : (List Meaning → List Meaning → Ordering) → List (List Meaning)
    → (List Meaning → List Meaning → Ordering) → List (List Meaning) → ℕ → Bool
is_step value_cmp values cmp keys i = allows (value_cmp (key_at values i) (key_at values (i + 1)))
    (not (is_gt (cmp (key_at keys i) (key_at keys (i + 1)))))
