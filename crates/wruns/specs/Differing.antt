-- Rows of which no two share their keys.
use Rattle.std.specs.Prelude.{◌≡◌, true, ◌<◌, ℕ, Bool, List, length, filter}
use Rattle.std.specs.Ordering.{is_eq}
use Rattle.wvalues.specs.declared.key.SortKey.{SortKey}
use Rattle.wvalues.specs.Meaning.{Meaning}
use Rattle.wvalues.specs.Order.{keys_cmp}
use Rattle.wruns.specs.Runs.{keys_at}

-- rows of which no two share their keys
abbrev pub AllDiffer : List SortKey → List (List Meaning) → Type 0
AllDiffer keys rows = (i j : ℕ) → i < length rows → j < length rows
    → is_eq (keys_cmp keys (keys_at keys rows i) (keys_at keys rows j)) ≡ true → i ≡ j

-- where some are left out, still no two of those that stay share them
abbrev pub KeptDiffer : Type 0
KeptDiffer = (holds : List Meaning → Bool) (keys : List SortKey) (rows : List (List Meaning)) → AllDiffer keys rows
    → AllDiffer keys (filter holds rows)
