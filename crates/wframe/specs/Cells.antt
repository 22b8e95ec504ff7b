-- Rows of lent values, laid out one after another.
use Rattle.std.specs.Prelude.{ℕ, zero, suc, List, [], ◌∷◌, map, take, drop}
use Rattle.std.specs.Borrow.{Bor}
use Rattle.std.specs.declared.cmp.Ordering.{Ordering}
use Rattle.std.specs.declared.cmp.Ordering.TheVariants.{Equal}
use Rattle.wvalues.specs.declared.key.SortKey.{SortKey}
use Rattle.wvalues.specs.declared.value.Value.{Value}
use Rattle.wvalues.specs.Meaning.{Meaning, meaning}

-- what lent values say
abbrev pub meanings : List (Bor Value) → List Meaning
meanings cells = map (λ cell. meaning cell.now) cells

-- an order that only keys tell
abbrev pub if_keyed : List SortKey → Ordering → Ordering
if_keyed [] order = Equal
if_keyed (k ∷ ks) order = order

-- what the first rows of this width say
abbrev pub rows_of : ℕ → ℕ → List (Bor Value) → List (List Meaning)
rows_of width zero cells = []
rows_of width (suc n) cells = meanings (take width cells) ∷ rows_of width n (drop width cells)
