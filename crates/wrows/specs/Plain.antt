-- Kept rows, and the items of rows in order (<query specification>, <order by clause>, <result offset clause>, <fetch first clause>).
use Rattle.std.specs.Prelude.{ℕ, ◌+◌, Bool, false, nat_le, List, map, length, take, drop, min, Option, Some, None, Result, Ok}
use Rattle.wvalues.specs.declared.key.SortKey.{SortKey}
use Rattle.wvalues.specs.Meaning.{Meaning}
use Rattle.wframe.specs.Peers.{key_at}
use Rattle.wplan.specs.Formula.{Formula}
use Rattle.wplan.specs.Plans.{SelectPlan}
use Rattle.wrows.specs.declared.fault.AnswerFault.{AnswerFault}
use Rattle.wrows.specs.Outcomes.{◌>>=◌}
use Rattle.wrows.specs.Columns.{Row, held_rows, not_too_many, lists_of}
pub use Rattle.wsort.specs.Ordered.{numbers_by}

-- rows by their keys, and then by number
abbrev pub ordered : List SortKey → List (List Meaning) → List Row → List Row
ordered order keys rows = map (key_at rows) (numbers_by order keys (length rows))

-- at most so many, where there is a limit
abbrev pub at_most_limit : Option ℕ → ℕ → ℕ
at_most_limit None n = n
at_most_limit (Some limit) n = min limit n

-- without the first ones, and of the others the first
abbrev pub cut : {X : Type 0} → ℕ → Option ℕ → List X → List X
cut offset None rows = drop offset rows
cut offset (Some limit) rows = take limit (drop offset rows)

-- whether so few are asked for, with those left out first, that they are selected, without an order of all
abbrev pub is_selected : ℕ → Option ℕ → Bool
is_selected offset None = false
is_selected offset (Some limit) = nat_le (offset + limit) 1024

-- the rows that a condition keeps, if they are not too many
abbrev pub kept_of : Option Formula → List Row → Result (List Row) AnswerFault
kept_of condition rows = held_rows condition rows >>= not_too_many

-- the items of the rows that are asked for, in order. All items and keys are evaluated, on every row
abbrev pub ordered_of : List Formula → List Formula → List SortKey → ℕ → Option ℕ → List Row → Result (List Row) AnswerFault
ordered_of items keys order offset limit rows = do
  listed ← lists_of items rows
  by ← lists_of keys rows
  Ok (cut offset limit (ordered order by listed))

-- the items that a SELECT answers of some rows
abbrev pub items_of : SelectPlan → List Row → Result (List Row) AnswerFault
items_of s rows = ordered_of (map (λ o. o.value) s.items) (map (λ k. k.value) s.keys) (map (λ k. k.order) s.keys) s.offset s.limit rows
