-- Rows in the order of a window, whatever its frame (<window clause>).
use Rattle.std.specs.Prelude.{ℕ, List, map, length, Result, Ok}
use Rattle.std.specs.Ordering.{on, then_cmp}
use Rattle.std.specs.declared.cmp.Ordering.{Ordering}
use Rattle.wvalues.specs.declared.key.SortKey.{SortKey}
use Rattle.wvalues.specs.Meaning.{Meaning}
use Rattle.wvalues.specs.Order.{keys_cmp}
use Rattle.wframe.specs.Peers.{key_at}
use Rattle.wframe.specs.Places.{places}
use Rattle.wframe.specs.Sorting.{sorted}
use Rattle.wplan.specs.Plans.{WindowPlan}
use Rattle.wrows.specs.declared.fault.AnswerFault.{AnswerFault}
use Rattle.wrows.specs.Outcomes.{◌>>=◌}
use Rattle.wrows.specs.Columns.{Row}
use Rattle.wcalls.specs.Windows.{Windowed, windowed}

-- the numbers of rows in an order, and there the partition values and the keys of each
pub record Ordered : Type 0 where
  pub rows : List ℕ
  pub values : List (List Meaning)
  pub value_order : List SortKey
  pub keys : List (List Meaning)
  pub order : List SortKey

-- by partition values, and then by keys
abbrev pub both_cmp : List (List Meaning) → List SortKey → List (List Meaning) → List SortKey → ℕ → ℕ → Ordering
both_cmp values value_order keys order = then_cmp (on (key_at values) (keys_cmp value_order)) (on (key_at keys) (keys_cmp order))

-- the numbers of rows by partition values, by keys and then by number
abbrev pub numbers_in_order : List (List Meaning) → List SortKey → List (List Meaning) → List SortKey → List ℕ
numbers_in_order values value_order keys order = sorted (both_cmp values value_order keys order) (places (length values))

-- rows in this order
abbrev pub ordered_by : List (List Meaning) → List SortKey → List (List Meaning) → List SortKey → Ordered
ordered_by values value_order keys order = record {
  rows = numbers_in_order values value_order keys order;
  values = map (key_at values) (numbers_in_order values value_order keys order);
  value_order = value_order;
  keys = map (key_at keys) (numbers_in_order values value_order keys order);
  order = order;
}

-- the rows of a window in its order
abbrev pub in_order : Windowed → Ordered
in_order w = ordered_by w.values w.value_order w.keys w.order

-- rows in the order of the window that a plan says
abbrev pub ordered_rows : List Row → WindowPlan → Result Ordered AnswerFault
ordered_rows rows plan = windowed rows plan >>= λ w. Ok (in_order w)

-- the numbers of rows in the order of the window that a plan says
abbrev pub window_numbers : List Row → WindowPlan → Result (List ℕ) AnswerFault
window_numbers rows plan = ordered_rows rows plan >>= λ o. Ok o.rows
