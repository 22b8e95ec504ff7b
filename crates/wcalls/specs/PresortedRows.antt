-- Rows that are presorted in the order of a window.
use Rattle.std.specs.Prelude.{◌≡◌, true, List, Ok}
use Rattle.wvalues.specs.Order.{keys_cmp}
use Rattle.wframe.specs.Codes.{TellApart}
use Rattle.wplan.specs.Plans.{WindowPlan}
use Rattle.wrows.specs.Columns.{Row}
use Rattle.wcalls.specs.declared.window_order.Presorted.{Presorted}
use Rattle.wcalls.specs.Ordered.{Ordered, ordered_rows, window_numbers}

-- no two rows share the keys of the window that a plan says: their numbers tell them apart
abbrev pub KeysDiffer : List Row → WindowPlan → Type 0
KeysDiffer rows plan = (o : Ordered) → ordered_rows rows plan ≡ Ok o → TellApart (keys_cmp o.order) o.keys o.rows

-- the numbers of rows in the order of the window that a plan says, and whether it is known that no two share their keys
pub record IsPresorted (rows : List Row) (plan : WindowPlan) (p : Presorted) : Type 0 where
  pub numbers : window_numbers rows plan ≡ Ok p.numbers.items
  pub differ : p.unique_keys ≡ true → KeysDiffer rows plan
