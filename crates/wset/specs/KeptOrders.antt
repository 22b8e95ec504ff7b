-- What is kept of the rows of all live segments: an order of them, and whether no two share some keys.
use Rattle.std.specs.Prelude.{◌≡◌, ◌<◌, ◌/◌, ◌%◌, ◌↔◌, IsTrue, ℕ, List, map}
use Rattle.wvalues.specs.Meaning.{Meaning}
use Rattle.wruns.specs.Differing.{AllDiffer}
use Rattle.wruns.specs.Refs.{refs_by}
use Rattle.wruns.specs.Runs.{joined}
use Rattle.wruns.specs.declared.refs.RowRef.{RowRef}
use Rattle.wset.specs.declared.differing.Differing.{Differing}
use Rattle.wset.specs.declared.kept_order.KeptOrder.{KeptOrder}

-- the row of a number
abbrev pub unpacked : ℕ → ℕ → RowRef
unpacked width number = record { segment = number / width; row = number % width }

-- it is the one list of these rows by its keys
pub record IsOrderOf (rows : List (List (List Meaning))) (order : KeptOrder) : Type 0 where
  pub wide : 0 < order.width
  pub list : map (unpacked order.width) order.rows.items ≡ refs_by order.keys.items rows

-- it says that no two of these rows share its keys just where none do
abbrev pub IsNoteOf : List (List (List Meaning)) → Differing → Type 0
IsNoteOf rows note = IsTrue note.differ ↔ AllDiffer note.keys.items (joined rows)
