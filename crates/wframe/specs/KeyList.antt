-- The values that one row is ordered by.
use Rattle.std.specs.Prelude.{ℕ, List, map, slice_index_or}
use Rattle.wvalues.specs.Meaning.{Meaning, meaning}
use Rattle.wframe.specs.Cells.{meanings}
use Rattle.wframe.specs.declared.key_list.PlacedList.{PlacedList}
use Rattle.wframe.specs.declared.key_list.KeyList.{KeyList}
use Rattle.wframe.specs.declared.key_list.KeyList.TheVariants.{Lent, Placed, Whole}

-- the values of a row at some places, and this one at a place behind the row
abbrev pub values_at : Meaning → List ℕ → List Meaning → List Meaning
values_at none places row = map (λ place. slice_index_or row place none) places

abbrev pub list_placed : PlacedList → List Meaning
list_placed l = values_at (meaning l.null.now) l.places.now (map meaning l.cells.now)

-- the values of the row
abbrev pub list_in : KeyList → List Meaning
list_in (Lent l) = meanings l.cells.now
list_in (Placed l) = list_placed l
list_in (Whole l) = map meaning l.cells.now
