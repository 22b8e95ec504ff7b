-- Lists of values that rows are ordered by, as they are lent.
use Rattle.std.specs.Prelude.{◌≡◌, ℕ, ◌*◌, ◌+◌, ◌≤◌, All, List, [], length, map, take, drop}
use Rattle.std.specs.Borrow.{Bor}
use Rattle.wvalues.specs.declared.value.Value.{Value}
use Rattle.wvalues.specs.Meaning.{Meaning, meaning}
use Rattle.wframe.specs.Cells.{rows_of}
use Rattle.wframe.specs.KeyList.{values_at}
use Rattle.wframe.specs.Peers.{key_at}
use Rattle.wframe.specs.declared.key_lists.PlacedLists.{PlacedLists}
use Rattle.wframe.specs.declared.key_lists.PickedLists.{PickedLists}
use Rattle.wframe.specs.declared.key_lists.KeyLists.{KeyLists}
use Rattle.wframe.specs.declared.key_lists.KeyLists.TheVariants.{Laid, Placed, Picked}

-- what rows of cells say
abbrev pub rows_seen : List (Bor (List Value)) → List (List Meaning)
rows_seen = map (λ row. map meaning row.now)

-- the values at some places of the rows of these numbers, in their order
abbrev pub lists_placed : PlacedLists → List (List Meaning)
lists_placed l = map (λ number. values_at (meaning l.null.now) l.places.now (key_at (rows_seen l.rows.now) number)) l.numbers.now

-- the cells of the rows of these numbers, in their order, where each row has so many of them
abbrev pub lists_picked : ℕ → PickedLists → List (List Meaning)
lists_picked width l = map (λ number. map meaning (take width (drop (number * width) l.cells.now))) l.numbers.now

-- the lists of so many rows, of so many values each
abbrev pub lists_of : KeyLists → ℕ → ℕ → List (List Meaning)
lists_of (Laid l) width count = rows_of width count l.cells.now
lists_of (Placed l) width count = lists_placed l
lists_of (Picked l) width count = lists_picked width l

-- how many values a list has, how many lists there are, and how many values are laid out, where that tells it
abbrev pub width_in : KeyLists → ℕ → ℕ
width_in (Laid l) width = width
width_in (Placed l) width = length l.places.now
width_in (Picked l) width = width

abbrev pub count_in : KeyLists → ℕ → ℕ
count_in (Laid l) count = count
count_in (Placed l) count = length l.numbers.now
count_in (Picked l) count = length l.numbers.now

abbrev pub size_in : KeyLists → ℕ → ℕ → ℕ
size_in (Laid l) width count = length l.cells.now
size_in (Placed l) width count = count * width
size_in (Picked l) width count = count * width

-- the numbers of rows whose cells stand side by side, and how many cells there are
abbrev pub numbers_in : KeyLists → List ℕ
numbers_in (Laid l) = []
numbers_in (Placed l) = []
numbers_in (Picked l) = l.numbers.now

abbrev pub room_in : KeyLists → ℕ
room_in (Laid l) = 0
room_in (Placed l) = 0
room_in (Picked l) = length l.cells.now

-- there are lists of so many rows, of so many values each
pub record AreListsOf (lists : KeyLists) (width count : ℕ) : Type 0 where
  pub wide : width_in lists width ≡ width
  pub counted : count_in lists count ≡ count
  pub laid : size_in lists width count ≡ count * width
  pub within : All (λ number. number * width + width ≤ room_in lists) (numbers_in lists)
