-- The places of the rows whose values are given: <lead or lag function>, <first or last value function>, <nth value function>.
use Rattle.std.specs.Prelude.{ℕ, ◌+◌, ◌-◌, nat_le, nat_lt, Option, Some, None, if◌then◌else◌}
use Rattle.std.specs.List.{slice_get, last_or}
use Rattle.wframe.specs.Partition.{Partition}
use Rattle.wframe.specs.Frame.{frame_rows}

-- the row so many rows before a row, if there are so many
abbrev pub lag_place : ℕ → ℕ → Option ℕ
lag_place offset i = if nat_le offset i then Some (i - offset) else None

-- of a number of rows, the one so many rows after a row, if there are so many
abbrev pub lead_place : ℕ → ℕ → ℕ → Option ℕ
lead_place rows offset i = if nat_lt (i + offset) rows then Some (i + offset) else None

-- the first row of a row's frame, if it has one
abbrev pub first_place : Partition → ℕ → Option ℕ
first_place p i = slice_get (frame_rows p i) 0

-- the last row of a row's frame, if it has one
abbrev pub last_place : Partition → ℕ → Option ℕ
last_place p i = last_or None (frame_rows p i)

-- the n-th row of a row's frame, counted from 1, if it has so many
abbrev pub nth_place : Partition → ℕ → ℕ → Option ℕ
nth_place p n i = slice_get (frame_rows p i) (n - 1)
