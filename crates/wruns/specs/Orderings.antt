-- The rows of the table by number, and those that a condition keeps.
use Rattle.std.specs.Prelude.{◌≡◌, ℕ, ◌+◌, ◌++◌, Bool, List, [], map, filter, length, take, slice_index_or}
use Rattle.std.specs.Ordering.{on, then_cmp}
use Rattle.wvalues.specs.Order.{keys_cmp}
use Rattle.wframe.specs.Peers.{key_at}
use Rattle.wframe.specs.Places.{places}
use Rattle.wframe.specs.Sorting.{sorted}
use Rattle.wvalues.specs.declared.key.SortKey.{SortKey}
use Rattle.wvalues.specs.Meaning.{Meaning}
use Rattle.wruns.specs.Runs.{joined, row_keys, run_of}
use Rattle.wruns.specs.Refs.{refs_by}
use Rattle.wruns.specs.declared.refs.RowRef.{RowRef}

-- the number of a row: its place behind the rows of the segments before its own
abbrev pub number_of : List (List (List Meaning)) → RowRef → ℕ
number_of segments r = length (joined (take r.segment segments)) + r.row

-- how many rows that are kept stand before the row of a number: its number among them
abbrev pub kept_before : (List Meaning → Bool) → List (List Meaning) → ℕ → ℕ
kept_before holds rows i = length (filter holds (take i rows))

-- the numbers, among the rows that are kept, of the rows of an ordering that are kept
abbrev pub kept_numbers : (List Meaning → Bool) → List (List (List Meaning)) → List RowRef → List ℕ
kept_numbers holds segments found =
    map (kept_before holds (joined segments)) (filter (λ i. holds (slice_index_or (joined segments) i [])) (map (number_of segments) found))

-- an ordering of the table's rows, of which those are left that are kept, is the ordering of the kept rows
abbrev pub KeptInOrder : Type 0
KeptInOrder = (holds : List Meaning → Bool) (keys : List SortKey) (segments : List (List (List Meaning)))
    → kept_numbers holds segments (refs_by keys segments) ≡ run_of keys (filter holds (joined segments))

-- a run by partition values and then by keys is the order of a window
abbrev pub WindowInOrder : Type 0
WindowInOrder = (partition keys : List SortKey) (rows : List (List Meaning)) →
    run_of (partition ++ keys) rows ≡ sorted (then_cmp (on (key_at (map (row_keys partition) rows)) (keys_cmp partition))
    (on (key_at (map (row_keys keys) rows)) (keys_cmp keys))) (places (length rows))
