-- The rows of a segment by keys that are plain columns, and then by place, cut into groups of rows that share their keys.
use Rattle.std.specs.Prelude.{◌≡◌, ◌<◌, ℕ, List, [], All, map, length, slice_index_or}
use Rattle.std.specs.List.{flat_map}
use Rattle.std.specs.Ordering.{on}
use Rattle.wvalues.specs.declared.key.SortKey.{SortKey}
use Rattle.wvalues.specs.Meaning.{Meaning, Null}
use Rattle.wvalues.specs.Order.{keys_cmp}
use Rattle.wframe.specs.Places.{places}
use Rattle.wframe.specs.Sorting.{first_or, sorted}

-- the keys of a row: the value of each key's column, null where the row has none
abbrev pub row_keys : List SortKey → List Meaning → List Meaning
row_keys keys row = map (λ k. slice_index_or row k.col Null) keys

-- those of the row at a place of a segment
abbrev pub keys_at : List SortKey → List (List Meaning) → ℕ → List Meaning
keys_at keys rows i = row_keys keys (slice_index_or rows i [])

-- the places of a segment's rows by keys, and then by place
abbrev pub run_of : List SortKey → List (List Meaning) → List ℕ
run_of keys rows = sorted (on (keys_at keys rows) (keys_cmp keys)) (places (length rows))

-- several lists as one
abbrev pub joined : {X : Type 0} → List (List X) → List X
joined lists = flat_map (λ l. l) lists

-- keys, and places of rows in groups
pub record RunParts : Type 0 where
  pub keys : List SortKey
  pub groups : List (List ℕ)

-- places of rows that share their keys, at least one
abbrev pub IsGroup : List SortKey → List (List Meaning) → List ℕ → Type 0
IsGroup keys rows group = (0 < length group) × All (λ i. keys_at keys rows i ≡ keys_at keys rows (first_or 0 group)) group

-- the one list of a segment's rows for its keys, in groups
pub record IsRunOf (rows : List (List Meaning)) (run : RunParts) : Type 0 where
  pub list : joined run.groups ≡ run_of run.keys rows
  pub groups : All (IsGroup run.keys rows) run.groups
