-- The rows of several segments in one order, dealt to the segments again.
use Rattle.std.specs.Prelude.{◌≡◌, ℕ, List, [], ◌∷◌, Vec, ⊤, map, slice_index_or}
use Rattle.std.specs.Global.{Global}
use Rattle.std.specs.Borrow.{Bor}
use Rattle.std.specs.declared.rc.Rc.{Rc}
use Rattle.wvalues.specs.declared.key.SortKey.{SortKey}
use Rattle.wvalues.specs.Meaning.{Meaning}
use Rattle.wsegment.specs.Rows.{Content}
use Rattle.wsort.specs.Dealt.{dealt_by}
use Rattle.wruns.specs.Lists.{ref}
use Rattle.wruns.specs.Runs.{IsRunOf, RunParts}
use Rattle.wruns.specs.declared.refs.RowRef.{RowRef}

-- the rows of each segment
abbrev pub segment_rows : List (Bor Content) → List (List (List Meaning))
segment_rows = map (λ s. s.now.rows)

-- the row of a number among all
abbrev pub ref_at : List RowRef → ℕ → RowRef
ref_at all number = slice_index_or all number (ref 0 0)

-- the places of each of so many segments, out of an order of the rows of all
abbrev pub dealt_places : List RowRef → ℕ → List (List ℕ)
dealt_places order count = map (map (λ (r : RowRef). r.row)) (dealt_by (λ (r : RowRef). r.segment) order 0 count)

-- lists in memory
abbrev pub lists_seen : List (Vec ℕ Global) → List (List ℕ)
lists_seen = map (λ list. list.items)

-- the run by keys of a segment that has these rows
abbrev pub IsRunBy : List SortKey → List (List Meaning) → RunParts → Type 0
IsRunBy keys rows run = (run.keys ≡ keys) × IsRunOf rows run

-- the runs by keys of segments that have these rows, one for each, in their order
abbrev pub AreRunsOf : List SortKey → List (List (List Meaning)) → List (Rc RunParts Global) → Type 0
AreRunsOf keys [] [] = ⊤
AreRunsOf keys [] (run ∷ runs) = ⊥
AreRunsOf keys (rows ∷ more) [] = ⊥
AreRunsOf keys (rows ∷ more) (run ∷ runs) = IsRunBy keys rows run.value × AreRunsOf keys more runs
