-- The groups of several runs, one run after another, each told by its first row.
use Rattle.std.specs.Prelude.{◌≡◌, ◌==◌, true, false, ℕ, ◌+◌, ◌<◌, List, [], ◌∷◌, ◌++◌, map, length, slice_index_or}
use Rattle.wvalues.specs.Meaning.{Meaning}
use Rattle.wframe.specs.Sorting.{first_or}
use Rattle.wruns.specs.Lists.{ref}
use Rattle.wruns.specs.Refs.{rows_at}
use Rattle.wruns.specs.declared.refs.RowRef.{RowRef}
use Rattle.wruns.specs.declared.heads.Head.{Head}
use Rattle.wruns.specs.declared.segment_run.SegmentRun.{SegmentRun}

-- the groups of each run
abbrev pub groups_seen : List SegmentRun → List (List (List ℕ))
groups_seen = map (λ s. s.run.now.groups)

-- the heads of groups of the run of a number, of which the first has this number
abbrev pub heads_of : ℕ → ℕ → List (List ℕ) → List Head
heads_of segment group [] = []
heads_of segment group (g ∷ gs) = record { first = ref segment (first_or 0 g); group = group; is_single = length g == 1 }
    ∷ heads_of segment (group + 1) gs

-- those of all runs, of which the first has this number
abbrev pub heads_from : ℕ → List SegmentRun → List Head
heads_from segment [] = []
heads_from segment (s ∷ more) = heads_of segment 0 s.run.now.groups ++ heads_from (segment + 1) more

-- the group that a head stands for
abbrev pub group_at : List (List (List ℕ)) → Head → List ℕ
group_at groups h = slice_index_or (slice_index_or groups h.first.segment []) h.group []

abbrev pub group_refs : List (List (List ℕ)) → Head → List RowRef
group_refs groups h = map (ref h.first.segment) (group_at groups h)

-- a head stands for a group that there is, and tells its first row and whether that is its only one
pub record IsHead (groups : List (List (List ℕ))) (h : Head) : Type 0 where
  pub segment : h.first.segment < length groups
  pub group : h.group < length (slice_index_or groups h.first.segment [])
  pub single : h.is_single ≡ true → length (group_at groups h) ≡ 1
  pub first : first_or 0 (group_at groups h) ≡ h.first.row

-- the first row of the group
abbrev pub head_row : List (List (List Meaning)) → Head → List Meaning
head_row segments h = slice_index_or (rows_at segments h.first.segment) h.first.row []

abbrev pub no_head : Head
no_head = record { first = ref 0 0; group = 0; is_single = false }

abbrev pub head_at : List Head → ℕ → Head
head_at heads i = slice_index_or heads i no_head
