-- Joining entries name by name.
use Rattle.std.specs.Prelude.{◌≡◌, ◌<◌, ◌+◌, ◌⊎◌, true, List, [], ◌∷◌, length, Option, None, Some}
use Rattle.std.specs.List.{list_any}
use Rattle.std.specs.FinMap.{put, find}
use Rattle.wvalues.specs.Names.{NameParts, name_cmp}
use Rattle.wsegment.specs.Declaration.{Declaration}
use Rattle.wentries.specs.Knowledge.{Known, is_over, join_known}
use Rattle.wset.specs.Views.{join_told}
use Rattle.wentries.specs.Holding.{IsHeldBy, known_of}
use Rattle.wentries.specs.Entries.{AllHeldBy, IsRising, known_entries, known_entry}
use Rattle.wentries.specs.declared.entries.Entry.{Entry}

-- what is known where this is learned besides
abbrev pub join_with : Option Known → Known → Known
join_with None k = k
join_with (Some j) k = join_known j k

-- the entries of a join, name by name
abbrev pub join_lists : List (NameParts × Known) → List (NameParts × Known) → List (NameParts × Known)
join_lists es [] = es
join_lists es (f ∷ fs) = put name_cmp f.0 (join_with (find name_cmp f.0 es) f.1) (join_lists es fs)

-- the join of ours and theirs is this entry, and then the join of what is left of both
pub record Joins (ours theirs : List Entry) (entry : Entry) (ours_left theirs_left : List Entry) : Type 0 where
  pub joined :
      join_lists (known_entries ours) (known_entries theirs)
      ≡ known_entry entry ∷ join_lists (known_entries ours_left) (known_entries theirs_left)
  pub ours_rise : IsRising ours_left
  pub theirs_rise : IsRising theirs_left
  pub fewer : length ours_left + length theirs_left < length ours + length theirs
  pub read :
      (d : Declaration) → AllHeldBy d ours → AllHeldBy d theirs
      → IsHeldBy d entry.held × AllHeldBy d ours_left × AllHeldBy d theirs_left

-- what the entry tells of its name is known to ours, by a floor above it or by what is known of the name
abbrev pub IsKnownTo : List Entry → Entry → Type 0
IsKnownTo ours e =
    (list_any (is_over e.name) (known_entries ours) ≡ true)
    ⊎ (join_told (find name_cmp e.name (known_entries ours)) (Some (known_of e.held)) ≡ find name_cmp e.name (known_entries ours))
