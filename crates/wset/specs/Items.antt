-- What is delivered to a node, and what it then knows.
use Rattle.std.specs.Prelude.{ℕ, Bool, false, ◌&&◌, nat_le, List, [], ◌∷◌, map, Option, None, Some, if◌then◌else◌}
use Rattle.std.specs.List.{list_any, list_all, filter_map}
use Rattle.wvalues.specs.Names.{NameParts}
use Rattle.wentries.specs.Knowledge.{Known, Live, Disputed, Retired, Floor, same_name, same_bytes}
use Rattle.wset.specs.Views.{View, settled, view_telling}

-- a content of a name, the retirement of a name, or that of all names of its origin up to it
pub data Item : Type 0 where
  SegmentItem : NameParts → List ℕ → Item
  RetirementItem : NameParts → Item
  FloorItem : NameParts → Item

-- the name that it speaks of
abbrev pub name_of : Item → NameParts
name_of (SegmentItem n bytes) = n
name_of (RetirementItem n) = n
name_of (FloorItem n) = n

-- it retires the name
abbrev pub is_retirement_of : NameParts → Item → Bool
is_retirement_of n (SegmentItem m bytes) = false
is_retirement_of n (RetirementItem m) = same_name n m
is_retirement_of n (FloorItem m) = same_bytes n.origin m.origin && nat_le n.number m.number

-- the content that it gives the name
abbrev pub content_of : NameParts → Item → Option (List ℕ)
content_of n (SegmentItem m bytes) = if same_name n m then Some bytes else None
content_of n (RetirementItem m) = None
content_of n (FloorItem m) = None

-- live where all contents are one, disputed where two differ, and unknown where there is none
abbrev pub agreed : List (List ℕ) → Option Known
agreed [] = None
agreed (c ∷ cs) = if list_all (same_bytes c) cs then Some (Live c) else Some Disputed

-- retired if a retirement of the name or a floor of its origin that is not below it is among the items, else what its contents agree on
abbrev pub status_of : List Item → NameParts → Option Known
status_of items n =
    if list_any (is_retirement_of n) items then Some Retired
    else agreed (filter_map (content_of n) items)

-- it is the floor of this very name
abbrev pub is_floor_at : NameParts → Item → Bool
is_floor_at n (SegmentItem m bytes) = false
is_floor_at n (RetirementItem m) = false
is_floor_at n (FloorItem m) = same_name n m

-- a floor stands under its own name, and any other name has its status
abbrev pub mark_of : List Item → NameParts → Option Known
mark_of items n = if list_any (is_floor_at n) items then Some Floor else status_of items n

-- the greatest floor of each origin, and each name above it that is not unknown, with its status
abbrev pub view_of : List Item → View
view_of items = settled (view_telling (mark_of items) (map name_of items))

-- what one item tells alone
abbrev pub view_of_item : Item → View
view_of_item i = view_of (i ∷ [])
