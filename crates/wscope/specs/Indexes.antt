-- WINDOW entries, found by name.
use Rattle.std.specs.Prelude.{◌≡◌, ℕ, suc, ◌==◌, Bool, false, ◌||◌, List, [], ◌∷◌, ◌++◌, Option, Some, None, take, if◌then◌else◌}
use Rattle.std.specs.List.{list_any}
use Rattle.std.specs.BTreeMap.{BTreeMap, get_by_text}
use Rattle.std.specs.Str.{bytes_eq}
use Rattle.std.specs.declared.alloc.Global.{Global}
use Rattle.std.specs.declared.string.String.{String}
use Rattle.wquery.specs.declared.frame.Frame.{Frame}
use Rattle.wquery.specs.Tree.{Keys, Trees, WindowTree, keys, trees}
use Rattle.wscope.specs.Windows.{NamedWindow, Expanded, keys_or, or_none, window_named}

-- one place further
abbrev pub further : Option ℕ → Option ℕ
further None = None
further (Some n) = Some (suc n)

-- the place of the first window of a name
abbrev pub place_of : List ℕ → List NamedWindow → Option ℕ
place_of name [] = None
place_of name (w ∷ ws) = if bytes_eq w.name name then Some 0 else further (place_of name ws)

-- whether a name was found at this place
abbrev pub is_place : ℕ → Option ℕ → Bool
is_place place None = false
is_place place (Some n) = n == place

abbrev pub has_window_name : List ℕ → NamedWindow → Bool
has_window_name name w = bytes_eq w.name name

-- a window has the name of one before it, where some of them are passed already
abbrev pub repeats : List NamedWindow → List NamedWindow → Bool
repeats passed [] = false
repeats passed (w ∷ ws) = list_any (has_window_name w.name) passed || repeats (passed ++ w ∷ []) ws

-- each name has the place of the first of these windows that has it
abbrev pub ArePlaces : BTreeMap (String Global) ℕ → List NamedWindow → Type 0
ArePlaces places ws = (name : List ℕ) → get_by_text places name ≡ place_of name ws

-- the windows before a place, or all
abbrev pub up_to : Option ℕ → List NamedWindow → List NamedWindow
up_to None ws = ws
up_to (Some n) ws = take n ws

-- the window that is copied, if one is named
abbrev pub copied_from : List NamedWindow → Option (List ℕ) → Option Expanded
copied_from ws None = None
copied_from ws (Some name) = window_named ws name

-- a window over the one that was found for the name that it copies
abbrev pub over : Option Expanded → Option (List ℕ) → Trees → Keys → Option Frame → Expanded
over found None partition order frame = record { partition = partition; order = order; frame = frame }
over found (Some name) partition order frame = record {
  partition = (or_none found).partition;
  order =
      keys_or order (or_none found).order;
  frame = frame;
}

abbrev pub expanded_over : Option Expanded → WindowTree → Expanded
expanded_over found w = over found w.copied (trees w.partition) (keys w.order) w.frame
