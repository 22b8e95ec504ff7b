-- Windows with what they copy. (SQL, `<window clause>`, the existing window name of a window specification;
-- PostgreSQL, SELECT, WINDOW Clause.)
use Rattle.std.specs.Prelude.{ℕ, List, [], ◌∷◌, ◌++◌, map, Option, Some, None, if◌then◌else◌}
use Rattle.std.specs.Borrow.{Bor}
use Rattle.std.specs.Str.{bytes_eq}
use Rattle.wquery.specs.declared.frame.Frame.{Frame}
use Rattle.wquery.specs.Tree.{Keys, NoKeys, MoreKeys, keys, Trees, NoTrees, trees, WindowTree, views, view_keys}
use Rattle.wquery.specs.QueryTree.{EntryTree}
use Rattle.wscope.specs.declared.full_window.FullEntry.{FullEntry}
use Rattle.wscope.specs.declared.full_window.FullWindow.{FullWindow}

-- a window with the partitioning and ordering that it copies
pub record Expanded : Type 0 where
  pub partition : Trees
  pub order : Keys
  pub frame : Option Frame

-- a WINDOW entry with what it copies
pub record NamedWindow : Type 0 where
  pub name : List ℕ
  pub window : Expanded

-- the first window of this name
abbrev pub window_named : List NamedWindow → List ℕ → Option Expanded
window_named [] name = None
window_named (w ∷ ws) name = if bytes_eq w.name name then Some w.window else window_named ws name

-- the window of nothing
abbrev pub empty_window : Expanded
empty_window = record { partition = NoTrees; order = NoKeys; frame = None }

abbrev pub or_none : Option Expanded → Expanded
or_none None = empty_window
or_none (Some w) = w

-- the keys of a window, or else those of the copied one
abbrev pub keys_or : Keys → Keys → Keys
keys_or NoKeys copied = copied
keys_or (MoreKeys t descending nulls more) copied = MoreKeys t descending nulls more

-- a window as it is where it names none, else with what it copies
abbrev pub expand : List NamedWindow → Option (List ℕ) → Trees → Keys → Option Frame → Expanded
expand earlier None partition order frame = record { partition = partition; order = order; frame = frame }
expand earlier (Some name) partition order frame =
    record {
      partition = (or_none (window_named earlier name)).partition;
      order =
          keys_or order (or_none (window_named earlier name)).order;
      frame = frame;
    }

-- the same of a window that was written
abbrev pub expand_tree : List NamedWindow → WindowTree → Expanded
expand_tree earlier w = expand earlier w.copied (trees w.partition) (keys w.order) w.frame

-- the WINDOW entries with what they copy from the entries before them
abbrev pub expand_all : List NamedWindow → List EntryTree → List NamedWindow
expand_all earlier [] = earlier
expand_all earlier (e ∷ es) =
    expand_all (earlier ++ (record { name = e.name; window = expand_tree earlier e.window } ∷ [])) es

-- a frame clause in memory, if there is one
abbrev pub lent_frame : Option (Bor Frame) → Option Frame
lent_frame None = None
lent_frame (Some f) = Some f.now

-- a window in memory, with what it copies
abbrev pub expanded_window : FullWindow → Expanded
expanded_window w = record { partition = trees (views w.partition.now); order = keys (view_keys w.order.now); frame = lent_frame w.frame }

abbrev pub named_window : FullEntry → NamedWindow
named_window e = record { name = e.name.now; window = expanded_window e.window }

abbrev pub named_windows : List FullEntry → List NamedWindow
named_windows es = map named_window es

abbrev pub optional_window : Option FullWindow → Option Expanded
optional_window None = None
optional_window (Some w) = Some (expanded_window w)
