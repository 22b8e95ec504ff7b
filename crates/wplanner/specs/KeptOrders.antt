-- Orders of rows that are kept, each with a window that it is of.
use Rattle.std.specs.Prelude.{◌≡◌, ◌++◌, ◌∷◌, [], Bool, List, All, Ok, if◌then◌else◌}
use Rattle.std.specs.List.{list_any}
use Rattle.wplan.specs.Plans.{window_plan}
use Rattle.wshare.specs.Sameness.{is_same_order}
use Rattle.wplan.specs.declared.resolved.ResolvedWindow.{ResolvedWindow}
use Rattle.wrows.specs.Columns.{Row}
use Rattle.wcalls.specs.Ordered.{ordered_rows}
use Rattle.wplanner.specs.declared.orders.KeptOrder.{KeptOrder}

-- the order is that of the window
abbrev pub IsOrderOf : List Row → KeptOrder → Type 0
IsOrderOf rows k = ordered_rows rows (window_plan k.window.now) ≡ Ok k.order

abbrev pub AreOrdersOf : List Row → List KeptOrder → Type 0
AreOrdersOf rows = All (IsOrderOf rows)

-- the order is also that of this window
abbrev pub serves : ResolvedWindow → KeptOrder → Bool
serves window k = is_same_order k.window.now window

-- with one more order, where one of the later windows shares it
abbrev pub with_shared : List ResolvedWindow → KeptOrder → List KeptOrder → List KeptOrder
with_shared later k kept = if list_any (is_same_order k.window.now) later then kept ++ (k ∷ []) else kept
