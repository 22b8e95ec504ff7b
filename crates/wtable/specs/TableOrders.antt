-- Orders of the table's rows by columns, of which those rows are left that a condition keeps.
use Rattle.std.specs.Prelude.{◌≡◌, ◌⊎◌, ◌<◌, ◌≤◌, ◌+◌, ◌-◌, ◌^◌, ℕ, Bool, true, false, if◌then◌else◌, List, [], ◌∷◌, All, IfSome}
use Rattle.std.specs.Prelude.{filter, length, map, min, nat_lt, Option, Some, None, Result, Ok, slice_index_or, Vec}
use Rattle.std.specs.Global.{Global}
use Rattle.wvalues.specs.declared.key.SortKey.{SortKey}
use Rattle.wvalues.specs.Meaning.{Meaning}
use Rattle.wplan.specs.declared.expr.Expr.{Expr, out-Expr}
use Rattle.wplan.specs.declared.resolved.ResolvedKey.{ResolvedKey}
use Rattle.wplan.specs.declared.resolved.ResolvedWindow.{ResolvedWindow}
use Rattle.wshare.specs.Sameness.{is_same_order}
use Rattle.wplan.specs.Formula.{At, Formula}
use Rattle.wplan.specs.Plans.{KeyPlan, WindowPlan, window_plan}
use Rattle.wrows.specs.declared.fault.AnswerFault.{AnswerFault}
use Rattle.wrows.specs.Columns.{Row, beside, holds_on}
use Rattle.wrows.specs.Laid.{rows_seen}
use Rattle.wrows.specs.Picked.{numbers_of}
use Rattle.wrows.specs.PlainColumns.{plain_place}
use Rattle.wruns.specs.Orderings.{kept_numbers}
use Rattle.wruns.specs.Differing.{AllDiffer}
use Rattle.wruns.specs.Runs.{joined, run_of}
use Rattle.wruns.specs.declared.refs.RowRef.{RowRef}
use Rattle.wcalls.specs.Ordered.{window_numbers}
use Rattle.wcalls.specs.PresortedRows.{IsPresorted, KeysDiffer}
use Rattle.wtable.specs.declared.orders.TableOrder.{TableOrder}
use Rattle.wtable.specs.declared.orders.TableOrders.{TableOrders}
use Rattle.wtable.specs.declared.presorted.PresortedOrder.{PresortedOrder}
use Rattle.wtable.specs.declared.presorted.PresortedOrders.{PresortedOrders}
use Rattle.wtable.specs.declared.numbered_rows.NumberedRows.{NumberedRows}

-- a column of rows that are so wide
abbrev pub is_within : ℕ → Option ℕ → Bool
is_within width None = false
is_within width (Some place) = nat_lt place width

-- a key that is one of so many columns
abbrev pub IsColumnKey : ℕ → ResolvedKey → Type 0
IsColumnKey width key = is_within width (plain_place (out-Expr key.value)) ≡ true

-- a value that is one of so many columns
abbrev pub IsColumnValue : ℕ → Expr → Type 0
IsColumnValue width value = is_within width (plain_place (out-Expr value)) ≡ true

-- a window by some of so many columns: it has partition values or keys, and each of them is one
pub record IsColumnWindow (width : ℕ) (w : ResolvedWindow) : Type 0 where
  pub partition : All (IsColumnValue width) w.partition.items
  pub keys : All (IsColumnKey width) w.keys.items
  pub some : 0 < length w.partition.items + length w.keys.items

-- how a key orders, whatever it is of
abbrev pub direction : SortKey → SortKey
direction k = record { col = 0; desc = k.desc; nulls_first = k.nulls_first }

-- the values are these keys' columns of rows that are so wide, and the keys order as is asked
pub record AreColumns (width : ℕ) (values : List Formula) (order keys : List SortKey) : Type 0 where
  pub named : values ≡ map (λ k. At k.col) keys
  pub directed : map direction order ≡ map direction keys
  pub within : All (λ k. k.col < width) keys

-- what an order of some rows tells of each list of rows: their numbers in it
abbrev pub RowOrder : Type 0
RowOrder = List Row → Result (List ℕ) AnswerFault

-- whatever rows are kept of all, the references tell their order
abbrev pub OrdersKept : List (List Row) → RowOrder → List RowRef → Type 0
OrdersKept segments order refs = (holds : Row → Bool) → order (filter holds (joined segments)) ≡ Ok (kept_numbers holds segments refs)

-- the order of a window
abbrev pub by_window : WindowPlan → RowOrder
by_window plan rows = window_numbers rows plan

-- keys by which rows stand in the order of a window. Where it has no partition values, rows that differ in these keys differ in
-- its own
pub record AreWindowKeys (plan : WindowPlan) (keys : List SortKey) : Type 0 where
  pub order : (rows : List Row) → by_window plan rows ≡ Ok (run_of keys rows)
  pub differ : plan.partition ≡ [] → (rows : List Row) → AllDiffer keys rows → KeysDiffer rows plan

-- the order that ORDER BY asks for, of rows that have some columns behind their cells
abbrev pub by_keys : List KeyPlan → List (List Meaning) → RowOrder
by_keys keys columns rows = numbers_of (map (λ k. k.value) keys) (map (λ k. k.order) keys) (beside rows columns)

-- a row of one of some segments
pub record IsRowOf (segments : List (List Row)) (r : RowRef) : Type 0 where
  pub segment : r.segment < length segments
  pub row : r.row < length (slice_index_or segments r.segment [])

-- rows of some segments that tell an order of them
pub record IsOrderFor (segments : List (List Row)) (order : RowOrder) (refs : List RowRef) : Type 0 where
  pub orders : OrdersKept segments order refs
  pub within : All (IsRowOf segments) refs

-- whatever rows are kept of all, no two of them share the keys of a window
abbrev pub DifferKept : List (List Row) → WindowPlan → Type 0
DifferKept segments plan = (holds : Row → Bool) → KeysDiffer (filter holds (joined segments)) plan

-- the table's rows in the order of a window, and whether it is known that no two share its keys
pub record IsTableOrder (segments : List (List Row)) (t : TableOrder) : Type 0 where
  pub order : IsOrderFor segments (by_window (window_plan t.window.now)) t.rows.items
  pub differ : t.unique_keys ≡ true → DifferKept segments (window_plan t.window.now)

-- an order of the table's rows that is also that of a window
abbrev pub shares : ResolvedWindow → TableOrder → Bool
shares window t = is_same_order t.window.now window

-- one of some orders of the table's rows is that of a window, or is also that
abbrev pub HasOrder : ResolvedWindow → List TableOrder → Type 0
HasOrder window [] = ⊥
HasOrder window (t ∷ ts) = (t.window.now ≡ window) ⊎ ((shares window t ≡ true) ⊎ HasOrder window ts)

-- a window by columns has an order, or there are as many as are taken from runs
abbrev pub IsServed : ℕ → List TableOrder → ResolvedWindow → Type 0
IsServed width orders window = IsColumnWindow width window → (4 ≤ length orders) ⊎ HasOrder window orders

-- a presorted order that is also that of a window
abbrev pub presorts : ResolvedWindow → PresortedOrder → Bool
presorts window t = is_same_order t.window.now window

-- orders of the table's rows that a SELECT asks for
pub record AreTableOrders (segments : List (List Row)) (plans : List KeyPlan) (t : TableOrders) : Type 0 where
  pub windows : All (IsTableOrder segments) t.windows.items
  pub keys : IfSome t.keys (λ refs. (columns : List (List Meaning)) → IsOrderFor segments (by_keys plans columns) refs.items)

-- where the rows of each segment begin, the first of them at a number
abbrev pub starts_from : ℕ → List (List Row) → List ℕ
starts_from first [] = []
starts_from first (rows ∷ more) = first ∷ starts_from (first + length rows) more

-- the number of a row that is left out
abbrev pub left_out : ℕ
left_out = 2 ^ 32 - 1

-- for each row how many are kept before it, if it is kept, where so many were kept before all of them
abbrev pub numbers_kept : (Row → Bool) → ℕ → List Row → List ℕ
numbers_kept holds before [] = []
numbers_kept holds before (row ∷ rows) = if holds row then min before left_out ∷ numbers_kept holds (before + 1) rows
    else left_out ∷ numbers_kept holds before rows

-- a number, if it is not that of a row that is left out
abbrev pub number_kept : ℕ → Option ℕ
number_kept number = if nat_lt number left_out then Some number else None

-- the number of a row among those that are kept, by its number in the table
abbrev pub number_among : Option (Vec ℕ Global) → ℕ → Option ℕ
number_among None number = Some number
number_among (Some numbers) number = number_kept (slice_index_or numbers.items number left_out)

-- the number of a row in the table
abbrev pub number_in : List ℕ → RowRef → ℕ
number_in starts r = min (slice_index_or starts r.segment 0 + r.row) (2 ^ 64 - 1)

-- those that there are
abbrev pub all_present : {X : Type 0} → List (Option X) → List X
all_present [] = []
all_present (None ∷ xs) = all_present xs
all_present (Some x ∷ xs) = x ∷ all_present xs

-- the numbers, among the rows that are kept, of the rows of an ordering that are kept
abbrev pub presorted_numbers : NumberedRows → List RowRef → List ℕ
presorted_numbers kept refs = all_present (map (λ r. number_among kept.numbers (number_in kept.starts.items r)) refs)

-- what the rows of a table are kept by, where all are kept that no condition leaves out
abbrev pub holds_by : Option Formula → Row → Bool
holds_by None row = true
holds_by (Some t) row = holds_on t row

abbrev pub AreNumbers : Option Formula → List Row → Option (Vec ℕ Global) → Type 0
AreNumbers None rows None = Unit {0}
AreNumbers None rows (Some numbers) = ⊥
AreNumbers (Some t) rows None = ⊥
AreNumbers (Some t) rows (Some numbers) = numbers.items ≡ numbers_kept (holds_on t) 0 rows

-- the rows of the segments that a condition keeps, which are few, and what tells their numbers
pub record IsNumbered (condition : Option Formula) (segments : List (List Row)) (kept : NumberedRows) : Type 0 where
  pub rows : rows_seen kept.rows.items ≡ filter (holds_by condition) (joined segments)
  pub few : length kept.rows.items < 2 ^ 31
  pub fit : length (joined segments) < 2 ^ 64
  pub starts : kept.starts.items ≡ starts_from 0 segments
  pub numbers : AreNumbers condition (joined segments) kept.numbers

-- what is told of the kept rows in the order of a window: their numbers, and whether no two of them are known to share its keys
abbrev pub told_presorted : PresortedOrder → ResolvedWindow × (List ℕ × Bool)
told_presorted p = (p.window.now, (p.presorted.numbers.items, p.presorted.unique_keys))

-- the same of the table's rows, of which some are kept
abbrev pub told_of : NumberedRows → TableOrder → ResolvedWindow × (List ℕ × Bool)
told_of kept t = (t.window.now, (presorted_numbers kept t.rows.items, t.unique_keys))

-- presorted numbers in the order of a window
abbrev pub IsPresortedOf : List Row → PresortedOrder → Type 0
IsPresortedOf rows t = IsPresorted rows (window_plan t.window.now) t.presorted

abbrev pub ArePresortedOf : List Row → List PresortedOrder → Type 0
ArePresortedOf rows = All (IsPresortedOf rows)

-- presorted numbers in the orders that a SELECT asks for
pub record ArePresorted (rows : List Row) (plans : List KeyPlan) (t : PresortedOrders) : Type 0 where
  pub windows : ArePresortedOf rows t.windows.items
  pub keys : IfSome t.keys (λ numbers. (columns : List (List Meaning)) → by_keys plans columns rows ≡ Ok numbers.items)
