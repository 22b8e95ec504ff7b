-- The first rows of the table in an order by columns, which are found without a list of the others.
use Rattle.std.specs.Prelude.{◌≡◌, ◌<◌, ◌≤◌, ◌+◌, ◌*◌, ◌++◌, ℕ, Bool, true, false, not, All, IfSome, List, filter, length, take}
use Rattle.std.specs.Prelude.{Option, None, Some}
use Rattle.std.specs.Borrow.{Bor}
use Rattle.std.specs.List.{list_any}
use Rattle.std.specs.Option.{is_some}
use Rattle.std.specs.Ordering.{is_gt, is_lt, on}
use Rattle.std.specs.declared.cmp.Ordering.{Ordering}
use Rattle.wvalues.specs.declared.value.Value.{Value}
use Rattle.wvalues.specs.declared.key.SortKey.{SortKey}
use Rattle.wvalues.specs.Order.{keys_cmp}
use Rattle.wframe.specs.Sorting.{sorted}
use Rattle.wplan.specs.Formula.{Formula}
use Rattle.wplan.specs.Plans.{SelectPlan}
use Rattle.wplan.specs.declared.expr.Expr.{out-Expr}
use Rattle.wplan.specs.declared.resolved.Output.{Output}
use Rattle.wplan.specs.declared.resolved.Selection.{Selection}
use Rattle.wrows.specs.Columns.{Row, is_out_of_range}
use Rattle.wrows.specs.Laid.{row_seen, rows_seen}
use Rattle.wrows.specs.Plain.{is_selected, items_of}
use Rattle.wrows.specs.PlainColumns.{plain_place}
use Rattle.wruns.specs.Runs.{row_keys}
use Rattle.wtable.specs.TableOrders.{IsColumnKey}
use Rattle.wtable.specs.declared.leading.LeadingRows.{LeadingRows}

-- the order of rows by keys that are columns
abbrev pub row_cmp : List SortKey → Row → Row → Ordering
row_cmp keys = on (row_keys keys) (keys_cmp keys)

-- rows by keys that are columns; those that agree in them as they stood
abbrev pub rows_by : List SortKey → List Row → List Row
rows_by keys rows = sorted (row_cmp keys) rows

-- whether a row does not come after another one
abbrev pub comes_by : List SortKey → Row → Row → Bool
comes_by keys last row = not (is_gt (row_cmp keys row last))

-- whether there is a pivot, and a row does not come before it
abbrev pub is_behind : List SortKey → Row → Option (Bor (List Value)) → Bool
is_behind keys row None = false
is_behind keys row (Some pivot) = not (is_lt (row_cmp keys row (row_seen pivot)))

-- Rows are held in place of all that were gone over: whatever rows follow, the same come first. No row that comes after the pivot is
-- one of these
pub record Lead (keys : List SortKey) (most : ℕ) (all : List Row) (leading : LeadingRows) : Type 0 where
  pub first : (more : List Row) → take most (rows_by keys (rows_seen leading.rows.items ++ more)) ≡ take most (rows_by keys (all ++ more))
  pub pivot : IfSome leading.pivot (λ row. most ≤ length (filter (comes_by keys (row_seen row)) (rows_seen leading.rows.items)))

-- expressions that are out of range on no row
abbrev pub AreInRange : List Formula → Type 0
AreInRange ts = (row : Row) → list_any (λ t. is_out_of_range t row) ts ≡ false

-- some rows, of which a SELECT that has only items and an order answers what it does of all
pub record AnswerForAll (s : SelectPlan) (all rows : List Row) : Type 0 where
  pub condition : s.condition ≡ None
  pub grouping : s.grouping ≡ None
  pub windows : length s.windows ≡ 0
  pub items : items_of s rows ≡ items_of s all
  pub few : length rows < 2048

-- Rows were left out so often that so many were gone over at least: each time those that are left are few, and as many as are few
-- were held beside them
abbrev pub HasGone : LeadingRows → ℕ → Type 0
HasGone leading gone = leading.cuts * 1024 + length leading.rows.items ≤ gone

-- an item that is a plain column
abbrev pub IsColumnItem : Output → Type 0
IsColumnItem item = is_some (plain_place (out-Expr item.value)) ≡ true

-- a SELECT that asks for nothing of rows but plain columns, and an order
pub record AsksColumns (s : Selection) : Type 0 where
  pub condition : s.condition ≡ None
  pub grouping : s.grouping ≡ None
  pub windows : length s.windows.items ≡ 0
  pub items : All IsColumnItem s.items.items

-- it asks for the first few rows in an order by columns of rows that are so wide
pub record AsksFirst (width : ℕ) (s : Selection) : Type 0 where
  pub columns : AsksColumns s
  pub keys : All (IsColumnKey width) s.keys.items
  pub few : is_selected s.offset s.limit ≡ true
