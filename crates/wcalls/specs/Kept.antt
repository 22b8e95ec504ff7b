-- What is kept of a function's answers: values, or what tells them by the row.
use Rattle.std.specs.Prelude.{ℕ, zero, suc, Bool, true, false, List, Option, Some, None, slice_index_or}
use Rattle.wcolumns.specs.declared.column.Column.{Column}
use Rattle.wcolumns.specs.declared.column.Column.TheVariants as columns
use Rattle.wplan.specs.Plans.{FunctionPlan, Aggregated}

-- one more than the number of the row at a place of a partition, or 0 where there is none
abbrev pub number_read : List ℕ → Option ℕ → ℕ
number_read rows None = zero
number_read rows (Some place) = suc (slice_index_or rows place 0)

-- whether a column is kept as values, of 16 bytes a row, and not as numbers, of 4
abbrev pub are_values : Column → Bool
are_values (columns.Values cells) = true
are_values column = false

-- whether the answers of a function are values
abbrev pub is_aggregate : FunctionPlan → Bool
is_aggregate (Aggregated a) = true
is_aggregate function = false
