-- What rows feed, as it lies in memory.
use Rattle.std.specs.Prelude.{ℕ, ◌||◌, Bool, true, false, List, map, length, Option, None, Some, option_map}
use Rattle.std.specs.Borrow.{Bor}
use Rattle.std.specs.Option.{is_some}
use Rattle.std.specs.declared.alloc.Global.{Global}
use Rattle.std.specs.declared.vec.Vec.{Vec}
use Rattle.wvalues.specs.declared.value.Value.{Value}
use Rattle.wvalues.specs.Meaning.{Meaning, Null, meaning}
use Rattle.wframe.specs.Places.{places}
use Rattle.wplan.specs.declared.expr.Expr.TheOpen as layer
use Rattle.wplan.specs.Parts.{Parts}
use Rattle.wplan.specs.Formula.{At}
use Rattle.wrows.specs.Columns.{value_on}
use Rattle.wrows.specs.PlainColumns.{plain_place}
use Rattle.wrows.specs.Laid.{rows_seen}
use Rattle.waggregate.specs.Aggregating.{Feed}
use Rattle.waggregate.specs.declared.feeding.Argument.{Argument}
use Rattle.waggregate.specs.declared.feeding.Argument.TheVariants as arguments

-- NULL by itself
abbrev pub is_null : Parts → Bool
is_null layer.Null = true
is_null _ = false

-- whether nothing has to be evaluated for an argument
abbrev pub is_lent : Parts → Bool
is_lent parts = is_null parts || is_some (plain_place parts)

-- on how many rows an argument is
abbrev pub rows_of : Argument → ℕ
rows_of (arguments.Null rows) = rows
rows_of (arguments.Column rows place) = length rows.now
rows_of (arguments.Values values) = length values.now

-- what it has on each of them
abbrev pub values_of : Argument → List Meaning
values_of (arguments.Null rows) = map (λ row. Null) (places rows)
values_of (arguments.Column rows place) = map (value_on (At place)) (rows_seen rows.now)
values_of (arguments.Values values) = map meaning values.now

-- a value, null where there is none
abbrev pub value_or_none : Option (Bor Value) → Meaning
value_or_none None = Null
value_or_none (Some value) = meaning value.now

-- what an argument feeds, and whether the filter is true on each row, if there is one
abbrev pub fed_by : Argument → Option (Vec Bool Global) → Feed
fed_by argument filter = record { values = values_of argument; filter = option_map (λ tests. tests.items) filter }
