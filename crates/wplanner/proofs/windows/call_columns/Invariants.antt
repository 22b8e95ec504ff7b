use Rattle.std.proofs.Common.{◌≡◌, map}
use Rattle.std.specs.List.{slice_get}
use Rattle.wframe.specs.Places.{places}
use Rattle.wcolumns.specs.Columns.{columns_in, columns_seen}
use Rattle.wplan.specs.Plans.{call_plan}
use Rattle.wplanner.specs.ByWindow.{column_found}
use Rattle.wplanner.proofs.windows.call_columns.Given as goal

abbrev pub invariant-loop-number : goal.invariant-loop-number
invariant-loop-number l = columns_seen l.columns.items ≡ map (λ c. column_found (map columns_in l.answers) (map call_plan l.calls)
    c (slice_get (map call_plan l.calls) c)) (places l.number)
