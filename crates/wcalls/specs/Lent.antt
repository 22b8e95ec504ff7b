-- Functions that are lent.
use Rattle.std.specs.Prelude.{List, map}
use Rattle.std.specs.Borrow.{Bor}
use Rattle.wplan.specs.declared.resolved.WindowFunction.{WindowFunction}
use Rattle.wplan.specs.Plans.{FunctionPlan, function_plan}

abbrev pub functions_seen : List (Bor WindowFunction) → List FunctionPlan
functions_seen = map (λ f. function_plan f.now)
