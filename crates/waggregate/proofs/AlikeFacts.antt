-- What aggregates that are fed alike ask for.
use Rattle.std.proofs.Common.{◌≡◌, nat_lt, true, List, [], ◌∷◌, length, refl, ap, arith}
use Rattle.std.proofs.lemmas.Bool.Decides.{nat_tests}
use Rattle.std.specs.Prelude.{Option, Some, if◌then◌else◌}
use Rattle.wplan.specs.declared.resolved.AggregateFunction.{AggregateFunction}
use Rattle.waggregate.specs.Alike.{all_asked, asked_so_far}
use Rattle.waggregate.specs.declared.summaries.Extremes.{Extremes}

-- the extremes that are asked for, once some aggregates more are found
abbrev pub asked_after : Option Extremes → List AggregateFunction → Option Extremes
asked_after found functions = if nat_lt 0 (length functions) then Some (all_asked (asked_so_far found) functions) else found

pub asked_from : (extremes : Extremes) (functions : List AggregateFunction)
    → asked_after (Some extremes) functions ≡ Some (all_asked extremes functions)
asked_from extremes [] = refl
asked_from extremes (f ∷ fs) =
    let some : nat_lt 0 (length (f ∷ fs)) ≡ true = grind (arith, nat_tests) in
    ap (λ b. if b then Some (all_asked extremes (f ∷ fs)) else Some extremes) some
