use Rattle.wslide.specs.Aggregates.{passes, fed, is_value}
use Rattle.wslide.proofs.Counting.{counted}
use Rattle.wslide.proofs.laws.counts_are_exact.Goals as goal

pub returns-clause-rows : goal.returns-clause-rows
returns-clause-rows c = λ filter. counted (passes filter)

pub returns-clause-values : goal.returns-clause-values
returns-clause-values c = λ values filter. counted (λ row. is_value (fed values filter row))
