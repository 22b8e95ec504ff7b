use Rattle.std.proofs.lemmas.List.Elements.{recursion_from_All}
use Rattle.wslide.specs.Aggregates.{IsInRange}
use Rattle.wslide.proofs.ExactSums.{exact}
use Rattle.wslide.proofs.laws.sums_are_exact.Goals as goal

pub returns : goal.returns
returns c = λ feed rows few whole. exact feed rows few (recursion_from_All (λ row. IsInRange (feed row)) rows whole)
