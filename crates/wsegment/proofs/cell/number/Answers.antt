use Rattle.std.proofs.Common.{ap, sym, Ok, rules}
use Rattle.std.specs.Prelude.{ℤ, FitsSigned}
use Rattle.std.specs.Int.{w64}
use Rattle.std.proofs.lemmas.Int.{to_z-of_z}
use Rattle.wvalues.specs.Meaning.{Int}
use Rattle.wsegment.proofs.cell.number.Goals as goal

pub returns-in-Some : goal.returns-in-Some
returns-in-Some c =
    let fits : FitsSigned w64 c.in-Some.number = search rules in
    rw (← c.in-Some.ensures) (ap (λ (z : ℤ). Ok (Int z)) (sym (simp to_z-of_z at c.from.ensures)))
