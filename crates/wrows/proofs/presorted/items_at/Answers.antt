use Rattle.std.proofs.Common.{◌≡◌, ℕ, Vec, Global, map, sym, ap, ◌∙◌}
use Rattle.wplan.specs.Formula.{At}
use Rattle.wrows.specs.Extended.{extended_rows}
use Rattle.wrows.specs.Laid.{formulas_seen}
use Rattle.wrows.specs.Picked.{items_at}
use Rattle.wrows.proofs.PickFacts.{of_some}
use Rattle.wrows.proofs.presorted.items_at.Goals as goal

pub returns-clause-rows : goal.returns-clause-rows
returns-clause-rows c =
    let is : formulas_seen c.args.items.now ≡ map At c.deref.result.now
    = of_some (λ (places : Vec ℕ Global). formulas_seen c.args.items.now ≡ map At places.items) c.in_ok-plain.plain
    c.in-Some.places c.in-Some.is c.in_ok-plain.ensures.places ∙ ap (map At) (sym c.deref.ensures.value) in
    ap (λ ts. items_at ts c.args.numbers.now (extended_rows c.args.extended.now)) is
    ∙ c.in_ok-cells.ensures.rows
