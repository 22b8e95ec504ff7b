use Rattle.std.proofs.Common.{◌≡◌, ◌*◌, ℕ, Vec, Global, length, map, sym, ap, ◌∙◌}
use Rattle.wplan.specs.Formula.{At}
use Rattle.wrows.specs.Extended.{extended_rows}
use Rattle.wrows.specs.Laid.{formulas_seen}
use Rattle.wrows.proofs.PickFacts.{of_some, plain_count, lent_lists}
use Rattle.wrows.proofs.listing.evaluated_beside.Goals as goal

pub returns-clause-gives : goal.returns-clause-gives
returns-clause-gives c =
    let is : formulas_seen c.args.exprs.now ≡ map At c.deref.result.now
    = of_some (λ (places : Vec ℕ Global). formulas_seen c.args.exprs.now ≡ map At places.items) c.in_ok-plain.plain
    c.in-Some.places c.in-Some.is c.in_ok-plain.ensures.places ∙ ap (map At) (sym c.deref.ensures.value) in
    lent_lists c.args.exprs.now c.deref.result.now (extended_rows c.args.extended.now)
    (length c.args.extended.now.rows.now) c.in_ok-cells.cells.items is c.in_ok-cells.ensures.gives

pub returns-clause-laid : goal.returns-clause-laid
returns-clause-laid c =
    let is : formulas_seen c.args.exprs.now ≡ map At c.deref.result.now
    = of_some (λ (places : Vec ℕ Global). formulas_seen c.args.exprs.now ≡ map At places.items) c.in_ok-plain.plain
    c.in-Some.places c.in-Some.is c.in_ok-plain.ensures.places ∙ ap (map At) (sym c.deref.ensures.value) in
    c.in_ok-cells.ensures.laid ∙ ap (λ w. length c.args.extended.now.rows.now * w) (plain_count c.args.exprs.now c.deref.result.now is)
