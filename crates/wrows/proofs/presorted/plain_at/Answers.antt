use Rattle.std.proofs.Common.{◌<◌, Ok, length, map, sym, ap, ◌∙◌}
use Rattle.std.proofs.lemmas.List.Elements.{recursion_from_All}
use Rattle.wframe.specs.Peers.{key_at}
use Rattle.wframe.specs.Places.{places}
use Rattle.wplan.specs.Formula.{At}
use Rattle.wrows.specs.Extended.{extended_rows, picked_of}
use Rattle.wrows.specs.Columns.{lists_of}
use Rattle.wrows.proofs.PickFacts.{picked_at, picked_lists}
use Rattle.wrows.proofs.RowFacts.{then_ok}
use Rattle.wrows.proofs.presorted.plain_at.Goals as goal

pub returns-clause-rows : goal.returns-clause-rows
returns-clause-rows c =
    let n = length c.args.extended.now.rows.now in
    let ps = c.args.places.now in
    let row_of = picked_of ps c.args.extended.now in
    then_ok (map row_of (places n)) (lists_of (map At ps) (extended_rows c.args.extended.now))
    (λ listed. Ok (map (key_at listed) c.args.numbers.now)) (picked_lists ps c.args.extended.now.rows.now c.args.extended.now.columns.now)
    ∙ ap Ok (sym (picked_at row_of n c.args.numbers.now (recursion_from_All (λ i. i < n) c.args.numbers.now c.requires)))
    ∙ ap Ok (sym c.in_ok-cells.ensures.rows)
