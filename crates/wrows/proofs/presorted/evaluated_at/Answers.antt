use Rattle.std.proofs.Common.{Ok, length, map, sym, ap, ◌∙◌}
use Rattle.wframe.specs.Peers.{key_at}
use Rattle.wsort.specs.LaidRows.{laid}
use Rattle.wrows.specs.Extended.{extended_rows}
use Rattle.wrows.specs.Laid.{formulas_seen}
use Rattle.wrows.specs.Columns.{lists_of}
use Rattle.wrows.proofs.RowFacts.{then_ok}
use Rattle.wrows.proofs.presorted.evaluated_at.Goals as goal

pub returns-clause-rows : goal.returns-clause-rows
returns-clause-rows c =
    let n = length c.args.extended.now.rows.now in
    let width = length c.args.items.now in
    let listed = laid width n c.in_ok-lists.lists.items in
    then_ok listed (lists_of (formulas_seen c.args.items.now) (extended_rows c.args.extended.now))
    (λ listed. Ok (map (key_at listed) c.args.numbers.now)) c.in_ok-lists.ensures.gives
    ∙ ap (λ xs. Ok (map (key_at (laid width n xs)) c.args.numbers.now)) (sym c.deref.ensures.value)
    ∙ ap Ok (sym c.in_ok-cells.ensures.rows)
