use Rattle.std.proofs.Common.{Ok, length, take, sym, ap, ◌∙◌}
use Rattle.wsort.specs.LaidRows.{laid}
use Rattle.wrows.specs.Extended.{extended_rows}
use Rattle.wrows.specs.Plain.{numbers_by}
use Rattle.wrows.proofs.PickFacts.{beside_long}
use Rattle.wrows.proofs.RowFacts.{then_ok}
use Rattle.wrows.proofs.first_rows.first_evaluated.Goals as goal

pub returns : goal.returns
returns c =
    let n = length c.args.extended.now.rows.now in
    let keys = c.args.keys.now in
    let most = c.args.most in
    let all = extended_rows c.args.extended.now in
    let cells = c.in_ok-cells.cells.items in
    then_ok (laid (length c.args.key_exprs.now) n cells) _ (λ by. Ok (take most (numbers_by keys by (length all))))
    c.in_ok-cells.ensures.gives
    ∙ ap (λ k. Ok (take most (numbers_by keys (laid (length c.args.key_exprs.now) n cells) k)))
    (beside_long c.args.extended.now.rows.now c.args.extended.now.columns.now)
    ∙ ap (λ w. Ok (take most (numbers_by keys (laid w n cells) n))) c.requires
    ∙ ap (λ xs. Ok (take most (numbers_by keys (laid (length keys) n xs) n))) (sym c.deref.ensures.value)
    ∙ ap Ok (sym c.in_ok-numbers.ensures)
