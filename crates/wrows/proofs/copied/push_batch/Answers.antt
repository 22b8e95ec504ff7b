use Rattle.std.proofs.Common.{get_or, sym, ap, ◌∙◌, arith}
use Rattle.std.specs.List.{list_any}
use Rattle.wrows.specs.Columns.{value_at}
use Rattle.wrows.specs.Laid.{rows_seen}
use Rattle.wrows.specs.Picked.{is_text, row_beside, with_columns}
use Rattle.wrows.proofs.PickFacts.{none_of_row}
use Rattle.wrows.proofs.copied.push_batch.Goals as goal

pub push_without_texts-requires : goal.push_without_texts-requires
push_without_texts-requires c =
    let places = c.args.places.now in
    let numbers = c.args.numbers.now in
    let k = c.loop-number.number-index in
    let columns = rows_seen c.args.extended.now.columns.now in
    ap (λ own. list_any (λ place. is_text (value_at (with_columns own columns (get_or numbers k 0)) place)) places) c.cells_at-own.ensures
    ∙ none_of_row (λ place i. is_text (value_at (row_beside (rows_seen c.args.extended.now.rows.now) columns i) place)) places numbers k
    (omega arith) (sym c.have_texts-some_text.ensures ∙ c.if-some_text.false)
