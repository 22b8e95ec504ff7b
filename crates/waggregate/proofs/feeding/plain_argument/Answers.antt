use Rattle.std.proofs.Common.{length, refl, ap, ◌∙◌}
use Rattle.std.proofs.lemmas.List.{length-map}
use Rattle.wrows.specs.Columns.{column_of}
use Rattle.wrows.specs.Laid.{row_seen, rows_seen}
use Rattle.waggregate.proofs.ArgumentFacts.{column_in_range, nulls_in_range}
use Rattle.waggregate.proofs.feeding.plain_argument.Goals as goal

pub returns-then-is_null-clause-value : goal.returns-then-is_null-clause-value
returns-then-is_null-clause-value c =
    let rows = c.args.rows.now in
    ap (λ t. column_of t (rows_seen rows)) (c.if-is_null.ensures.null refl)
    ∙ nulls_in_range (rows_seen rows) (length rows) (length-map rows row_seen)

pub returns-in-Some-clause-value : goal.returns-in-Some-clause-value
returns-in-Some-clause-value c =
    let rows = rows_seen c.args.rows.now in
    ap (λ t. column_of t rows) c.in-Some.ensures.formula ∙ column_in_range c.in-Some.place rows
