use Rattle.std.proofs.Common.{ap, ◌∙◌}
use Rattle.wrows.specs.Columns.{column_of}
use Rattle.wrows.specs.Laid.{rows_seen}
use Rattle.wcalls.proofs.PlainFacts.{placed_column}
use Rattle.wcalls.proofs.values.column_values.Goals as goal

pub returns-in-Some-place_of : goal.returns-in-Some-place_of
returns-in-Some-place_of c = ap (λ t. column_of t (rows_seen c.args.arranged.now.rows.now)) c.in-Some-place_of.ensures.formula
    ∙ placed_column c.in-Some-place_of.place c.args.arranged.now.rows.now
