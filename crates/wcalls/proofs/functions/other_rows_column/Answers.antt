use Rattle.std.proofs.Common.{ℕ, Option, length, ap, ◌∙◌}
use Rattle.wvalues.specs.Meaning.{meaning}
use Rattle.wcolumns.specs.Columns.{value_of_number, values_seen}
use Rattle.wframe.specs.Places.{places}
use Rattle.wplan.specs.Formula.{formula}
use Rattle.wrows.specs.Laid.{rows_seen}
use Rattle.wcalls.specs.Arranged.{value_read}
use Rattle.wcalls.specs.Calls.{each_row}
use Rattle.wcalls.specs.Kept.{number_read}
use Rattle.wcalls.specs.Windows.{partition_at, partition_rows, place_at}
use Rattle.wcalls.proofs.CallFacts.{number_kept, reading_is}
use Rattle.wcalls.proofs.PlainFacts.{map-same}
use Rattle.wcalls.proofs.functions.other_rows_column.Goals as goal

pub returns-clause-column : goal.returns-clause-column
returns-clause-column g c w arranged =
    let vs = values_seen c.in_ok-values.values in
    let d = meaning c.in_ok-otherwise.otherwise in
    let place : ℕ → Option ℕ = λ i. g.P.RowPlaces.place_read c.args.places (length (partition_rows w i)) (partition_at w i)
    (place_at w i) in
    reading_is w (formula c.args.expr.now) (rows_seen c.args.arranged.now.rows.now) (meaning c.args.default.now)
    (g.P.RowPlaces.place_read c.args.places) vs _ c.in_ok-values.ensures
    (c.in_ok-numbers.ensures w arranged (value_of_number vs d)
    ∙ map-same (λ i. value_of_number vs d (number_read (partition_rows w i) (place i)))
    (λ i. value_read vs (partition_rows w i) d (place i))
    (λ i. number_kept vs (partition_rows w i) d (place i)) (places (length w.values))
    ∙ ap (λ m. each_row w (λ i. value_read vs (partition_rows w i) m (place i))) c.in_ok-otherwise.ensures)
