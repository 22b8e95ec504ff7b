use Rattle.std.proofs.Common.{map, refl}
use Rattle.wplan.specs.Formula.{At}
use Rattle.wrows.specs.Columns.{value_on}
use Rattle.wrows.specs.Laid.{rows_seen}
use Rattle.waggregate.proofs.ArgumentFacts.{column_in_range}
use Rattle.wgroup.proofs.call_columns.aggregate_column.Goals as goal

pub fed_column-requires-clause-values : goal.fed_column-requires-clause-values
fed_column-requires-clause-values c =
    let rows = rows_seen c.args.grouped.now.rows.now in
    let place = c.in-Some.column.place in
    c.if-feeds.ensures refl rows (map (value_on (At place)) rows) (column_in_range place rows)
