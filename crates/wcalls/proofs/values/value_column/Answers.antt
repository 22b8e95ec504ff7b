use Rattle.std.proofs.Common.{length, refl}
use Rattle.wplan.specs.Formula.{formula}
use Rattle.wrows.specs.Laid.{rows_seen}
use Rattle.wcalls.proofs.ColumnFacts.{one_each}
use Rattle.wcalls.proofs.values.value_column.Goals as goal

pub returns-clause-values : goal.returns-clause-values
returns-clause-values c = one_each (formula c.args.expr.now) _ (rows_seen c.args.rows.now) (length c.args.rows.now)
    c.in_ok-column.column.items refl c.in_ok-column.ensures.laid c.in_ok-column.ensures.gives
