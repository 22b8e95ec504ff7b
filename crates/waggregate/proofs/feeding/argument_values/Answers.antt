use Rattle.wplan.specs.Formula.{formula}
use Rattle.waggregate.proofs.FeedFacts.{only_column}
use Rattle.waggregate.proofs.feeding.argument_values.Goals as goal

pub returns-clause-gives : goal.returns-clause-gives
returns-clause-gives c = only_column (formula c.args.expr.now) c.args.rows.now c.in_ok-cells.cells.items
    c.in_ok-cells.ensures.laid c.in_ok-cells.ensures.gives
