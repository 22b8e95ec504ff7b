use Rattle.std.proofs.Common.{refl}
use Rattle.wquery.proofs.Says.{column_says}
use Rattle.wexpressions.proofs.Steps.{got_along, handed_on}
use Rattle.wexpressions.proofs.columns.GroupingColumnsElement.read.Goals as goal

pub returns-in_err-column-clause-spelled : goal.returns-in_err-column-clause-spelled
returns-in_err-column-clause-spelled c = handed_on _ _ _ _ c.from_residual.ensures.1 c.in_err-column.ensures.spelled

pub returns-clause-spelled : goal.returns-clause-spelled
returns-clause-spelled c = got_along (column_says _) refl c.in_ok-column.ensures.spelled
