use Rattle.std.proofs.Common.{refl}
use Rattle.wquery.proofs.Says.{column_says}
use Rattle.wexpressions.proofs.Steps.{got_along, as_got, as_refused, handed_on}
use Rattle.wexpressions.proofs.expressions.qualified.Goals as goal

pub returns-in_err-name : goal.returns-in_err-name
returns-in_err-name c = handed_on _ _ _ _ c.from_residual.ensures.1 (as_refused _ c.in_err-name.ensures)

pub returns : goal.returns
returns c = got_along (column_says _) refl (as_got c.in_ok-name.ensures)
