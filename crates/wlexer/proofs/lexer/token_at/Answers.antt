use Rattle.std.proofs.Common.{refl}
use Rattle.wlexer.proofs.lexer.token_at.Goals as goal

pub returns-in-Err-Nothing-clause-fault : goal.returns-in-Err-Nothing-clause-fault
returns-in-Err-Nothing-clause-fault c = (refl, rw c.in-Err-Nothing.field-0-is at c.in-Err-Nothing.ensures.none)
