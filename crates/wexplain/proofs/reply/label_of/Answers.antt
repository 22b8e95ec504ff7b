use Rattle.std.proofs.Common.{sym}
use Rattle.wshown.proofs.Lines.{before_found, before_none}
use Rattle.wexplain.proofs.reply.label_of.Goals as goal

pub returns-in-Some : goal.returns-in-Some
returns-in-Some c = before_found _ _ _ (sym c.in-Some.ensures)

pub returns-in-None : goal.returns-in-None
returns-in-None c = before_none _ _ (sym c.in-None.ensures)
