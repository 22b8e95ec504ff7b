use Rattle.std.proofs.Common.{sym, subst}
use Rattle.wact.specs.Laws.{IsTake}
use Rattle.wstore_program.proofs.Performed.{input_read, input_unread, rows_read}
use Rattle.wstore_program.proofs.acting.read_from.Goals as goal

pub returns-in-Take-clause-read : goal.returns-in-Take-clause-read
returns-in-Take-clause-read g c = rows_read _ _ _ _ c.read_at_most.result (λ bytes. bytes.items)
    (subst IsTake (sym c.in-Take.is) tt) c.requires.named c.read_at_most.ensures.found

pub returns-in-Take-clause-unread : goal.returns-in-Take-clause-unread
returns-in-Take-clause-unread g c = input_unread _ _ _ _ c.read_at_most.result c.requires.named c.read_at_most.ensures.begun

pub returns-in_default-clause-read : goal.returns-in_default-clause-read
returns-in_default-clause-read g c = input_read _ _ _ _ c.read_whole.result (λ bytes. bytes.items) c.requires.named
    c.read_whole.ensures.found

pub returns-in_default-clause-unread : goal.returns-in_default-clause-unread
returns-in_default-clause-unread g c = input_unread _ _ _ _ c.read_whole.result c.requires.named c.read_whole.ensures.begun
