use Rattle.std.proofs.lemmas.Result.{err_from_is_err_and}
use Rattle.wfolder.proofs.Steps.{filled, goes_on, unfilled, unwritten, wrote}
use Rattle.wfolder.proofs.replacing.fill.Goals as goal

pub returns-in_err-write-clause-left : goal.returns-in_err-write-clause-left
returns-in_err-write-clause-left g c =
    let p = err_from_is_err_and c.from_residual-in_err-write.result c.from_residual-in_err-write.ensures.1 in
    rw p.1 (rw p.2 (unwritten c.in_err-write.ensures.kind c.in_ok-allow.ensures.given c.in_err-write.ensures.calls))

pub returns-clause-filled : goal.returns-clause-filled
returns-clause-filled g c = filled c.sync.result (goes_on c.in_ok-allow.ensures.given (wrote c.in_ok-write.ensures.calls))
    c.sync.ensures.calls

pub returns-clause-left : goal.returns-clause-left
returns-clause-left g c =
    unfilled c.sync.result c.sync.ensures.kind (goes_on c.in_ok-allow.ensures.given (wrote c.in_ok-write.ensures.calls))
    c.sync.ensures.calls
