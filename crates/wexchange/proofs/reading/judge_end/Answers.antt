use Rattle.std.proofs.Common.{◌≡◌, ◌++◌, sym, subst}
use Rattle.std.specs.FinMap.{entries}
use Rattle.wexchange.specs.Files.{HasRecords, counted}
use Rattle.wexchange.specs.Judging.{IsFault}
use Rattle.wexchange.proofs.Faults.{more_behind_one}
use Rattle.wexchange.proofs.WholeReads.{err_then}
use Rattle.wexchange.proofs.reading.judge_end.Goals as goal

pub returns-in-One-clause-fault : goal.returns-in-One-clause-fault
returns-in-One-clause-fault c =
    err_then c.judge_rest.result _ _
    (λ fault h d v view may e. subst (IsFault d c.args.bytes.now) (sym h.0)
    (more_behind_one d v c.args.after.now c.args.bytes.now h.1 view (subst (λ r. HasRecords r v) c.in-One.is may)
    (subst (λ r. c.args.bytes.now ≡ counted r d (entries v) ++ c.args.after.now) c.in-One.is e)))
    c.judge_rest.ensures.fault
