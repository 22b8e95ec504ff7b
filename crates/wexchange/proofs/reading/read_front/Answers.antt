use Rattle.std.proofs.lemmas.Result.{err_from_is_err_and}
use Rattle.wexchange.proofs.Faults.{head_goes_on}
use Rattle.wexchange.proofs.reading.read_front.Goals as goal

pub returns-in_err-version-clause-fault : goal.returns-in_err-version-clause-fault
returns-in_err-version-clause-fault c =
    let p = err_from_is_err_and c.from_residual.result c.from_residual.ensures.1 in
    rw (p.1, p.2) (c.in_err-version.ensures.fault c.args.schema.now)

pub returns-in_err-records-clause-fault : goal.returns-in_err-records-clause-fault
returns-in_err-records-clause-fault c =
    let p = err_from_is_err_and c.from_residual-in_err-records.result c.from_residual-in_err-records.ensures.1 in
    rw (p.1, p.2) (c.in_err-records.ensures.fault c.in_ok-version.version c.args.bytes.now
    (head_goes_on c.in_ok-version.version c.args.schema.now c.args.bytes.now c.in_ok-version.rest.now c.in_ok-version.ensures.found))
