use Rattle.std.proofs.Common.{sym, subst}
use Rattle.wrecords.specs.Forms.{IsForm}
use Rattle.wstream.proofs.Streams.{begins_floor, begins_retired, bad_form, IsOther}
use Rattle.wstream.proofs.found.form_found.Goals as goal

pub returns-in-Retirement : goal.returns-in-Retirement
returns-in-Retirement c =
    begins_retired c.args.bytes.now c.args.rest.now c.in-Retirement.name (subst IsForm c.in-Retirement.is c.requires.form)
    (rw c.in-Retirement.is at c.requires.line)

pub returns-in-Floor : goal.returns-in-Floor
returns-in-Floor c =
    begins_floor c.args.bytes.now c.args.rest.now c.in-Floor.name (subst IsForm c.in-Floor.is c.requires.form)
    (rw c.in-Floor.is at c.requires.line)

pub returns-in-Digest : goal.returns-in-Digest
returns-in-Digest c = bad_form c.args.bytes.now c.args.rest.now c.args.form c.requires.form c.requires.line
    (subst IsOther (sym c.in-Digest.is) tt)

pub returns-in-Table : goal.returns-in-Table
returns-in-Table c = bad_form c.args.bytes.now c.args.rest.now c.args.form c.requires.form c.requires.line
    (subst IsOther (sym c.in-Table.is) tt)

pub returns-in-Dispute : goal.returns-in-Dispute
returns-in-Dispute c = bad_form c.args.bytes.now c.args.rest.now c.args.form c.requires.form c.requires.line
    (subst IsOther (sym c.in-Dispute.is) tt)

pub returns-in-End : goal.returns-in-End
returns-in-End c = bad_form c.args.bytes.now c.args.rest.now c.args.form c.requires.form c.requires.line
    (subst IsOther (sym c.in-End.is) tt)
