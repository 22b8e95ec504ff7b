use Rattle.std.proofs.Common.{ap, refl}
use Rattle.std.proofs.lemmas.Result.{err_from_is_err_and}
use Rattle.wlines.specs.Sent.{sent}
use Rattle.wlines.proofs.Saying.{says_nothing}
use Rattle.wstore.specs.Runs.{Replies, RepliesBegun}
use Rattle.wstore.specs.declared.script_run.RunFault.TheVariants as faults
use Rattle.wstore.proofs.WholeRuns.{run_not_begun, written_whole, ended_front, failed_front}
use Rattle.wstore.proofs.script_run.run.Goals as goal

pub returns-in_default-clause-begun : goal.returns-in_default-clause-begun
returns-in_default-clause-begun g c = run_not_begun c.args.input.now.reads (g.R.Read.remaining c.args.input.now.inner)
    (g.W.Write.contents c.args.output.now.inner) c.requires.input.reads

pub returns-in_default-new-clause-begun : goal.returns-in_default-new-clause-begun
returns-in_default-new-clause-begun g c = run_not_begun c.args.input.now.reads (g.R.Read.remaining c.args.input.now.inner)
    (g.W.Write.contents c.args.output.now.inner) c.requires.input.reads

pub returns-in-Ok-answer_all-clause-replies : goal.returns-in-Ok-answer_all-clause-replies
returns-in-Ok-answer_all-clause-replies g c =
    written_whole c.answer_all.new.input.reads (g.R.Read.remaining c.args.input.now.inner) c.in-Ok.source.held
    (ap (λ s. s.held) c.in-Ok.ensures)
    (sent g.W.Write.contents c.in-Ok-new.outbox c.args.output.now) (sent g.W.Write.contents c.answer_all.new.outbox
    c.answer_all.new.output) (ap (λ o. o.bytes) c.in-Ok-new.ensures)
    (sent g.W.Write.contents c.write_rest.new.outbox c.write_rest.new.output) (Replies c.in-Ok-answer_all.end)
    c.write_rest.ensures.says c.in_ok-write_rest-in-Ok-answer_all.ensures.ok c.in-Ok-answer_all.ensures.replies

pub returns-in_err-write_rest-in-Ok-answer_all-clause-begun : goal.returns-in_err-write_rest-in-Ok-answer_all-clause-begun
returns-in_err-write_rest-in-Ok-answer_all-clause-begun g c =
    let p = err_from_is_err_and c.from_residual.result c.from_residual.ensures.1 in
    let failed = c.in_err-write_rest-in-Ok-answer_all in
    rw (p.1, p.2) (ended_front c.answer_all.new.input.reads (g.R.Read.remaining c.args.input.now.inner) c.in-Ok.source.held
    (ap (λ s. s.held) c.in-Ok.ensures)
    (sent g.W.Write.contents c.in-Ok-new.outbox c.args.output.now) (sent g.W.Write.contents c.answer_all.new.outbox
    c.answer_all.new.output) (ap (λ o. o.bytes) c.in-Ok-new.ensures)
    (sent g.W.Write.contents c.write_rest.new.outbox c.write_rest.new.output) c.in-Ok-answer_all.end failed.field-0.0
    failed.ensures.fault c.write_rest.ensures.says c.in-Ok-answer_all.ensures.replies)

pub returns-in_err-write_rest-in-Err-NoMemory-clause-begun : goal.returns-in_err-write_rest-in-Err-NoMemory-clause-begun
returns-in_err-write_rest-in-Err-NoMemory-clause-begun g c =
    let p = err_from_is_err_and c.from_residual-in_err-write_rest-in-Err-NoMemory.result
    c.from_residual-in_err-write_rest-in-Err-NoMemory.ensures.1 in
    let failed = c.in_err-write_rest-in-Err-NoMemory in
    rw (p.1, p.2) (failed_front c.answer_all.new.input.reads (g.R.Read.remaining c.args.input.now.inner) c.in-Ok.source.held
    (ap (λ s. s.held) c.in-Ok.ensures)
    (sent g.W.Write.contents c.in-Ok-new.outbox c.args.output.now) (sent g.W.Write.contents c.answer_all.new.outbox
    c.answer_all.new.output) (ap (λ o. o.bytes) c.in-Ok-new.ensures)
    (sent g.W.Write.contents c.write_rest-in-Err-NoMemory.new.outbox c.write_rest-in-Err-NoMemory.new.output)
    c.in-Err-NoMemory.field-0 failed.field-0.0 failed.ensures.fault
    c.write_rest-in-Err-NoMemory.ensures.says c.in-Err-NoMemory.ensures.begun)

pub returns-in-Err-NoMemory-clause-begun : goal.returns-in-Err-NoMemory-clause-begun
returns-in-Err-NoMemory-clause-begun g c =
    let said = rw c.in-Err-NoMemory.field-0-is at c.in-Err-NoMemory.ensures.begun in
    written_whole c.answer_all.new.input.reads (g.R.Read.remaining c.args.input.now.inner) c.in-Ok.source.held
    (ap (λ s. s.held) c.in-Ok.ensures)
    (sent g.W.Write.contents c.in-Ok-new.outbox c.args.output.now) (sent g.W.Write.contents c.answer_all.new.outbox
    c.answer_all.new.output) (ap (λ o. o.bytes) c.in-Ok-new.ensures)
    (sent g.W.Write.contents c.write_rest-in-Err-NoMemory.new.outbox c.write_rest-in-Err-NoMemory.new.output)
    (RepliesBegun faults.NoMemory c.answer_all.new.input.reads) c.write_rest-in-Err-NoMemory.ensures.says
    c.in_ok-write_rest-in-Err-NoMemory.ensures.ok said

pub returns-clause-begun : goal.returns-clause-begun
returns-clause-begun g c =
    failed_front c.answer_all.new.input.reads (g.R.Read.remaining c.args.input.now.inner) c.in-Ok.source.held
    (ap (λ s. s.held) c.in-Ok.ensures)
    (sent g.W.Write.contents c.in-Ok-new.outbox c.args.output.now) (sent g.W.Write.contents c.answer_all.new.outbox
    c.answer_all.new.output) (ap (λ o. o.bytes) c.in-Ok-new.ensures)
    (sent g.W.Write.contents c.answer_all.new.outbox c.answer_all.new.output) c.in-Err-Write.field-0 faults.Write refl
    (says_nothing (sent g.W.Write.contents c.answer_all.new.outbox c.answer_all.new.output)) c.in-Err-Write.ensures.begun
