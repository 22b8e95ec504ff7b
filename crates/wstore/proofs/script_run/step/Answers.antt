use Rattle.std.proofs.lemmas.Result.{err_from_is_err_and}
use Rattle.wlines.specs.Pending.{left}
use Rattle.wreplies.specs.Spelling.{no_memory}
use Rattle.wstore.specs.Replies.{bad_script}
use Rattle.wstore.proofs.Stepping.{may_stand, fails_at_last, fails_at_answer}
use Rattle.wstore.proofs.Telling.{finds_no_memory}
use Rattle.wstore.proofs.Writing.{answered, answered_part, unanswered, answered_behind, unanswered_behind, kept_may_lack}
use Rattle.wlines.proofs.Saying.{says_behind}
use Rattle.wstore.proofs.script_run.step.Goals as goal

pub returns-in_err-send-in-Malformed-clause-fails : goal.returns-in_err-send-in-Malformed-clause-fails
returns-in_err-send-in-Malformed-clause-fails g c =
    let p = err_from_is_err_and c.from_residual.result c.from_residual.ensures.1 in
    let failed = c.in_err-send-in-Malformed.ensures in
    rw (p.1, p.2) (λ h stands.
    let bad = rw (c.in-Malformed.is, c.is_declared-declared.ensures.history h stands) at c.in-Ok.ensures.reads in
    fails_at_last c.in_err-send-in-Malformed.field-0.0 h (left g.R.Read.remaining c.args.source.now.held c.args.input.now) _
    _ failed.front.0 failed.fault bad (says_behind _ _ _ _ c.next_request.ensures.says failed.front.1))

pub returns-in_err-send-in-NoMemory-clause-fails : goal.returns-in_err-send-in-NoMemory-clause-fails
returns-in_err-send-in-NoMemory-clause-fails g c =
    let p = err_from_is_err_and c.from_residual-in_err-send-in-NoMemory.result c.from_residual-in_err-send-in-NoMemory.ensures.1 in
    let fault = c.in_err-send-in-NoMemory.field-0.0 in
    let failed = c.in_err-send-in-NoMemory.ensures in
    rw (p.1, p.2) (λ h stands.
    let read = rw (c.in-NoMemory.is, c.is_declared-declared.ensures.history h stands) at c.in-Ok.ensures.reads in
    fails_at_answer fault h (left g.R.Read.remaining c.args.source.now.held c.args.input.now)
    (left g.R.Read.remaining c.next_request.new.source.held c.next_request.new.input) _ _ read.0 read.2 read.3
    (unanswered fault h read.0 _ _ failed.fault
    (answered_part c.args.session.now h read.0 no_memory _ _ (finds_no_memory c.args.session.now h read.0
    (kept_may_lack h read.0 read.1) stands) failed.front.0 (says_behind _ _ _ _ c.next_request.ensures.says failed.front.1))))

pub returns-in_ok-send-in-NoMemory-clause-leads : goal.returns-in_ok-send-in-NoMemory-clause-leads
returns-in_ok-send-in-NoMemory-clause-leads g c = λ h stands.
    let read = rw (c.in-NoMemory.is, c.is_declared-declared.ensures.history h stands) at c.in-Ok.ensures.reads in
    record {
      command = read.0;
      is = read.2;
      consumes = read.3;
      answered = answered c.args.session.now h read.0 no_memory _ _ (finds_no_memory c.args.session.now h read.0
          (kept_may_lack h read.0 read.1) stands) (says_behind _ _ _ _ c.next_request.ensures.says c.in_ok-send-in-NoMemory.ensures.ok);
    }

pub answer_command-requires-clause-suits : goal.answer_command-requires-clause-suits
answer_command-requires-clause-suits g c =
    let read = rw (c.in-Whole.is, c.is_declared-declared.ensures.cluster) at c.in-Ok.ensures.reads in
    may_stand c.args.session.now c.in-Whole.command read.0 read.1 read.2.allowed

pub returns-in_err-answer_command-in-Whole-clause-fails : goal.returns-in_err-answer_command-in-Whole-clause-fails
returns-in_err-answer_command-in-Whole-clause-fails g c =
    let p = err_from_is_err_and c.from_residual-in_err-answer_command-in-Whole.result
    c.from_residual-in_err-answer_command-in-Whole.ensures.1 in
    rw (p.1, p.2) (λ h stands.
    let read = rw (c.in-Whole.is, c.is_declared-declared.ensures.history h stands) at c.in-Ok.ensures.reads in
    fails_at_answer c.in_err-answer_command-in-Whole.field-0.0 h (left g.R.Read.remaining c.args.source.now.held
    c.args.input.now) (left g.R.Read.remaining c.next_request.new.source.held c.next_request.new.input) _ _ read.0 read.2 read.3
    (unanswered_behind c.in_err-answer_command-in-Whole.field-0.0 h read.0 _ _ _ c.next_request.ensures.says
    (c.in_err-answer_command-in-Whole.ensures.part h read.0 read.1 read.2.allowed stands)))

pub returns-in_ok-send-in-Malformed-clause-leads : goal.returns-in_ok-send-in-Malformed-clause-leads
returns-in_ok-send-in-Malformed-clause-leads g c = λ h stands.
    let bad = rw (c.in-Malformed.is, c.is_declared-declared.ensures.history h stands) at c.in-Ok.ensures.reads in
    (bad, says_behind _ _ _ bad_script c.next_request.ensures.says c.in_ok-send-in-Malformed.ensures.ok)

pub returns-in_ok-answer_command-in-Whole-clause-leads : goal.returns-in_ok-answer_command-in-Whole-clause-leads
returns-in_ok-answer_command-in-Whole-clause-leads g c = λ h stands.
    let read = rw (c.in-Whole.is, c.is_declared-declared.ensures.history h stands) at c.in-Ok.ensures.reads in
    record {
      command = read.0;
      is = read.2;
      consumes = read.3;
      answered = answered_behind _ h read.0 _ _ _ c.next_request.ensures.says (c.in_ok-answer_command-in-Whole.ensures.ok h
          read.0 read.1 read.2.allowed stands);
    }
