use Rattle.std.proofs.Common.{refl}
use Rattle.wlines.specs.Pending.{left}
use Rattle.wlines.specs.Sent.{sent}
use Rattle.wstore.proofs.WholeRuns.{one_step_more, run_ends, run_fails}
use Rattle.wstore.proofs.script_run.answer_all.Goals as goal

pub commands-preserved : goal.commands-preserved
commands-preserved g c =
    let leads = rw c.in-Ok-None.field-0-is at c.in-Ok-None.ensures.leads in
    let answered = rw c.in-Ok-None.field-0-is at c.in-Ok-None.ensures.answered in
    record {
      input = c.in-Ok-None.ensures.ready.reader;
      output = c.in-Ok-None.ensures.ready.writer;
      answered = answered refl;
      so_far = one_step_more c.commands.session c.step.new.session (left g.R.Read.remaining c.args.source.now.held c.args.input.now)
          (left g.R.Read.remaining c.commands.source.held c.commands.input) (left g.R.Read.remaining c.step.new.source.held
          c.step.new.input)
          (sent g.W.Write.contents c.args.outbox.now c.args.output.now) (sent g.W.Write.contents c.commands.outbox
          c.commands.output) (sent g.W.Write.contents c.step.new.outbox c.step.new.output)
          c.commands.invariant.so_far leads;
    }

pub returns-in-Ok-Some-clause-replies : goal.returns-in-Ok-Some-clause-replies
returns-in-Ok-Some-clause-replies g c =
    let leads = rw c.in-Ok-Some.field-0-is at c.in-Ok-Some.ensures.leads in
    run_ends c.commands.session (left g.R.Read.remaining c.args.source.now.held c.args.input.now)
    (left g.R.Read.remaining c.commands.source.held c.commands.input) (left g.R.Read.remaining c.step.new.source.held c.step.new.input)
    (sent g.W.Write.contents c.args.outbox.now c.args.output.now) (sent g.W.Write.contents c.commands.outbox
    c.commands.output) (sent g.W.Write.contents c.step.new.outbox c.step.new.output)
    c.commands.invariant.so_far c.in-Ok-Some.end leads

pub returns-in-Err-clause-begun : goal.returns-in-Err-clause-begun
returns-in-Err-clause-begun g c =
    run_fails c.commands.session (left g.R.Read.remaining c.args.source.now.held c.args.input.now)
    (left g.R.Read.remaining c.commands.source.held c.commands.input) (left g.R.Read.remaining c.step.new.source.held c.step.new.input)
    (sent g.W.Write.contents c.args.outbox.now c.args.output.now) (sent g.W.Write.contents c.commands.outbox
    c.commands.output) (sent g.W.Write.contents c.step.new.outbox c.step.new.output)
    c.commands.invariant.so_far c.in-Err.fault c.step.new.input.reads c.in-Err.ensures.fails
