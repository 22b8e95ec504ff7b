use Rattle.std.proofs.Common.{◌≡◌, true}
use Rattle.wlines.specs.Pending.{left, budget, IsSound, IsSoundWriter}
use Rattle.wlines.specs.Sent.{sent}
use Rattle.wstore.proofs.WholeRuns.{SoFar}
use Rattle.wstore.proofs.script_run.answer_all.Given as goal

abbrev pub invariant-commands : goal.invariant-commands
invariant-commands g l = record {
  input : IsSound l.input;
  output : IsSoundWriter l.output;
  answered : l.outbox.is_answered ≡ true;
  so_far : SoFar l.session (left g.R.Read.remaining l.fn.source.held l.fn.input) (left g.R.Read.remaining l.source.held
      l.input) (sent g.W.Write.contents l.fn.outbox l.fn.output) (sent g.W.Write.contents l.outbox l.output);
}

abbrev pub decreases-commands : goal.decreases-commands
decreases-commands g l = budget l.source.held l.input
