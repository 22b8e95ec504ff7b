use Rattle.std.proofs.Common.{length}
use Rattle.wlines.specs.Pending.{IsSoundWriter}
use Rattle.wlines.specs.Sent.{sent}
use Rattle.wstore.proofs.Handling.{SoFar}
use Rattle.wstore.proofs.feeding.tell_messages.Given as goal

abbrev pub invariant-messages : goal.invariant-messages
invariant-messages g l = record {
  sound : IsSoundWriter l.output;
  so_far : SoFar l.initial.node l.node (sent g.W.Write.contents l.initial.outbox l.initial.output)
      (sent g.W.Write.contents l.outbox l.output) l.count;
}

abbrev pub decreases-messages : goal.decreases-messages
decreases-messages g l = length l.node.held
