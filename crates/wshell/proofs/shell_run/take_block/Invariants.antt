use Rattle.std.proofs.Common.{◌≡◌, take}
use Rattle.wlines.specs.Pending.{IsSoundWriter}
use Rattle.wshell.specs.Runs.{GoesOn}
use Rattle.wshell.proofs.shell_run.take_block.Given as goal

abbrev pub invariant-bytes : goal.invariant-bytes
invariant-bytes g l = record {
  same : l.node ≡ l.initial.node;
  sound : IsSoundWriter l.output;
  on : GoesOn l.initial.node.schema l.initial.node.view (take l.byte-index l.block)
      (g.W.Write.contents l.initial.output.inner) (g.W.Write.contents l.output.inner)
      l.initial.pending l.pending l.initial.replied l.replied;
}
