use Rattle.std.proofs.Common.{◌≡◌, ◌-◌}
use Rattle.wlines.specs.Pending.{IsSound, IsSoundWriter, most_reads}
use Rattle.wshell.specs.Runs.{StandsAfter}
use Rattle.wshell.proofs.shell_run.take_all.Given as goal

abbrev pub invariant-reads : goal.invariant-reads
invariant-reads g l = record {
  same : l.node ≡ l.initial.node;
  input_sound : IsSound l.input;
  output_sound : IsSoundWriter l.output;
  after : StandsAfter l.initial.node.schema l.initial.node.view (g.R.Read.remaining l.initial.input.inner)
      (g.R.Read.remaining l.input.inner) (g.W.Write.contents l.initial.output.inner) (g.W.Write.contents l.output.inner)
      l.pending l.replied;
}

abbrev pub decreases-reads : goal.decreases-reads
decreases-reads g l = most_reads - l.input.reads
