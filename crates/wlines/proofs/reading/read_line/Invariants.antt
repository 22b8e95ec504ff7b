use Rattle.std.proofs.Common.{◌+◌, ◌-◌, ◌≤◌, [], length}
use Rattle.std.specs.Io.KnownBytes.{Consumes}
use Rattle.wlines.specs.Pending.{left, budget, IsSound, IsSoundWriter}
use Rattle.wlines.specs.Sent.{Says, sent}
use Rattle.wlines.specs.Words.{Lacks}
use Rattle.wlines.proofs.reading.read_line.Given as goal

abbrev pub invariant-bytes : goal.invariant-bytes
invariant-bytes g l = record {
  lacks : Lacks 10 l.line;
  short : length l.line ≤ 200;
  consumed : Consumes (left g.R.Read.remaining l.initial.source.held l.initial.input) (left g.R.Read.remaining l.source.held
      l.input) l.line;
  sound : IsSound l.input;
  output : IsSoundWriter l.output;
  says : Says (sent g.W.Write.contents l.initial.outbox l.initial.output) (sent g.W.Write.contents l.outbox l.output) [];
  falls : budget l.source.held l.input + length l.line ≤ budget l.initial.source.held l.initial.input;
}

abbrev pub decreases-bytes : goal.decreases-bytes
decreases-bytes g l = 200 - length l.line
