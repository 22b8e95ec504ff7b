use Rattle.std.proofs.Common.{◌≡◌, ◌+◌, ◌-◌, ◌≤◌, [], length, vec_len, vec_capacity}
use Rattle.std.specs.Io.KnownBytes.{Consumes}
use Rattle.wlines.specs.Failing.{IsReady}
use Rattle.wlines.specs.Pending.{left, budget}
use Rattle.wlines.specs.Sent.{Says, sent}
use Rattle.wlines.proofs.reading.fill.Given as goal

abbrev pub invariant-pieces : goal.invariant-pieces
invariant-pieces g l = record {
  ready : IsReady l.source l.input l.output;
  says : Says (sent g.W.Write.contents l.initial.outbox l.initial.output) (sent g.W.Write.contents l.outbox l.output) [];
  owed : l.outbox.is_answered ≡ l.initial.outbox.is_answered;
  room : l.len ≤ vec_capacity l.bytes;
  short : length l.bytes.items ≤ l.len;
  taken : Consumes (left g.R.Read.remaining l.initial.source.held l.initial.input) (left g.R.Read.remaining l.source.held
      l.input) l.bytes.items;
  falls : budget l.source.held l.input + length l.bytes.items ≤ budget l.initial.source.held l.initial.input;
}

abbrev pub decreases-pieces : goal.decreases-pieces
decreases-pieces g l = l.len - vec_len l.bytes
