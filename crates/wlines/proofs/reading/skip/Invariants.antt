use Rattle.std.proofs.Common.{◌≡◌, ℕ, List, [], ◌+◌, ◌-◌, ◌≤◌, length}
use Rattle.std.specs.Io.KnownBytes.{Consumes}
use Rattle.wlines.specs.Failing.{IsReady}
use Rattle.wlines.specs.Pending.{left, budget}
use Rattle.wlines.specs.Sent.{Says, sent}
use Rattle.wlines.proofs.reading.skip.Given as goal

abbrev pub invariant-pieces : goal.invariant-pieces
invariant-pieces g l = record {
  ready : IsReady l.source l.input l.output;
  says : Says (sent g.W.Write.contents l.initial.outbox l.initial.output) (sent g.W.Write.contents l.outbox l.output) [];
  owed : l.outbox.is_answered ≡ l.initial.outbox.is_answered;
  short : l.count ≤ l.len;
  taken : (taken : List ℕ) × Consumes (left g.R.Read.remaining l.initial.source.held l.initial.input)
      (left g.R.Read.remaining l.source.held l.input) taken × (length taken ≡ l.count);
  falls : budget l.source.held l.input + l.count ≤ budget l.initial.source.held l.initial.input;
}

abbrev pub decreases-pieces : goal.decreases-pieces
decreases-pieces g l = l.len - l.count
