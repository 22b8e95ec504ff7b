use Rattle.std.proofs.Common.{◌≡◌, false, ℕ, List, take}
use Rattle.std.specs.BTreeSet.{contains}
use Rattle.std.specs.Borrow.{Bor}
use Rattle.wsegment.specs.Spelling.{repeats_name}
use Rattle.wsegment.proofs.RepeatFacts.{by_text, has_name}
use Rattle.wsegment.proofs.spelling.has_repeated.Given as goal

abbrev pub invariant-loop-column : goal.invariant-loop-column
invariant-loop-column l = record {
  known : (q : Bor (List ℕ)) → contains by_text l.names q ≡ has_name q.now (take l.column-index l.columns);
  once : repeats_name (take l.column-index l.columns) ≡ false;
}
