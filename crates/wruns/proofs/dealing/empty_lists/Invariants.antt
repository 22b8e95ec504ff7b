use Rattle.std.proofs.Common.{◌≡◌, [], All, length}
use Rattle.wruns.specs.Dealing.{lists_seen}
use Rattle.wruns.proofs.dealing.empty_lists.Given as goal

abbrev pub invariant-loop-segment : goal.invariant-loop-segment
invariant-loop-segment l = record {
  len : length l.lists.items ≡ l.segment-index;
  empty : All (λ list. list ≡ []) (lists_seen l.lists.items);
}
