use Rattle.std.proofs.Common.{◌≡◌, length, take}
use Rattle.wruns.specs.Dealing.{dealt_places, lists_seen}
use Rattle.wruns.proofs.dealing.deal.Given as goal

-- the rows so far are dealt
abbrev pub invariant-loop-row : goal.invariant-loop-row
invariant-loop-row l = record {
  dealt : lists_seen l.lists.items ≡ dealt_places (take l.row-index l.rows) (length l.initial.lists.items);
  len : length l.lists.items ≡ length l.initial.lists.items;
}
