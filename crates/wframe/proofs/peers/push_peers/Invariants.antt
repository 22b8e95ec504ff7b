use Rattle.std.proofs.Common.{◌≡◌, ◌+◌, ◌-◌, ◌<◌, ◌≤◌, length, get_or}
use Rattle.wvalues.specs.Order.{keys_cmp}
use Rattle.wframe.specs.KeyRows.{key_lists, sort_keys}
use Rattle.wframe.specs.Peers.{is_before}
use Rattle.wframe.specs.Cuts.{CutsAt, BeginsWith}
use Rattle.wframe.specs.PeerGroups.{AreGroups, begins_of}
use Rattle.wframe.proofs.peers.push_peers.Given as goal

abbrev pub invariant-loop-from : goal.invariant-loop-from
invariant-loop-from l =
    let cmp = keys_cmp (sort_keys l.rows) in
    let keys = key_lists l.rows in
    record {
      within : l.from ≤ length keys;
      before : l.from < length keys → CutsAt (length keys) (is_before cmp keys l.from) l.from;
      groups : AreGroups cmp keys l.first (length l.fn.ends.items) l.from l.numbers.items l.ends.items;
      long : length l.numbers.items ≡ l.first + l.from;
      few : length l.ends.items ≤ l.first + l.from;
      last : get_or (begins_of l.ends.items) (length l.ends.items) 0 ≡ l.first + l.from;
      numbers_stay : BeginsWith l.fn.numbers.items l.numbers.items;
      ends_stay : BeginsWith l.fn.ends.items l.ends.items;
    }

abbrev pub decreases-loop-from : goal.decreases-loop-from
decreases-loop-from l = length (key_lists l.rows) - l.from
