use Rattle.std.proofs.Common.{◌≡◌, ℕ, ◌-◌, ◌<◌, length, get_or}
use Rattle.wvalues.specs.Order.{keys_cmp}
use Rattle.wframe.specs.KeyRows.{key_lists, sort_keys}
use Rattle.wframe.specs.Peers.{group_number}
use Rattle.wframe.proofs.groups.number_groups.Given as goal

abbrev pub invariant-loop-row : goal.invariant-loop-row
invariant-loop-row l =
    let at = group_number (keys_cmp (sort_keys l.peers.rows)) (key_lists l.peers.rows) in
    record {
      last : 0 < l.row → l.number ≡ at (l.row - 1);
      small : 0 < l.row → l.number < l.row;
      long : length l.numbers.items ≡ l.row;
      each : (i : ℕ) → i < l.row → get_or l.numbers.items i 0 ≡ at i;
    }
