use Rattle.std.proofs.Common.{◌≡◌, ℕ, ◌+◌, ◌-◌, ◌<◌, ◌≤◌, true, length, get_or}
use Rattle.wframe.specs.KeyRows.{key_lists}
use Rattle.wframe.specs.Cuts.{CutsFrom, BeginsWith}
use Rattle.wframe.proofs.cuts.push_group_cuts.Given as goal

abbrev pub invariant-loop-row : goal.invariant-loop-row
invariant-loop-row g l =
    let n = length (key_lists l.peers.rows) in
    let numbers = l.peers.numbers.now in
    let first = l.peers.first in
    record {
      row_within : l.row ≤ n;
      end_within : l.end ≤ n;
      before : l.row < n → (j : ℕ) → j < l.end → g.C.Cut.passes l.cut l.row j ≡ true;
      here : l.row < n → get_or numbers (first + l.row) 0 ≡ length l.cuts.items;
      last : l.row ≡ n → length l.cuts.items ≡ length l.peers.ends.now;
      stays : BeginsWith l.fn.cuts.items l.cuts.items;
      known : (i : ℕ) → i < l.row → get_or numbers (first + i) 0 < length l.cuts.items;
      each : (i : ℕ) → i < l.row → CutsFrom first n (g.C.Cut.passes l.cut i) (get_or l.cuts.items (get_or numbers (first + i) 0) 0);
    }

abbrev pub decreases-loop-row : goal.decreases-loop-row
decreases-loop-row g l = length (key_lists l.peers.rows) - l.row
