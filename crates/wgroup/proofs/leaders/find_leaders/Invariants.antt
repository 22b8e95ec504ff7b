use Rattle.std.proofs.Common.{◌≡◌, ℕ, suc, ◌<◌, length, get_or}
use Rattle.wgroup.specs.Sight.{IsFirst, same_row}
use Rattle.wgroup.proofs.leaders.find_leaders.Given as goal

abbrev pub invariant-loop-place : goal.invariant-loop-place
invariant-loop-place l = record {
  long : length l.leaders.items ≡ l.count;
  within : 0 < l.count → l.leader < l.count;
  begun : l.place ≡ 0 → l.leader ≡ 0;
  last : (j : ℕ) → suc j ≡ l.place → IsFirst (same_row l.width l.cells) l.count (get_or l.order.items j 0) l.leader;
  done : (j : ℕ) → j < l.place → IsFirst (same_row l.width l.cells) l.count (get_or l.order.items j 0)
      (get_or l.leaders.items (get_or l.order.items j 0) 0);
}
