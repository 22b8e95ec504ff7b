use Rattle.std.proofs.Common.{◌≡◌, not, length}
use Rattle.std.specs.List.{filter}
use Rattle.wentries.specs.Knowledge.{Floor, is_over}
use Rattle.wentries.specs.Entries.{AreBelow, IsRising, known_entries}
use Rattle.wset.proofs.merge.drop_tail.Given as goal

abbrev pub invariant-tail : goal.invariant-tail
invariant-tail l = record {
  rising : IsRising l.all.items;
  behind : AreBelow l.floor (known_entries l.all.items);
  same : filter (λ e. not (is_over e.name (l.floor, Floor))) l.all.items
      ≡ filter (λ e. not (is_over e.name (l.floor, Floor))) l.fn.all.items;
}

abbrev pub decreases-tail : goal.decreases-tail
decreases-tail l = length l.all.items
