use Rattle.std.proofs.Common.{◌≡◌, ◌++◌, length}
use Rattle.std.specs.Prelude.{All}
use Rattle.std.specs.List.{AllByRecursion, IsAmong}
use Rattle.wruns.specs.Merging.{has_keys, rows_seen}
use Rattle.wentries.specs.Blocks.{flat}
use Rattle.wentries.specs.Keeping.{orders_in}
use Rattle.wentries.specs.Keeping.{rows_in}
use Rattle.wset.proofs.running.sources.Given as goal

-- those so far, and those that are left
abbrev pub invariant-walk : goal.invariant-walk
invariant-walk l = record {
  rows : rows_seen l.sources.items ++ rows_in l.walk ≡ rows_in (flat l.blocks);
  keys : All (has_keys l.keys) l.sources.items;
  left : AllByRecursion (λ o. IsAmong o l.keys) (orders_in l.walk);
}

abbrev pub decreases-walk : goal.decreases-walk
decreases-walk l = length l.walk
