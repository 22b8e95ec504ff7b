use Rattle.std.proofs.Common.{◌≡◌, ◌++◌, map, drop}
use Rattle.wentries.specs.Entries.{listing_of}
use Rattle.wentries.specs.Blocks.{flat}
use Rattle.wentries.proofs.blocks.listing.Given as goal

abbrev pub invariant-walk : goal.invariant-walk
invariant-walk l = l.all.items ++ map listing_of (flat (drop l.block-index l.blocks)) ≡ map listing_of (flat l.blocks)
