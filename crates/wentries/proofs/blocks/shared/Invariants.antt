use Rattle.std.proofs.Common.{◌≡◌, ◌++◌, drop}
use Rattle.wentries.specs.Blocks.{flat}
use Rattle.wentries.proofs.blocks.shared.Given as goal

abbrev pub invariant-walk : goal.invariant-walk
invariant-walk l = l.all.items ++ flat (drop l.block-index l.blocks) ≡ flat l.blocks
