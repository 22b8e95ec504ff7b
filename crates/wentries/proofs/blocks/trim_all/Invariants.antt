use Rattle.std.proofs.Common.{◌≡◌, ◌++◌, map, take, drop}
use Rattle.wentries.specs.Blocks.{trimmed}
use Rattle.wentries.specs.Falls.{IsFall}
use Rattle.wentries.proofs.blocks.trim_all.Given as goal

abbrev pub invariant-blocks-2 : goal.invariant-blocks-2
invariant-blocks-2 l = record {
  trimmed : l.blocks.items ≡ map (trimmed l.floor) (take l.k l.fn.blocks.items) ++ drop l.k l.fn.blocks.items;
  fall : IsFall l.floor (take l.k l.fn.blocks.items) l.fall;
}
