-- How a block is kept.
use Rattle.std.specs.Prelude.{◌≡◌, ◌<◌, ◌≤◌, length}
use Rattle.wentries.specs.Blocks.{longest}
use Rattle.wentries.specs.Keeping.{kept_in}
use Rattle.wentries.specs.declared.blocks.Block.TheInside.{Inside}

-- it has an entry and at most so many, and its live names are counted
pub record IsBlock (b : Inside) : Type 0 where
  pub some : 0 < length b.entries.items
  pub bounded : length b.entries.items ≤ longest
  pub counted : b.live ≡ length (kept_in b.entries.items)
