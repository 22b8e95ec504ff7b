use Rattle.std.proofs.Common.{◌≡◌, ◌∙◌, arith, refl, sym}
use Rattle.wentries.specs.Keeping.{plain_block, plain_entry}
use Rattle.wentries.specs.StoredBlocks.{IsBlock}
use Rattle.wentries.specs.declared.blocks.Block.TheInside.{Inside}
use Rattle.wentries.proofs.Lives.{count_same}
use Rattle.wentries.proofs.Lists.{same_length}
use Rattle.wentries.proofs.blocks.Block.keep_runs.Goals as goal

-- a block that holds the same has as many entries, and as many live ones
still : (a b : Inside) → b.live ≡ a.live → plain_block b.entries.items ≡ plain_block a.entries.items → IsBlock a → IsBlock b
still a b live same h =
    let long = same_length plain_entry b.entries.items a.entries.items same in
    record {
      some = omega (arith, long, h.some);
      bounded = omega (arith, long, h.bounded);
      counted = live ∙ h.counted ∙ sym (count_same b.entries.items a.entries.items same);
    }

pub invariant_of-self : goal.invariant_of-self
invariant_of-self c = still c.self.inside _ refl c.keep_runs.ensures.plain c.self.invariant

pub invariant_of-self-2 : goal.invariant_of-self-2
invariant_of-self-2 c = still c.self.inside _ refl c.keep_runs.ensures.plain c.self.invariant
