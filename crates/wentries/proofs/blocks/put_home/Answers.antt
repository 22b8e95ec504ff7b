use Rattle.std.proofs.Common.{◌≤◌, ◌∙◌, length, ap, sym, subst}
use Rattle.wentries.specs.Entries.{IsRising, AllHeldBy}
use Rattle.wentries.specs.Holding.{known_of}
use Rattle.wentries.specs.Blocks.{HasRoom, half}
use Rattle.wentries.proofs.BlockFacts.{held_set, put_home, rising_at}
use Rattle.wentries.proofs.Cutting.{filled_set}
use Rattle.wentries.specs.Keeping.{kept_in}
use Rattle.wentries.proofs.Falls.{lives_set}
use Rattle.wentries.proofs.blocks.put_home.Goals as goal

pub put-requires-clause-rising : goal.put-requires-clause-rising
put-requires-clause-rising c =
    subst IsRising (sym c.index_mut-block.ensures.value) (rising_at c.args.blocks.now.items c.args.k
    c.index_mut-block.result.now c.requires.home.in_range c.requires.rising)

pub put-requires-clause-room : goal.put-requires-clause-room
put-requires-clause-room c =
    subst (λ b. HasRoom b c.args.name) (sym c.index_mut-block.ensures.value) (c.requires.room c.index_mut-block.result.now)

pub returns-clause-filled : goal.returns-clause-filled
returns-clause-filled c =
    filled_set half c.args.blocks.now.items c.args.k c.index_mut-block.result.now c.put.new.self
    (subst (λ b. length b ≤ length c.put.new.self) c.index_mut-block.ensures.value c.put.ensures.more)

pub returns-clause-ok : goal.returns-clause-ok
returns-clause-ok c =
    put_home c.args.blocks.now.items c.args.name (known_of c.args.held) c.args.k c.index_mut-block.result.now c.put.new.self
    c.requires.home (rw c.index_mut-block.ensures.value at c.in_ok-changes.ensures.ok)

pub returns-clause-read : goal.returns-clause-read
returns-clause-read c d all held =
    held_set d c.args.blocks.now.items c.args.k c.index_mut-block.result.now c.put.new.self c.requires.home.in_range all
    (λ before. c.put.ensures.read d (subst (AllHeldBy d) (sym c.index_mut-block.ensures.value) before) held)

pub returns-clause-lives : goal.returns-clause-lives
returns-clause-lives c same =
    lives_set c.args.blocks.now.items c.args.k c.put.new.self c.index_mut-block.result.now c.requires.home.in_range
    (c.in_ok-changes.ensures.lives same ∙ ap (λ b. length (kept_in b)) c.index_mut-block.ensures.value)
