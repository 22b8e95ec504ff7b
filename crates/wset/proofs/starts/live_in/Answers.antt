use Rattle.std.proofs.Common.{◌∙◌, arith}
use Rattle.wset.proofs.LiveFacts.{found_at, found_within, none_before, some_block}
use Rattle.wset.proofs.starts.live_in.Goals as goal

pub live_home-k-requires-clause-some : goal.live_home-k-requires-clause-some
live_home-k-requires-clause-some c = omega (arith, some_block c.args.blocks.now c.args.number c.requires.in_range, c.requires.placed)

pub live_home-k-requires-clause-first : goal.live_home-k-requires-clause-first
live_home-k-requires-clause-first c =
    let some = some_block c.args.blocks.now c.args.number c.requires.in_range in
    omega (arith, c.requires.starts 0 (omega (arith, some, c.requires.placed)), none_before c.args.blocks.now)

pub live_at-requires : goal.live_at-requires
live_at-requires c =
    found_within c.args.blocks.now c.args.starts.now c.args.number c.live_home-k.result c.index-blocks-k.result
    c.entries.result.now c.requires.placed c.requires.starts c.live_home-k.ensures c.requires.in_range
    c.index-blocks-k.is c.entries.ensures.same

pub returns : goal.returns
returns c =
    found_at c.args.blocks.now c.args.starts.now c.args.number c.live_home-k.result c.index-blocks-k.result
    c.entries.result.now c.requires.placed c.requires.starts c.live_home-k.ensures c.requires.in_range
    c.index-blocks-k.is c.entries.ensures.same
    ∙ c.live_at.ensures
