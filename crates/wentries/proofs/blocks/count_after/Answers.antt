use Rattle.std.proofs.Common.{◌∙◌, ◌+◌, true, false, sym, ap}
use Rattle.wentries.specs.Blocks.{flat}
use Rattle.wentries.proofs.BlockFacts.{counted_after}
use Rattle.wentries.proofs.blocks.count_after.Goals as goal

pub returns-then-is_some-clause-count : goal.returns-then-is_some-clause-count
returns-then-is_some-clause-count c k =
    c.requires.count ∙ sym (counted_after c.held_in.result (flat c.args.blocks.now) c.args.name.now k true
    c.held_in.ensures.known (sym c.is_some.ensures ∙ c.if-is_some.true) c.requires.rising)

pub returns-clause-count : goal.returns-clause-count
returns-clause-count c k =
    ap (λ n. n + 1) c.requires.count ∙ sym (counted_after c.held_in.result (flat c.args.blocks.now) c.args.name.now k false
    c.held_in.ensures.known (sym c.is_some.ensures ∙ c.if-is_some.false) c.requires.rising)
