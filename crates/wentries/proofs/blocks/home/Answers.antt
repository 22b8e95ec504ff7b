use Rattle.std.proofs.Common.{◌<◌, ◌+◌, ◌-◌, ◌/◌, length, arith}
use Rattle.wentries.proofs.BlockFacts.{below_next, behind_next}
use Rattle.wentries.proofs.blocks.home.Goals as goal

pub search-preserved-then-ends_before : goal.search-preserved-then-ends_before
search-preserved-then-ends_before c =
    let middle = c.search.low + (c.search.high - c.search.low) / 2 in
    let below : middle < c.search.high = omega (arith, c.search-test.true) in
    let within : middle < length c.args.blocks.now = omega (arith, below, c.search.invariant.in_range) in
    record {
      order = omega (arith, below);
      in_range = c.search.invariant.in_range;
      before = below_next c.args.blocks.now middle c.index-blocks-middle.result c.args.name.now within
          c.index-blocks-middle.is c.requires.rising (c.ends_before.ensures.before c.if-ends_before.true);
      behind = c.search.invariant.behind;
    }

pub search-preserved : goal.search-preserved
search-preserved c =
    let middle = c.search.low + (c.search.high - c.search.low) / 2 in
    let below : middle < c.search.high = omega (arith, c.search-test.true) in
    let within : middle < length c.args.blocks.now = omega (arith, below, c.search.invariant.in_range) in
    record {
      order = omega arith;
      in_range = within;
      before = c.search.invariant.before;
      behind = behind_next c.args.blocks.now middle c.index-blocks-middle.result c.args.name.now within
          c.index-blocks-middle.is c.requires.rising (c.ends_before.ensures.behind c.if-ends_before.false);
    }
