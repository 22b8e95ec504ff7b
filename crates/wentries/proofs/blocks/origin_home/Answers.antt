use Rattle.std.proofs.Common.{◌<◌, ◌+◌, ◌-◌, ◌/◌, ◌∙◌, [], length, sym, subst, arith, inl, inr}
use Rattle.wentries.specs.Entries.{AreOriginsBelow, known_entries}
use Rattle.wentries.proofs.Cutting.{block_at}
use Rattle.wentries.proofs.Floors.{both_cases}
use Rattle.wentries.proofs.Origins.{origins_next}
use Rattle.wentries.proofs.blocks.origin_home.Goals as goal

pub search-init : goal.search-init
search-init c =
    let some : 0 < length c.args.blocks.now = c.requires.some in
    record {
      order = omega arith;
      in_range = omega (arith, some);
      before = tt;
      reached = inl (omega (arith, some));
    }

pub search-preserved-then-ends_before_origin : goal.search-preserved-then-ends_before_origin
search-preserved-then-ends_before_origin c =
    let middle = c.search.low + (c.search.high - c.search.low) / 2 in
    let below : middle < c.search.high = omega (arith, c.search-test.true) in
    let within : middle < length c.args.blocks.now = omega (arith, below, c.search.invariant.in_range) in
    record {
      order = omega (arith, below);
      in_range = c.search.invariant.in_range;
      before = origins_next c.args.blocks.now middle c.index-blocks-middle.result c.args.origin.now within
          c.index-blocks-middle.is c.requires.rising (c.ends_before_origin.ensures.before c.if-ends_before_origin.true);
      reached = c.search.invariant.reached;
    }

pub search-preserved : goal.search-preserved
search-preserved c =
    let middle = c.search.low + (c.search.high - c.search.low) / 2 in
    let below : middle < c.search.high = omega (arith, c.search-test.true) in
    let within : middle < length c.args.blocks.now = omega (arith, below, c.search.invariant.in_range) in
    record {
      order = omega arith;
      in_range = within;
      before = c.search.invariant.before;
      reached = inr (λ all. both_cases _
          (c.ends_before_origin.ensures.all (subst (λ b. AreOriginsBelow c.args.origin.now (known_entries b))
          (block_at c.args.blocks.now middle [] c.index-blocks-middle.result within ∙ sym c.index-blocks-middle.is)
          all)) c.if-ends_before_origin.false);
    }
