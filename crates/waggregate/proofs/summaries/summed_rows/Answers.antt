use Rattle.std.proofs.Common.{get_or, subst, arith}
use borrow.Author.Count.{below_more}
use Rattle.wvalues.specs.Meaning.{Null}
use Rattle.wslide.specs.Aggregates.{IsInRange}
use Rattle.waggregate.specs.Feeding.{values_of}
use Rattle.waggregate.specs.Summaries.{IsWith}
use Rattle.waggregate.proofs.SummaryFacts.{summed_copies, summed_long, summed_more}
use Rattle.waggregate.proofs.summaries.summed_rows.Goals as goal

pub loop-row-init : goal.loop-row-init
loop-row-init c = record {
  summed = summed_copies (values_of c.args.argument) c.args.extremes c.args.groups.now c.args.count
      c.in_ok-summaries.summaries.items c.of_none.result c.of_none.ensures c.in_ok-summaries.ensures;
  ranges = λ i h. absurd (omega (arith, h));
}

pub index_mut-requires : goal.index_mut-requires
index_mut-requires c =
    omega (
      arith,
      c.requires.below c.loop-row.row 0 c.loop-row-test.true,
      summed_long (values_of c.args.argument) c.args.extremes c.args.groups.now c.loop-row.row c.args.count
          c.loop-row.summaries.items c.loop-row.invariant.summed,
    )

pub loop-row-preserved : goal.loop-row-preserved
loop-row-preserved c =
    let values = values_of c.args.argument in
    let row = c.loop-row.row in
    record {
      summed = summed_more values c.args.extremes c.args.groups.now row c.args.count c.loop-row.summaries.items
          c.index_mut.result.now c.add.new.self (c.requires.below row 0 c.loop-row-test.true) c.index_mut.ensures.value
          c.add.ensures.rows
          (subst (λ m. IsWith c.args.extremes m c.index_mut.result.now c.add.new.self) c.value.ensures c.add.ensures.with)
          c.loop-row.invariant.summed;
      ranges = below_more (λ k. IsInRange (get_or values k Null)) row c.loop-row.invariant.ranges
          (subst IsInRange c.value.ensures c.add.ensures.range);
    }
