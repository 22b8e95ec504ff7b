use Rattle.std.proofs.Common.{get_or, arith}
use Rattle.std.proofs.lemmas.List.{length-map}
use borrow.Author.Count.{below_more}
use Rattle.std.specs.Borrow.{Bor}
use Rattle.wvalues.specs.declared.value.Value.{Value}
use Rattle.wvalues.specs.Meaning.{Null, meaning}
use Rattle.wframe.specs.Cells.{meanings}
use Rattle.wslide.specs.Aggregates.{IsInRange}
use Rattle.wslide.proofs.InRange.{all_in_range, fed_in_range}
use Rattle.wslide.proofs.ranges.see_ranges.Goals as goal

pub loop-row-preserved : goal.loop-row-preserved
loop-row-preserved c = below_more (λ k. IsInRange (get_or (meanings c.args.values.now) k Null)) c.loop-row.row
    c.loop-row.invariant c.see_range_at.ensures

pub returns-clause-values : goal.returns-clause-values
returns-clause-values c = all_in_range (meanings c.args.values.now)
    (λ row h. c.loop-row.invariant row (omega (arith, length-map c.args.values.now (λ (cell : Bor Value). meaning cell.now))))

pub returns-clause-fed : goal.returns-clause-fed
returns-clause-fed c = fed_in_range (meanings c.args.values.now)
    (λ row h. c.loop-row.invariant row (omega (arith, length-map c.args.values.now (λ (cell : Bor Value). meaning cell.now))))
