use Rattle.std.proofs.Common.{None, arith}
use Rattle.wslide.proofs.InRange.{fed_in_range}
use Rattle.waggregate.specs.Feeding.{values_of}
use Rattle.waggregate.proofs.ArgumentFacts.{values_long}
use Rattle.waggregate.proofs.SummaryFacts.{said, summed_long}
use Rattle.waggregate.proofs.summaries.summarize.Goals as goal

pub returns-clause-summed : goal.returns-clause-summed
returns-clause-summed c =
    let values = values_of c.args.argument in
    let all = c.in_ok-groups.groups.items in
    let ranges = fed_in_range values
    (λ row h. c.in_ok-groups.ensures.ranges row (omega (arith, h, c.requires.rows, values_long c.args.argument))) None in
    record {
      long = summed_long values c.args.extremes _ _ c.args.count all c.in_ok-groups.ensures.summed;
      each = said values c.args.extremes _ c.args.count all c.requires.few ranges c.in_ok-groups.ensures.summed
          c.counts_are_exact.ensures.rows c.counts_are_exact.ensures.values c.sums_are_exact.ensures
          c.stable_sorts_agree.ensures.first c.places_are_least.ensures.least c.places_are_least.ensures.greatest;
    }
