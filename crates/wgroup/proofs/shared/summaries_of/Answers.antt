use Rattle.std.proofs.Common.{Some}
use Rattle.std.specs.Option.{ForSome}
use Rattle.waggregate.specs.Feeding.{values_of}
use Rattle.wgroup.specs.Shared.{LooksFor}
use Rattle.wgroup.proofs.ColumnFacts.{all_pushed, count_pushed}
use Rattle.wgroup.proofs.KnownFacts.{known_more}
use Rattle.wgroup.proofs.shared.summaries_of.Goals as goal

pub loop-groups-preserved : goal.loop-groups-preserved
loop-groups-preserved c = record {
  known = known_more (values_of c.args.argument) c.args.sets.now c.loop-groups.summaries.items c.push.new.self.items
      c.loop-groups.groups-index c.groups-item.result c.in_ok-set_summaries.field-0 c.loop-groups.invariant.as_many
      c.loop-groups-test.true c.groups-item.is c.loop-groups.invariant.known c.in_ok-set_summaries.ensures.known
      c.in_ok-push.ensures.items;
  asked = all_pushed (λ known. ForSome known (LooksFor (Some c.in-Some.extremes))) c.loop-groups.summaries.items _ _ c.loop-groups.invariant.asked c.in_ok-set_summaries.ensures.asked
      c.in_ok-push.ensures.items;
  as_many = count_pushed c.loop-groups.summaries.items _ _ c.loop-groups.groups-index c.loop-groups.invariant.as_many
      c.in_ok-push.ensures.items;
}
