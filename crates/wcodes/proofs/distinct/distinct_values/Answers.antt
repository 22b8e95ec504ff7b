use Rattle.std.proofs.Common.{length, arith}
use Rattle.wcodes.proofs.SeenFacts.{cells_more, below_more}
use Rattle.wcodes.proofs.distinct.distinct_values.Goals as goal

pub loop-value-preserved : goal.loop-value-preserved
loop-value-preserved c =
    let values = c.loop-value.values.items in
    let more = c.number_of.new.values.items in
    let number = c.in_ok-number.number in
    let of = c.in_ok-number.ensures in
    let inv = c.loop-value.invariant in
    record {
      cells = cells_more c.args.column.now c.loop-value.value-index c.value-item.result values more
          c.loop-value.numbers.items c.push.new.self.items number c.loop-value-test.true c.value-item.is of.kept inv.below
          inv.cells of.same c.in_ok-push.ensures.items;
      below = below_more c.loop-value.numbers.items c.push.new.self.items number (length values) (length more) inv.below
          of.longer of.within c.in_ok-push.ensures.items;
      few = omega (arith, inv.few, of.few);
      most = omega (arith, c.if-len-gt-MOST_DISTINCT.false);
      slots = omega (arith, inv.slots, of.slots);
    }
