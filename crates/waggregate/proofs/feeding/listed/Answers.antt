use Rattle.std.proofs.Common.{◌∷◌, [], length, length-append, ap, ◌∙◌, arith}
use Rattle.std.proofs.Common.{take_all}
use Rattle.waggregate.specs.Feeding.{values_of}
use Rattle.waggregate.proofs.ArgumentFacts.{listed_more, values_long}
use Rattle.waggregate.proofs.feeding.listed.Goals as goal

pub loop-row-preserved : goal.loop-row-preserved
loop-row-preserved c =
    let row = c.loop-row.row in
    record {
      value = listed_more (values_of c.args.argument) row c.loop-row.values.items c.push.new.self.items c.value_or.result
          (omega (arith, c.loop-row-test.true, c.rows-rows.ensures, values_long c.args.argument))
          c.loop-row.invariant.value c.value_or.ensures c.in_ok-push.ensures.items;
      len = omega (
        arith,
        c.loop-row.invariant.len,
        ap length c.in_ok-push.ensures.items,
        length-append c.loop-row.values.items (c.value_or.result ∷ []),
      );
    }

pub returns-clause-value : goal.returns-clause-value
returns-clause-value c =
    c.loop-row.invariant.value
    ∙ take_all c.loop-row.row (values_of c.args.argument)
    (omega (arith, c.loop-row-test.false, c.rows-rows.ensures, values_long c.args.argument))

pub returns-clause-len : goal.returns-clause-len
returns-clause-len c = omega (arith, c.loop-row.invariant.len, c.loop-row-test.false, c.rows-rows.ensures)
