use Rattle.wtable.specs.TableOrders.{number_among, number_in}
use Rattle.wtable.proofs.NumberFacts.{presorted_more}
use Rattle.wtable.proofs.numbered_rows.presorted_numbers.Goals as goal

pub loop-row-preserved : goal.loop-row-preserved
loop-row-preserved c =
    presorted_more (λ r. number_among c.args.kept.now.numbers (number_in c.args.kept.now.starts.items r)) c.args.rows.now
    c.loop-row.row-index _ c.loop-row.numbers.items _ _ c.loop-row-test.true c.loop-row.invariant c.number_among.ensures
    c.in_ok-push_present.ensures
