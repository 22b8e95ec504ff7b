use Rattle.wcalls.proofs.CodeFacts.{rows_by_codes}
use Rattle.wcalls.proofs.window_order.coded_order.Goals as goal

pub returns-clause-order : goal.returns-clause-order
returns-clause-order c = λ value_order key_order values keys value_rows key_rows.
    let o = c.in_ok-order.order in
    rows_by_codes value_order key_order values keys c.args.firsts.now c.args.seconds.now value_rows key_rows c.requires
    o.rows o.firsts o.seconds
    c.in_ok-order.ensures.rows c.in_ok-order.ensures.firsts c.in_ok-order.ensures.seconds
