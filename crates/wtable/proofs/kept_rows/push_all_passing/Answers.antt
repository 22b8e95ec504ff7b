use Rattle.std.proofs.Common.{◌<◌, length, arith}
use Rattle.weval.specs.NumberTests.{passes_all}
use Rattle.wrows.specs.Laid.{row_seen, rows_seen}
use Rattle.wtable.proofs.HeldFacts.{held_more, held_whole}
use Rattle.wtable.proofs.kept_rows.push_all_passing.Goals as goal

pub loop-row-preserved : goal.loop-row-preserved
loop-row-preserved c =
    let stored = c.args.segment.now.rows in
    let within : c.loop-row.row < length stored = omega (arith, c.loop-row-test.true, c.rows-row-end.ensures.count) in
    held_more (passes_all c.args.tests.now.tests.items) stored (rows_seen c.args.held.now.items) (rows_seen c.loop-row.held.items) _
    c.loop-row.row (row_seen c.row.result) within c.row.ensures.values c.loop-row.invariant c.in_ok-push_passing.ensures

pub returns : goal.returns
returns c =
    held_whole (passes_all c.args.tests.now.tests.items) c.args.segment.now.rows (rows_seen c.args.held.now.items)
    (rows_seen c.loop-row.held.items) c.loop-row.row (omega (arith, c.loop-row-test.false, c.rows-row-end.ensures.count))
    c.loop-row.invariant
