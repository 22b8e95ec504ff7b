use Rattle.std.proofs.Common.{length, arith}
use Rattle.window_bench.proofs.WindowFacts.{all_rows}
use Rattle.window_bench.proofs.measure.folds.Goals as goal

pub push_window_folds-requires-clause-rows : goal.push_window_folds-requires-clause-rows
push_window_folds-requires-clause-rows g c = λ some.
    let all = c.args.partitions.now in
    let rows = all_rows all.spans (length all.keys) c.count.result c.count.ensures.tiles c.count.ensures.count some in
    omega (arith, rows, c.requires.rows)
