use Rattle.std.proofs.Common.{length}
use Rattle.wframe.proofs.CellFacts.{length-rows_of, row_at}
use Rattle.wframe.proofs.key_rows.KeyRows.new.Goals as goal

pub returns-clause-count : goal.returns-clause-count
returns-clause-count c = length-rows_of (length c.args.keys.now) c.args.count c.args.cells.now

pub returns-clause-each : goal.returns-clause-each
returns-clause-each c = λ row. row_at (length c.args.keys.now) c.args.count c.args.cells.now row
