use Rattle.std.proofs.Common.{Ok, ap, sym}
use Rattle.wcolumns.specs.Columns.{counted}
use Rattle.wcalls.proofs.functions.counts_column.Goals as goal

pub returns-clause-column : goal.returns-clause-column
returns-clause-column g c w arranged = ap Ok (sym (c.in_ok-kept.ensures w arranged counted))
