use Rattle.std.proofs.Common.{None}
use Rattle.wnames.proofs.Listed.{columns_given}
use Rattle.wnames.proofs.calls.is_grouping_given.Goals as goal

pub returns-in-Columns : goal.returns-in-Columns
returns-in-Columns c = columns_given c.args.arguments.now None c.in-Columns.columns c.as_slice.result.now c.are_few.result
    c.in-Columns.is c.as_slice.ensures.value c.are_few.ensures
