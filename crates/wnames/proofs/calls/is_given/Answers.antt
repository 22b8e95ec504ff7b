use Rattle.std.proofs.Common.{Some}
use Rattle.wnames.proofs.Listed.{listed_given, columns_given}
use Rattle.wnames.proofs.calls.is_given.Goals as goal

pub returns-in-Listed : goal.returns-in-Listed
returns-in-Listed c = listed_given c.args.arguments.now c.args.function c.in-Listed.list c.as_slice.result.now
    c.is_list_given.result c.in-Listed.is c.as_slice.ensures.value c.is_list_given.ensures

pub returns-in-Columns : goal.returns-in-Columns
returns-in-Columns c = columns_given c.args.arguments.now (Some c.args.function) c.in-Columns.columns
    c.as_slice-in-Columns.result.now c.are_few.result c.in-Columns.is c.as_slice-in-Columns.ensures.value c.are_few.ensures
