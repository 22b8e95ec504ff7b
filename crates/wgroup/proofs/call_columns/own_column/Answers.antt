use Rattle.std.proofs.Common.{inl}
use Rattle.wgroup.proofs.call_columns.own_column.Goals as goal

pub fed_column-requires-clause-values : goal.fed_column-requires-clause-values
fed_column-requires-clause-values c = inl c.in-Some.ensures.value
