use Rattle.std.proofs.Common.{◌≡◌, ◌++◌, drop, map}
use Rattle.wquery.specs.Tree.{view_column}
use Rattle.wscope.specs.Groups.{lent_columns}
use Rattle.wscope.proofs.grouping.push_columns.Given as goal

abbrev pub invariant-columns : goal.invariant-columns
invariant-columns l = lent_columns l.made.items ++ map view_column (drop l.column-index l.columns)
    ≡ lent_columns l.fn.made.items ++ map view_column l.columns
