use Rattle.std.proofs.Common.{◌≡◌, drop}
use Rattle.std.specs.List.{list_any}
use Rattle.wscope.specs.Groups.{lent_columns}
use Rattle.wnames.proofs.names.any_hit.Given as goal

abbrev pub invariant-columns : goal.invariant-columns
invariant-columns g l = list_any (g.T.ColumnTest.holds l.test) (lent_columns l.columns)
    ≡ list_any (g.T.ColumnTest.holds l.test) (lent_columns (drop l.column-index l.columns))
