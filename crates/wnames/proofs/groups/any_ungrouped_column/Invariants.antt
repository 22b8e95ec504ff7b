use Rattle.std.proofs.Common.{◌≡◌, drop}
use Rattle.std.specs.List.{list_any}
use Rattle.wquery.specs.GroupElements.{all_columns}
use Rattle.wscope.specs.Scoped.{scope_clauses}
use Rattle.wscope.specs.Sources.{all_titled}
use Rattle.wnames.specs.Groups.{is_ungrouped_column}
use Rattle.wnames.proofs.groups.any_ungrouped_column.Given as goal

abbrev pub invariant-columns : goal.invariant-columns
invariant-columns l = list_any (is_ungrouped_column (all_columns (scope_clauses l.scope).grouping)) (all_titled l.columns)
    ≡ list_any (is_ungrouped_column (all_columns (scope_clauses l.scope).grouping)) (all_titled (drop l.column-index l.columns))
