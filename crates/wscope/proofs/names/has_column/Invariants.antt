use Rattle.std.proofs.Common.{◌≡◌, drop}
use Rattle.std.specs.List.{list_any}
use Rattle.wscope.specs.Scope.{has_name}
use Rattle.wscope.specs.Sources.{all_titled}
use Rattle.wscope.proofs.names.has_column.Given as goal

abbrev pub invariant-columns : goal.invariant-columns
invariant-columns l = list_any (has_name l.name) (all_titled l.columns) ≡ list_any (has_name l.name)
    (all_titled (drop l.column-index l.columns))
