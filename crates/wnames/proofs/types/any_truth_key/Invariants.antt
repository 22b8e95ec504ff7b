use Rattle.std.proofs.Common.{◌≡◌, drop, map}
use Rattle.std.specs.List.{list_any}
use Rattle.wquery.specs.Tree.{view_key}
use Rattle.wscope.specs.Scoped.{scope_clauses, scope_columns}
use Rattle.wnames.specs.Types.{is_truth_key}
use Rattle.wnames.proofs.types.any_truth_key.Given as goal

abbrev pub invariant-keys : goal.invariant-keys
invariant-keys l = list_any (is_truth_key (scope_columns l.scope) (scope_clauses l.scope).items) (map view_key l.order)
    ≡ list_any (is_truth_key (scope_columns l.scope) (scope_clauses l.scope).items) (map view_key (drop l.key-index l.order))
