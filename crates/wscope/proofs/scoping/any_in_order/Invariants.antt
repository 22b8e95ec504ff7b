use Rattle.std.proofs.Common.{◌≡◌, drop, map}
use Rattle.wquery.specs.Tree.{view_key}
use Rattle.wscope.specs.Scope.{some_sort}
use Rattle.wscope.specs.Scoped.{scope_clauses, scope_columns}
use Rattle.wscope.proofs.scoping.any_in_order.Given as goal

abbrev pub invariant-keys : goal.invariant-keys
invariant-keys g l = some_sort (scope_columns l.scope) (scope_clauses l.scope).items (g.T.NodeTest.sees l.test)
    (map view_key l.order) ≡ some_sort (scope_columns l.scope) (scope_clauses l.scope).items (g.T.NodeTest.sees l.test)
    (map view_key (drop l.key-index l.order))
