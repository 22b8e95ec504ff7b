use Rattle.std.proofs.Common.{◌≡◌, drop, map}
use Rattle.std.specs.List.{list_any}
use Rattle.wquery.specs.Tree.{view_key, KeyTree}
use Rattle.wscope.specs.Scoped.{scope_clauses, scope_columns}
use Rattle.wscope.specs.Sources.{written_out}
use Rattle.wnames.specs.Names.{is_ambiguous_key}
use Rattle.wnames.proofs.names.any_ambiguous_key.Given as goal

abbrev pub invariant-keys : goal.invariant-keys
invariant-keys l = list_any (λ (k : KeyTree). is_ambiguous_key (scope_columns l.scope) (written_out (scope_columns l.scope)
    (scope_clauses l.scope).items) k.expression) (map view_key l.order)
    ≡ list_any (λ (k : KeyTree). is_ambiguous_key (scope_columns l.scope) (written_out (scope_columns l.scope)
    (scope_clauses l.scope).items) k.expression) (map view_key (drop l.key-index l.order))
