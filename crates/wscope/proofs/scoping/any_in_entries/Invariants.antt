use Rattle.std.proofs.Common.{◌≡◌, drop, map}
use Rattle.wquery.specs.QueryTree.{view_entry}
use Rattle.wscope.specs.Scope.{some_entry}
use Rattle.wscope.proofs.scoping.any_in_entries.Given as goal

abbrev pub invariant-entries : goal.invariant-entries
invariant-entries g l = some_entry (g.T.NodeTest.sees l.test) (map view_entry l.entries)
    ≡ some_entry (g.T.NodeTest.sees l.test) (map view_entry (drop l.entry-index l.entries))
