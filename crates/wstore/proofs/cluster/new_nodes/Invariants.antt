use Rattle.std.proofs.Common.{◌≡◌, replicate}
use Rattle.std.specs.FinMap as map
use Rattle.wstore.specs.Nodes.{fresh_node}
use Rattle.wstore.proofs.cluster.new_nodes.Given as goal

abbrev pub invariant-loop : goal.invariant-loop
invariant-loop l = l.nodes.items ≡ replicate l.counter (fresh_node l.schema map.empty)
