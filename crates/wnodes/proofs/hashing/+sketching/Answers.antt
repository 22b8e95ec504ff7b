use Rattle.std.proofs.Common.{◌≡◌, suc, ◌<◌, ◌+◌, ◌*◌, rules, ap, ◌∙◌, arith}
use Rattle.std.specs.declared.hash.DefaultHasher.{DefaultHasher}
use Rattle.wquery.specs.Tree.{view}
use Rattle.wnodes.specs.Nodes.{found_below}
use Rattle.wnodes.specs.Children.{found_all, nodes_left, sizing}
use Rattle.wnodes.specs.Sketch.{sketching}
use Rattle.wnodes.proofs.Beside.{size_below}
use Rattle.wnodes.proofs.Sketched.{node_sketched}
use Rattle.wnodes.proofs.hashing.+sketching.Goals as goal

pub hash_node-hash_beside-requires : goal.hash_node-hash_beside-requires
hash_node-hash_beside-requires t c =
    let m : found_below sizing (view c.args.e.now) ≡ found_all sizing (nodes_left c.below.result) =
    size_below (view c.args.e.now) (nodes_left c.below.result) c.below.ensures in
    let less : 2 * found_all sizing (nodes_left c.below.result) + 1 < 2 * suc (found_below sizing (view c.args.e.now)) = omega (arith, m) in
    (rw (← c.decreases) less, search rules)

pub hash_node-returns : goal.hash_node-returns
hash_node-returns t c =
    c.hash_beside.ensures ∙ ap (λ (s : DefaultHasher). found_all sketching (nodes_left c.below.result) s) c.hash_head.ensures
    ∙ node_sketched (view c.args.e.now) _ _ c.args.state.now c.of.ensures c.below.ensures
