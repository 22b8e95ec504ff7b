use Rattle.std.proofs.Common.{ap, ◌∙◌}
use Rattle.std.specs.Hash.DefaultHasher as hasher
use Rattle.std.specs.declared.hash.DefaultHasher.{DefaultHasher}
use Rattle.wquery.specs.Tree.{view_call}
use Rattle.wnodes.specs.Nodes.{found}
use Rattle.wnodes.specs.Children.{found_all, nodes_left}
use Rattle.wnodes.specs.Sketch.{sketching}
use Rattle.wnodes.proofs.Sketched.{node_sketched}
use Rattle.wnodes.proofs.hashing.sketch.Goals as goal

pub returns : goal.returns
returns c =
    c.finish.ensures ∙ ap hasher.finish (c.hash_beside.ensures
    ∙ ap (λ (s : DefaultHasher). found_all sketching (nodes_left c.of_call-2.result) s) c.hash_head.ensures
    ∙ node_sketched (view_call c.args.call.now) _ _ c.new-state.result c.of_call.ensures c.of_call-2.ensures
    ∙ ap (found sketching (view_call c.args.call.now)) c.new-state.ensures)
