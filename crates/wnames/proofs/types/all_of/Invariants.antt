use Rattle.std.proofs.Common.{◌≡◌, length}
use Rattle.std.specs.List.{list_all}
use Rattle.wnodes.specs.Children.{nodes_left}
use Rattle.wscope.specs.Sources.{all_titled}
use Rattle.wnames.specs.Types.{is_of}
use Rattle.wnames.proofs.types.all_of.Given as goal

abbrev pub invariant-nodes : goal.invariant-nodes
invariant-nodes l = list_all (is_of (all_titled l.columns) l.asked) (nodes_left l.nodes)
    ≡ list_all (is_of (all_titled l.columns) l.asked) (nodes_left l.rest)

abbrev pub decreases-nodes : goal.decreases-nodes
decreases-nodes l = length (nodes_left l.rest)
