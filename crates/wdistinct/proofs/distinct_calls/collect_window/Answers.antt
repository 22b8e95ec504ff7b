use Rattle.std.proofs.Common.{ap, sym, ◌∙◌}
use Rattle.wquery.specs.Tree.{own_window, view_window}
use Rattle.wnodes.specs.Children.{found_all, nodes_left}
use Rattle.wnodes.proofs.Beside.{reach_all}
use Rattle.wdistinct.specs.Calls.{call_trees, is_call_of, nodes_in_reach, picking}
use Rattle.wdistinct.proofs.Collected.{behind, picking_joined}
use Rattle.wdistinct.proofs.distinct_calls.collect_window.Goals as goal

pub returns : goal.returns
returns c =
    behind c.collect_beside.result (call_trees c.args.calls.now.items) (call_trees c.collect_beside.new.calls.items)
    (found_all (picking (is_call_of c.args.kind)) (nodes_left c.of_window.result))
    (nodes_in_reach (is_call_of c.args.kind) (own_window (view_window c.args.window.now)))
    (ap (found_all (picking (is_call_of c.args.kind))) c.of_window.ensures
    ∙ sym (reach_all (picking (is_call_of c.args.kind)) (picking_joined (is_call_of c.args.kind))
    (own_window (view_window c.args.window.now))))
    c.collect_beside.ensures
