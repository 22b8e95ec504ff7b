use Rattle.std.proofs.Common.{ap, sym, ◌∙◌}
use Rattle.wquery.specs.Tree.{own_window, view_window}
use Rattle.wscope.specs.Seeking.{seeking}
use Rattle.wnodes.specs.Children.{found_all}
use Rattle.wnodes.proofs.Beside.{reach_all}
use Rattle.wscope.proofs.Looks.{looks_joined}
use Rattle.wscope.proofs.seeking.any_in_window.Goals as goal

pub returns : goal.returns
returns g c =
    c.any_beside.ensures ∙ ap (found_all (seeking (g.T.NodeTest.sees c.args.test.now))) c.of_window.ensures
    ∙ sym (reach_all (seeking (g.T.NodeTest.sees c.args.test.now)) (looks_joined (g.T.NodeTest.sees c.args.test.now))
    (own_window (view_window c.args.window.now)))
