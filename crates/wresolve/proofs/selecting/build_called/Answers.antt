use Rattle.std.proofs.Common.{List, ap, length, ◌∙◌}
use Rattle.wscope.specs.Windows.{NamedWindow}
use Rattle.wdistinct.specs.Calls.{call_trees}
use Rattle.wbinding.specs.Resolving.{layout_of}
use Rattle.wresolve.specs.Selecting.{calls_made, windows_made}
use Rattle.wresolve.proofs.selecting.build_called.Goals as goal

pub returns-clause-windows : goal.returns-clause-windows
returns-clause-windows c = c.in_ok-windows.ensures
    ∙ ap (λ (ws : List NamedWindow). windows_made (layout_of c.args.layout.now) ws (call_trees c.args.windowed.now)) c.requires

pub returns-clause-calls : goal.returns-clause-calls
returns-clause-calls c = c.in_ok-calls.ensures ∙ ap (λ (ws : List NamedWindow). calls_made (layout_of c.args.layout.now) ws
    (length ws) (call_trees c.args.windowed.now)) c.requires
