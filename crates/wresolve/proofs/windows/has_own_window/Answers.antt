use Rattle.std.proofs.Common.{ap, sym, ◌∙◌}
use Rattle.wnodes.proofs.Views.{view_call_is}
use Rattle.wresolve.specs.Selecting.{has_own_window}
use Rattle.wresolve.proofs.windows.has_own_window.Goals as goal

pub returns : goal.returns
returns c = c.is_own_window.ensures ∙ sym (ap has_own_window (view_call_is c.args.call.now))
