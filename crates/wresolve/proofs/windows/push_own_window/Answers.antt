use Rattle.wnodes.proofs.Views.{view_call_is}
use Rattle.wresolve.proofs.windows.push_own_window.Goals as goal

pub returns : goal.returns
returns c = rw (view_call_is c.args.call.now) c.push_optional_window.ensures
