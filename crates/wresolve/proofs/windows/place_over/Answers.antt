use Rattle.std.proofs.Common.{ap, sym, ◌∙◌}
use Rattle.wscope.specs.Earlier.{windows_in}
use Rattle.wnodes.proofs.Views.{view_call_is}
use Rattle.wresolve.specs.Selecting.{place_over}
use Rattle.wresolve.proofs.windows.place_over.Goals as goal

pub returns : goal.returns
returns c = c.place_of_over.ensures ∙ sym (ap (place_over (windows_in c.args.entries.now) c.args.next) (view_call_is c.args.call.now))
