use Rattle.wnodes.proofs.Beside.{call_children}
use Rattle.wnodes.proofs.children.Children.of_call.Goals as goal

pub returns : goal.returns
returns c = search (c.called.ensures, c.given.ensures, c.filtered.ensures, call_children c.args.call.now)
