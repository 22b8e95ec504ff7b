use Rattle.std.proofs.Common.{arith}
use Rattle.wwindows.proofs.OwnWindows.{call_own}
use Rattle.wwindows.proofs.counting.own_of_call.Goals as goal

pub returns : goal.returns
returns c = omega (arith, c.own_of.ensures, call_own c.args.call.now)
