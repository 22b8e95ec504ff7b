use Rattle.std.proofs.Common.{ap, sym, nat_le}
use Rattle.wnames.proofs.Given.{count_is}
use Rattle.wnames.proofs.calls.are_few.Goals as goal

pub returns : goal.returns
returns c = ap (λ n. nat_le n 31) (sym (count_is c.args.columns.now))
