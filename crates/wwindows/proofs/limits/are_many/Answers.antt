use Rattle.std.proofs.Common.{ap, sym, nat_lt}
use Rattle.wwindows.specs.Limits.{most_entries}
use Rattle.wwindows.proofs.Lists.{trees_counted}
use Rattle.wwindows.proofs.limits.are_many.Goals as goal

pub returns : goal.returns
returns c = ap (nat_lt most_entries) (sym (trees_counted c.args.list.now))
