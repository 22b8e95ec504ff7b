use Rattle.std.proofs.Common.{arith, rules}
use Rattle.wexchange.proofs.hashed.no_marks.Goals as goal

pub returns : goal.returns
returns c = λ bytes k d lt. let called = c.from_fn.ensures.items.at k d (omega arith) in search (rules, called.2.met)
