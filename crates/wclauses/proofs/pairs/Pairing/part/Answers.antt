use Rattle.std.proofs.Common.{◌-◌, vec_len, arith}
use Rattle.wclauses.proofs.Settling.{parted_last}
use Rattle.wclauses.proofs.pairs.Pairing.part.Goals as goal

pub returns-in-Some-clause-opened : goal.returns-in-Some-clause-opened
returns-in-Some-clause-opened c =
    parted_last c.args.self.now.opened.items (vec_len c.args.self.now.opened - 1) c.saturating_add-inner.result c.in-Some.inner.now
    (search (arith, c.in-Some.ensures.item)) c.in-Some.ensures.value c.saturating_add-inner.ensures
