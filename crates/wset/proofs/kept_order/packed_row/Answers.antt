use Rattle.std.proofs.Common.{◌+◌, ap, ◌∙◌, arith}
use Rattle.wset.proofs.KeptOrderFacts.{packed_is}
use Rattle.wset.proofs.kept_order.packed_row.Goals as goal

pub returns : goal.returns
returns c =
    packed_is c.args.width c.args.row.now.segment c.args.row.now.row c.in_ok-number.number (omega (arith, c.if-row-width.false))
    (c.in_ok-number.ensures.1 ∙ ap (λ k. k + c.args.row.now.row) c.in_ok-first.ensures.1)
