use Rattle.std.proofs.Common.{◌^◌}
use Rattle.wlexer.proofs.Steps.{number_large}
use Rattle.wlexer.proofs.reading.number_of.Goals as goal

pub returns-then-number-ge-NUMBER_LIMIT : goal.returns-then-number-ge-NUMBER_LIMIT
returns-then-number-ge-NUMBER_LIMIT c =
    number_large (2 ^ 95) c.digits.number c.args.digits.now c.digits.digit-index c.saturating_sub.result _
    c.digits-test.true c.saturating_sub.ensures c.if-number-ge-NUMBER_LIMIT.true c.digits.invariant.so_far
