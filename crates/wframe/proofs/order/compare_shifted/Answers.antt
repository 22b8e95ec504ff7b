use Rattle.std.proofs.Common.{◌≡◌, rules}
use Rattle.std.specs.Prelude.{◌+ℤ◌, ◌-ℤ◌}
use Rattle.std.specs.Ordering.{int_cmp}
use Rattle.wframe.proofs.ReachFacts.{up_is, down_is}
use Rattle.wframe.proofs.order.compare_shifted.Goals as goal

pub returns-then-up : goal.returns-then-up
returns-then-up c =
    let e : c.cmp.result ≡ int_cmp (c.get.result +ℤ c.reach-by.result) c.get-then-up.result = search rules in
    up_is c.args.x.now c.args.y.now c.get-then-up.result c.get.result c.reach-by.result c.args.n c.args.up c.cmp.result
    c.get-then-up.ensures.value c.get.ensures.value c.get-then-up.ensures.in_range c.get.ensures.in_range
    c.reach-by.ensures.near c.reach-by.ensures.far e c.if-up.true

pub returns-else-up : goal.returns-else-up
returns-else-up c =
    let e : c.cmp-else-up.result ≡ int_cmp (c.get-else-up.result -ℤ c.reach-by.result) c.get-else-up-2.result = search rules in
    down_is c.args.x.now c.args.y.now c.get-else-up-2.result c.get-else-up.result c.reach-by.result c.args.n c.args.up
    c.cmp-else-up.result c.get-else-up-2.ensures.value c.get-else-up.ensures.value c.get-else-up-2.ensures.in_range
    c.get-else-up.ensures.in_range c.reach-by.ensures.near c.reach-by.ensures.far e c.if-up.false
