use Rattle.std.proofs.Common.{◌≡◌, ◌+◌, ◌-◌, ◌<◌, ◌^◌, suc, get_or, length, arith, rules}
use Rattle.wset.proofs.LiveFacts.{before_few, next_is}
use Rattle.wset.proofs.starts.next_start.Goals as goal

pub overflow_add-result : goal.overflow_add-result
overflow_add-result c =
    let starts = c.args.starts.now in
    let k = length starts - 1 in
    let some : 0 < length starts = search rules in
    let end : suc k ≡ length starts = omega (arith, some) in
    let sum = next_is c.args.blocks.now starts k c.index-blocks-last.result c.live_count.result end c.requires.in_range
    c.requires.starts c.index-blocks-last.is c.live_count.ensures in
    let fits : get_or starts k 0 + c.live_count.result < 2 ^ 64 =
    omega (arith, sum, before_few c.args.blocks.now (length starts), c.requires.few) in
    search rules

pub returns : goal.returns
returns c =
    let starts = c.args.starts.now in
    let some : 0 < length starts = search rules in
    let end : suc (length starts - 1) ≡ length starts = omega (arith, some) in
    next_is c.args.blocks.now starts (length starts - 1) c.index-blocks-last.result c.live_count.result end
    c.requires.in_range c.requires.starts c.index-blocks-last.is c.live_count.ensures
