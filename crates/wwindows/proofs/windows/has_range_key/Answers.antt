use Rattle.std.proofs.Common.{sym}
use Rattle.wscope.specs.Sources.{all_titled}
use Rattle.wwindows.proofs.Lists.{other_count}
use Rattle.wwindows.proofs.windows.has_range_key.Goals as goal

pub returns-then-order-ne1 : goal.returns-then-order-ne1
returns-then-order-ne1 c = sym (other_count (all_titled c.args.columns.now) c.args.order.now c.if-order-ne1.true)
