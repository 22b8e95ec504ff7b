use Rattle.std.proofs.Common.{sym}
use Rattle.wscope.specs.Sources.{all_titled}
use Rattle.wnames.proofs.Typed.{default_short}
use Rattle.wnames.proofs.types.has_fit_default.Goals as goal

pub returns-then-list-lt3 : goal.returns-then-list-lt3
returns-then-list-lt3 c = sym (default_short (all_titled c.args.columns.now) c.args.list.now c.if-list-lt3.true)
