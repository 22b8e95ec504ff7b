use Rattle.std.proofs.Common.{◌∙◌}
use Rattle.wwindows.proofs.Lists.{no_keys}
use Rattle.wwindows.proofs.windows.is_unordered.Goals as goal

pub returns : goal.returns
returns c = c.is_empty.ensures ∙ no_keys c.args.order.now
