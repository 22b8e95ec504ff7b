use Rattle.std.proofs.Common.{sym, ap, ◌∙◌}
use Rattle.std.specs.Option.{option_copied}
use Rattle.wscope.specs.Windows.{named_windows}
use Rattle.wscope.proofs.Placed.{none_seen}
use Rattle.wscope.proofs.expanding.window_found.Goals as goal

pub returns-in-None : goal.returns-in-None
returns-in-None c = λ name e. sym (none_seen c.args.before name (named_windows c.args.entries.now) (sym e ∙ ap option_copied c.in-None.is))
