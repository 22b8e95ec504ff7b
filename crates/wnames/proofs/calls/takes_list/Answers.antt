use Rattle.std.proofs.Common.{◌∙◌, sym, ap}
use Rattle.wscope.specs.Functions.{takes}
use Rattle.wnames.proofs.Given.{count_is}
use Rattle.wnames.proofs.calls.takes_list.Goals as goal

pub returns : goal.returns
returns c = c.takes.ensures ∙ ap (takes c.args.function) (sym (count_is c.args.list.now))
