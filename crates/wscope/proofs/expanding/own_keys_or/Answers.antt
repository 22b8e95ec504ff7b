use Rattle.std.proofs.Common.{◌∙◌, sym}
use Rattle.wscope.proofs.Placed.{own_keys}
use Rattle.wscope.proofs.expanding.own_keys_or.Goals as goal

pub returns-else-is_empty : goal.returns-else-is_empty
returns-else-is_empty c = own_keys c.args.own.now c.args.copied.now (sym c.is_empty.ensures ∙ c.if-is_empty.false)
