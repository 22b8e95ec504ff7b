use Rattle.std.proofs.Common.{◌≡◌, drop}
use Rattle.wscope.specs.Types.{type_named}
use Rattle.wscope.specs.Sources.{all_titled}
use Rattle.wscope.proofs.typing.named.Given as goal

abbrev pub invariant-columns : goal.invariant-columns
invariant-columns l = type_named (all_titled l.columns) l.name ≡ type_named (all_titled (drop l.column-index l.columns)) l.name
