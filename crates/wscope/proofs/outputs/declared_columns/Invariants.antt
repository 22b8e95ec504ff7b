use Rattle.std.proofs.Common.{◌≡◌, ◌++◌, drop}
use Rattle.wscope.specs.Sources.{all_titled, declared_columns}
use Rattle.wscope.proofs.outputs.declared_columns.Given as goal

abbrev pub invariant-columns : goal.invariant-columns
invariant-columns l = all_titled l.made.items ++ declared_columns (drop l.column-index l.columns) ≡ declared_columns l.columns
