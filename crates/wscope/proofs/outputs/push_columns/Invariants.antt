use Rattle.std.proofs.Common.{◌≡◌, ◌++◌, drop, map}
use Rattle.wscope.specs.Sources.{all_titled, derived_column}
use Rattle.wscope.proofs.outputs.push_columns.Given as goal

abbrev pub invariant-columns : goal.invariant-columns
invariant-columns l = all_titled l.made.items ++ map derived_column (all_titled (drop l.column-index l.columns))
    ≡ all_titled l.initial.made.items ++ map derived_column (all_titled l.columns)
