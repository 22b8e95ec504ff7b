use Rattle.std.proofs.Common.{◌≡◌, ◌≤◌, ◌+◌, drop}
use Rattle.wscope.specs.Sources.{all_titled}
use Rattle.wnames.specs.Names.{count_named}
use Rattle.wnames.proofs.names.count_of_name.Given as goal

abbrev pub invariant-columns : goal.invariant-columns
invariant-columns l = (l.count ≤ l.column-index)
    × (count_named l.name (all_titled l.columns) ≡ l.count + count_named l.name (all_titled (drop l.column-index l.columns)))
