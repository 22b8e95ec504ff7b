use Rattle.std.proofs.Common.{◌≡◌, ◌+◌, drop}
use Rattle.wscope.specs.Types.{place_named}
use Rattle.wscope.specs.Sources.{all_titled}
use Rattle.wscope.proofs.names.place_named.Given as goal

abbrev pub invariant-columns : goal.invariant-columns
invariant-columns l = (l.place ≡ l.column-index)
    × (place_named (all_titled l.columns) l.name ≡ l.place + place_named (all_titled (drop l.column-index l.columns)) l.name)
