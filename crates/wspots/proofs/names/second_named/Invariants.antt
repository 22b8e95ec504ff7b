use Rattle.std.proofs.Common.{◌≡◌, drop}
use Rattle.wscope.specs.Sources.{all_titled}
use Rattle.wspots.specs.Names.{named_from}
use Rattle.wspots.proofs.names.second_named.Given as goal

abbrev pub invariant-columns : goal.invariant-columns
invariant-columns l = named_from l.name l.first 0 (all_titled l.columns)
    ≡ named_from l.name l.first l.place (all_titled (drop l.place l.columns))
