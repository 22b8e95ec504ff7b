use Rattle.std.proofs.Common.{◌≡◌, drop}
use Rattle.wquery.specs.Tree.{keys, view_keys}
use Rattle.wscope.specs.Sources.{all_titled}
use Rattle.wnames.specs.Types.{all_keys, is_value}
use Rattle.wnames.proofs.types.all_key_values.Given as goal

abbrev pub invariant-keys : goal.invariant-keys
invariant-keys l = all_keys (is_value (all_titled l.columns)) (keys (view_keys l.order))
    ≡ all_keys (is_value (all_titled l.columns)) (keys (view_keys (drop l.key-index l.order)))
