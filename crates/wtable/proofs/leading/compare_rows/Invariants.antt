use Rattle.std.proofs.Common.{◌≡◌, drop, map}
use Rattle.wvalues.specs.Meaning.{meaning}
use Rattle.wvalues.specs.Order.{keys_cmp}
use Rattle.wruns.specs.Runs.{row_keys}
use Rattle.wtable.proofs.leading.compare_rows.Given as goal

-- what is left decides
abbrev pub invariant-loop-key : goal.invariant-loop-key
invariant-loop-key l =
    keys_cmp (drop l.key-index l.keys) (row_keys (drop l.key-index l.keys) (map meaning l.a))
    (row_keys (drop l.key-index l.keys) (map meaning l.b))
    ≡ keys_cmp l.keys (row_keys l.keys (map meaning l.a)) (row_keys l.keys (map meaning l.b))
