use Rattle.std.proofs.Common.{◌≡◌, ◌++◌, drop, map}
use Rattle.wquery.specs.Tree.{keys, view_keys}
use Rattle.wplan.specs.Plans.{key_plan}
use Rattle.wbinding.specs.Resolving.{layout_of}
use Rattle.wresolve.specs.Selecting.{keys_made}
use Rattle.wresolve.proofs.windows.build_keys.Given as goal

abbrev pub invariant-keys : goal.invariant-keys
invariant-keys l = map key_plan l.made.items ++ keys_made (layout_of l.layout) (keys (view_keys (drop l.key-index l.order)))
    ≡ keys_made (layout_of l.layout) (keys (view_keys l.order))
