use Rattle.std.proofs.Common.{◌≡◌, ◌++◌, drop, map}
use Rattle.wquery.specs.Tree.{view_call}
use Rattle.wdistinct.specs.declared.call_key.CallKey.{CallKey}
use Rattle.wdistinct.specs.Calls.{call_trees}
use Rattle.wdistinct.proofs.call_set.CallSet.listed.Given as goal

abbrev pub invariant-keys : goal.invariant-keys
invariant-keys l = call_trees l.calls.items ++ map (λ (k : CallKey). view_call k.call.now) (drop l.key-index l.key-items)
    ≡ map (λ (k : CallKey). view_call k.call.now) l.key-items
