use Rattle.std.proofs.Common.{◌≡◌, ℕ, ◌+◌, ◌<◌, true}
use Rattle.wvalues.specs.Order.{keys_cmp}
use Rattle.wframe.specs.KeyRows.{key_lists, sort_keys}
use Rattle.wframe.specs.Steps.{is_step}
use Rattle.wframe.proofs.conditions.are_in_order.Given as goal

abbrev pub invariant-loop-next : goal.invariant-loop-next
invariant-loop-next l = (i : ℕ) → i + 1 < l.next
    → is_step (keys_cmp (sort_keys l.partition_values)) (key_lists l.partition_values) (keys_cmp (sort_keys l.keys))
    (key_lists l.keys) i ≡ true
