use Rattle.std.proofs.Common.{◌≡◌, ◌+◌, ◌-◌, ◌≤◌, [], All, length}
use Rattle.std.specs.Rc.{rc_str_bytes}
use Rattle.wsegment.proofs.texts.Texts.new.Given as goal

abbrev pub invariant-slots : goal.invariant-slots
invariant-slots l = record {
  few : length l.slots.items ≤ l.last + 1;
  empty : All (λ text. rc_str_bytes text ≡ []) l.slots.items;
}

abbrev pub decreases-slots : goal.decreases-slots
decreases-slots l = l.last + 1 - length l.slots.items
