use Rattle.std.proofs.Common.{◌≡◌, drop}
use Rattle.wnodes.specs.Sameness.{are_same_keys}
use Rattle.wnodes.specs.Heads.{said_keys}
use Rattle.wnodes.proofs.marks.same_sorts.Given as goal

abbrev pub invariant-keys : goal.invariant-keys
invariant-keys l = (l.place ≡ l.x-index) × (are_same_keys (said_keys l.a) (said_keys l.b)
    ≡ are_same_keys (said_keys (drop l.x-index l.a)) (said_keys (drop l.x-index l.b)))
