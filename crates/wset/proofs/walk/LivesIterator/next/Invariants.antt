use Rattle.std.proofs.Common.{◌≡◌, length}
use Rattle.wset.specs.Walking.{contents}
use Rattle.wset.proofs.walk.LivesIterator.next.Given as goal

abbrev pub invariant-walk : goal.invariant-walk
invariant-walk l = contents l.self-inside.walk ≡ contents l.initial.self-inside.walk

abbrev pub decreases-walk : goal.decreases-walk
decreases-walk l = length l.self-inside.walk
