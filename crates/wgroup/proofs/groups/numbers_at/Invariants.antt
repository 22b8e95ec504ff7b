use Rattle.std.proofs.Common.{◌≡◌, get_or, map, take}
use Rattle.wgroup.proofs.groups.numbers_at.Given as goal

abbrev pub invariant-loop-place : goal.invariant-loop-place
invariant-loop-place l = l.picked.items ≡ map (λ i. get_or l.numbers i 0) (take l.place-index l.places)
