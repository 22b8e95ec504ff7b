use Rattle.std.proofs.Common.{◌≡◌, ◌+◌, drop}
use Rattle.wbinding.specs.Resolving.{place_among}
use Rattle.wbinding.proofs.layout.place_in.Given as goal

abbrev pub invariant-places : goal.invariant-places
invariant-places l = (l.at ≡ l.p-index) × (place_among l.place l.places ≡ l.at + place_among l.place (drop l.p-index l.places))
