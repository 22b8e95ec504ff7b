use Rattle.std.proofs.Common.{◌≡◌, length}
use Rattle.wspots.specs.Keys.{is_wrong_key, wrong_behind}
use Rattle.wspots.proofs.scene.is_wrong_key.Given as goal

abbrev pub invariant-parts : goal.invariant-parts
invariant-parts l = wrong_behind l.has_sign l.items l.rest ≡ is_wrong_key l.key l.items

abbrev pub decreases-parts : goal.decreases-parts
decreases-parts l = length l.rest
