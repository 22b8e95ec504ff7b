use Rattle.std.proofs.Common.{◌≡◌, drop}
use Rattle.wspots.specs.Scene.{first_ungrouped}
use Rattle.wspots.specs.Names.{holds}
use Rattle.wspots.proofs.scene.first_ungrouped.Given as goal

abbrev pub invariant-columns : goal.invariant-columns
invariant-columns l = first_ungrouped (holds l.grouped) 0 l.columns ≡ first_ungrouped (holds l.grouped) l.place (drop l.place l.columns)
