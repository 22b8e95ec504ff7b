use Rattle.wspots.proofs.Entered.{AreNamed}
use Rattle.wspots.proofs.scene.grouped_of.Given as goal

abbrev pub invariant-marks : goal.invariant-marks
invariant-marks l = AreNamed l.written l.level l.mark-index l.names
