use Rattle.wspots.proofs.Entered.{AreEntered}
use Rattle.wspots.proofs.scene.entries_of.Given as goal

abbrev pub invariant-marks : goal.invariant-marks
invariant-marks l = AreEntered l.tokens l.level l.marks l.number l.entries
