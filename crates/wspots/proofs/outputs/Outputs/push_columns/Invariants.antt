use Rattle.std.proofs.Common.{◌≡◌}
use Rattle.wspots.proofs.KnownItems.{AreColumns}
use Rattle.wspots.proofs.outputs.Outputs.push_columns.Given as goal

abbrev pub invariant-columns : goal.invariant-columns
invariant-columns l = AreColumns l.initial.self l.columns l.place l.self × (l.self.has_all ≡ l.initial.self.has_all)
