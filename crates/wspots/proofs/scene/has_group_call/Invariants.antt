use Rattle.std.proofs.Common.{◌≡◌, drop}
use Rattle.std.specs.List.{list_any}
use Rattle.wspots.specs.Scene.{has_group_call, is_group_mark}
use Rattle.wspots.proofs.scene.has_group_call.Given as goal

abbrev pub invariant-marks : goal.invariant-marks
invariant-marks l = has_group_call l.written l.level ≡ list_any (is_group_mark l.written l.level) (drop l.mark-index l.written.marks.now)
