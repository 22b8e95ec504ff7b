use Rattle.std.proofs.Common.{◌≡◌, ◌-◌, length}
use Rattle.wspots.specs.Scene.{marks_of}
use Rattle.wspots.specs.Names.{breach_at, first_from, first_name}
use Rattle.wspots.proofs.names.first_name.Given as goal

abbrev pub invariant-loop-number : goal.invariant-loop-number
invariant-loop-number l = first_name l.scene l.rule ≡ first_from (λ number. breach_at l.scene number l.rule) l.number (length
    (marks_of l.scene) - l.number)
