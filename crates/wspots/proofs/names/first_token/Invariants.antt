use Rattle.std.proofs.Common.{◌≡◌, ◌-◌, length}
use Rattle.wspots.specs.Scene.{tokens_of}
use Rattle.wspots.specs.Names.{breach_at_token, first_from, first_token}
use Rattle.wspots.proofs.names.first_token.Given as goal

abbrev pub invariant-loop-number : goal.invariant-loop-number
invariant-loop-number l = first_token l.scene l.rule ≡ first_from (λ number. breach_at_token l.scene number l.rule) l.number (length
    (tokens_of l.scene) - l.number)
