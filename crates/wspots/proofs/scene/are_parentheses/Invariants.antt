use Rattle.std.proofs.Common.{◌≡◌, drop}
use Rattle.std.specs.List.{list_all}
use Rattle.wspots.specs.Keys.{is_parenthesis}
use Rattle.wspots.proofs.scene.are_parentheses.Given as goal

abbrev pub invariant-tokens : goal.invariant-tokens
invariant-tokens l = list_all is_parenthesis (drop l.token-index l.tokens) ≡ list_all is_parenthesis l.tokens
