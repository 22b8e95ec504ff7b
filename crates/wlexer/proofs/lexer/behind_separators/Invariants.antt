use Rattle.std.proofs.Common.{ℕ, List, length}
use denote.Text.{Utf8}
use denote.Shadow.{shadow}
use Rattle.wlexer.specs.Lexing.{Separates}
use Rattle.wlexer.proofs.lexer.behind_separators.Given as goal

abbrev pub invariant-separators : goal.invariant-separators
invariant-separators l = record {
  utf8 : shadow (Utf8 l.left);
  so_far : (rest : List ℕ) → Separates l.left rest → Separates l.text rest;
}

abbrev pub decreases-separators : goal.decreases-separators
decreases-separators l = length l.left
