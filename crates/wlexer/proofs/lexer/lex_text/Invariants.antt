use Rattle.std.proofs.Common.{ℕ, ◌≤◌, List, length, map, ◌++◌}
use denote.Text.{Utf8}
use denote.Shadow.{shadow}
use Rattle.wlexer.specs.Lexing.{LexesFirst}
use Rattle.wlexer.specs.Token.{PlacedToken, placed}
use Rattle.wlexer.proofs.lexer.lex_text.Given as goal

abbrev pub invariant-tokens : goal.invariant-tokens
invariant-tokens l = record {
  utf8 : shadow (Utf8 l.left);
  so_far : (more : List PlacedToken) (rest : List ℕ) → LexesFirst (length l.text) l.left more rest
      → LexesFirst (length l.text) l.text (map placed l.tokens.items ++ more) rest;
  within : length l.left ≤ length l.text;
}

abbrev pub decreases-tokens : goal.decreases-tokens
decreases-tokens l = length l.left
