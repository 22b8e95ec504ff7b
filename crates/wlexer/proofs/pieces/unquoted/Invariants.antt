use Rattle.std.proofs.Common.{◌≡◌, ◌++◌, length}
use denote.Text.{Utf8}
use denote.Shadow.{shadow}
use Rattle.std.specs.String.{string_bytes}
use Rattle.wlexer.specs.Spelling.{with_quotes_doubled}
use Rattle.wlexer.proofs.pieces.unquoted.Given as goal

abbrev pub invariant-quoted : goal.invariant-quoted
invariant-quoted l = record {
  utf8 : shadow (Utf8 l.left);
  so_far : l.text ≡ with_quotes_doubled l.quote (string_bytes l.body) ++ l.left;
}

abbrev pub decreases-quoted : goal.decreases-quoted
decreases-quoted l = length l.left
