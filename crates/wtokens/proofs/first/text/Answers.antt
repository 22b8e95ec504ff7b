use Rattle.std.proofs.Common.{ap}
use Rattle.wlexer.specs.declared.token.Lexeme.{Lexeme}
use Rattle.wlexer.specs.Token.{lexeme_meaning}
use Rattle.wtokens.specs.Words.{text_of}
use Rattle.wtokens.proofs.Ones.{one_here}
use Rattle.wtokens.proofs.first.text.Goals as goal

pub returns-in-Text : goal.returns-in-Text
returns-in-Text c = one_here c.in_ok-lexeme.ensures (ap (λ (l : Lexeme). text_of (lexeme_meaning l)) c.in-Text.is)
