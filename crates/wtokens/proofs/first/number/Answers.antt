use Rattle.std.proofs.Common.{ap}
use Rattle.wlexer.specs.declared.token.Lexeme.{Lexeme}
use Rattle.wlexer.specs.Token.{lexeme_meaning}
use Rattle.wtokens.specs.Words.{number_of}
use Rattle.wtokens.proofs.Ones.{one_here}
use Rattle.wtokens.proofs.first.number.Goals as goal

pub returns-in-Number : goal.returns-in-Number
returns-in-Number c = one_here c.in_ok-lexeme.ensures (ap (λ (l : Lexeme). number_of (lexeme_meaning l)) c.in-Number.is)
