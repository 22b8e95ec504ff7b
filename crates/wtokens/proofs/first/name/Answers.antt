use Rattle.std.proofs.Common.{ap}
use Rattle.wlexer.specs.declared.token.Lexeme.{Lexeme}
use Rattle.wlexer.specs.Token.{lexeme_meaning}
use Rattle.wtokens.specs.Words.{name_of}
use Rattle.wtokens.proofs.Ones.{one_here}
use Rattle.wtokens.proofs.first.name.Goals as goal

pub returns-in-Name : goal.returns-in-Name
returns-in-Name c = one_here c.in_ok-lexeme.ensures (ap (λ (l : Lexeme). name_of (lexeme_meaning l)) c.in-Name.is)
