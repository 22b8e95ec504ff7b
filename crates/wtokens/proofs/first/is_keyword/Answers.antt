use Rattle.std.proofs.Common.{rules, sym, ap, ◌∙◌}
use denote.Enum.Bare.{same_true}
use Rattle.wlexer.specs.declared.token.Lexeme.{Lexeme}
use Rattle.wlexer.specs.Token.{lexeme_meaning, KeywordToken}
use Rattle.wlexer.specs.contracts.keyword.Keyword.{the_type}
use Rattle.wtokens.proofs.first.is_keyword.Goals as goal

pub returns-in-Keyword-clause-same : goal.returns-in-Keyword-clause-same
returns-in-Keyword-clause-same c is =
    ap (λ (l : Lexeme). lexeme_meaning l) c.in-Keyword.is ∙ ap KeywordToken (same_true the_type (search rules) _ _ (sym c.eq.ensures ∙ is))
