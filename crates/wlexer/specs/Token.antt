-- What a token is (ISO/IEC 9075-2, <token>).
use Rattle.std.specs.Prelude.{ℕ, List}
use Rattle.std.specs.Rc.{rc_str_bytes}
use Rattle.wlexer.specs.declared.keyword.Keyword.{Keyword}
use Rattle.wlexer.specs.declared.token.Symbol.{Symbol}
use Rattle.wlexer.specs.declared.token.Lexeme.{Lexeme}
use Rattle.wlexer.specs.declared.token.Lexeme.TheVariants as lexemes
use Rattle.wlexer.specs.declared.token.Token.{Token}

-- what a token says, wherever its name or its text lies in memory
pub data TokenMeaning : Type 0 where
  KeywordToken : Keyword → TokenMeaning
  NameToken : List ℕ → TokenMeaning
  NumberToken : ℕ → TokenMeaning
  TextToken : List ℕ → TokenMeaning
  SymbolToken : Symbol → TokenMeaning

abbrev pub lexeme_meaning : Lexeme → TokenMeaning
lexeme_meaning (lexemes.Keyword k) = KeywordToken k
lexeme_meaning (lexemes.Name name) = NameToken (rc_str_bytes name)
lexeme_meaning (lexemes.Number n) = NumberToken n
lexeme_meaning (lexemes.Text text) = TextToken (rc_str_bytes text)
lexeme_meaning (lexemes.Symbol s) = SymbolToken s

-- what a token says
abbrev pub meaning_of : Token → TokenMeaning
meaning_of t = lexeme_meaning t.lexeme

-- what a token says, and where it stands
pub record PlacedToken : Type 0 where
  pub from : ℕ
  pub to : ℕ
  pub meaning : TokenMeaning

abbrev pub placed : Token → PlacedToken
placed t = record { from = t.from; to = t.to; meaning = meaning_of t }
