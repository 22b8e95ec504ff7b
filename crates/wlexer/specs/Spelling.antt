-- How a token is spelled at the front of a text, as long as it can be (ISO/IEC 9075-2, <token>).
use Rattle.std.specs.Prelude.{◌≡◌, ◌==◌, ℕ, ◌+◌, ◌-◌, ◌*◌, ◌<◌, ◌≤◌, ◌^◌, List, [], ◌∷◌, ◌++◌, length}
use Rattle.std.specs.Prelude.{map, fold, take, drop, Bool, false, Some, None, if◌then◌else◌}
use Rattle.std.specs.Char.{to_ascii_lowercase}
use Rattle.std.specs.List.{prefix_len}
use Rattle.wlexer.specs.declared.bytes.Stretch.{Stretch}
use Rattle.wlexer.specs.declared.bytes.Stretch.TheVariants as stretches
use Rattle.wlexer.specs.declared.bytes.TokenKind.TheVariants as kinds
use Rattle.wlexer.specs.declared.keyword.Keyword.{Keyword}
use Rattle.wlexer.specs.declared.token.Symbol.{Symbol}
use Rattle.wlexer.specs.Bytes.{apostrophe, continues, double_quote, kind_of, spoils_number}
use Rattle.wlexer.specs.Keywords.{keyword_of}
use Rattle.wlexer.specs.Symbols.{symbol_of_one, symbol_of_two, IsNoPair}
use Rattle.wlexer.specs.Token.{TokenMeaning, KeywordToken, NameToken, NumberToken, TextToken, SymbolToken}

-- the longest stretch at the front of a text
abbrev pub front : Stretch → List ℕ → List ℕ
front stretch text = take (prefix_len (continues stretch) text) text

-- what follows it
abbrev pub behind : Stretch → List ℕ → List ℕ
behind stretch text = drop (prefix_len (continues stretch) text) text

-- the next byte, if there is one, fails the test
abbrev pub StopsBefore : (ℕ → Bool) → List ℕ → Type 0
StopsBefore test [] = Unit {0}
StopsBefore test (b ∷ rest) = test b ≡ false

-- each quote written twice
abbrev pub with_quotes_doubled : ℕ → List ℕ → List ℕ
with_quotes_doubled quote [] = []
with_quotes_doubled quote (b ∷ body) = if b == quote then quote ∷ quote ∷ with_quotes_doubled quote body else b
    ∷ with_quotes_doubled quote body

-- behind an opening quote: the body, its quotes doubled, a quote that closes it, and a rest that goes on with none
pub record Quoted (quote : ℕ) (text body rest : List ℕ) : Type 0 where
  pub spelled : text ≡ with_quotes_doubled quote body ++ (quote ∷ rest)
  pub closed : StopsBefore (λ b. b == quote) rest

-- the number that digits spell
abbrev pub number_of : List ℕ → ℕ
number_of digits = fold (λ number digit. number * 10 + (digit - 48)) 0 digits

-- the most bytes of a name
abbrev pub longest_name : ℕ
longest_name = 63

-- numbers are below it
abbrev pub number_limit : ℕ
number_limit = 2 ^ 95

-- `Spelled text token rest`: the token stands at the front of the text, as long as it can be, and the rest follows it
pub data Spelled : List ℕ → TokenMeaning → List ℕ → Type 0 where
  -- <key word>: the longest word, in letters of either case
  keyword_word : {b : ℕ} {text : List ℕ} {k : Keyword} →
      kind_of b ≡ kinds.Word →
      keyword_of (front stretches.Word (b ∷ text)) ≡ Some k →
      Spelled (b ∷ text) (KeywordToken k) (behind stretches.Word (b ∷ text))
  -- <regular identifier>: another word that is short enough, its letters in lower case
  name_word : {b : ℕ} {text : List ℕ} →
      kind_of b ≡ kinds.Word →
      keyword_of (front stretches.Word (b ∷ text)) ≡ None →
      length (front stretches.Word (b ∷ text)) ≤ longest_name →
      Spelled (b ∷ text) (NameToken (map to_ascii_lowercase (front stretches.Word (b ∷ text)))) (behind stretches.Word (b ∷ text))
  -- <delimited identifier>: a name in quotes, as it stands
  quoted_name : {b : ℕ} {text name rest : List ℕ} →
      kind_of b ≡ kinds.QuotedName →
      Quoted double_quote text name rest →
      1 ≤ length name →
      length name ≤ longest_name →
      Spelled (b ∷ text) (NameToken name) rest
  -- <character string literal>
  quoted_text : {b : ℕ} {text body rest : List ℕ} →
      kind_of b ≡ kinds.Text →
      Quoted apostrophe text body rest →
      Spelled (b ∷ text) (TextToken body) rest
  -- <unsigned integer>: all digits that follow, if nothing behind them spoils the number
  digits : {b : ℕ} {text : List ℕ} →
      kind_of b ≡ kinds.Number →
      number_of (front stretches.Digits (b ∷ text)) < number_limit →
      StopsBefore spoils_number (behind stretches.Digits (b ∷ text)) →
      Spelled (b ∷ text) (NumberToken (number_of (front stretches.Digits (b ∷ text)))) (behind stretches.Digits (b ∷ text))
  -- a symbol of two bytes
  symbol_pair : {a b : ℕ} {rest : List ℕ} {s : Symbol} →
      kind_of a ≡ kinds.Symbol →
      symbol_of_two a b ≡ Some s →
      Spelled (a ∷ b ∷ rest) (SymbolToken s) rest
  -- a symbol of one byte, where none of two bytes stands
  single_symbol : {a : ℕ} {rest : List ℕ} {s : Symbol} →
      kind_of a ≡ kinds.Symbol →
      symbol_of_one a ≡ Some s →
      IsNoPair a rest →
      Spelled (a ∷ rest) (SymbolToken s) rest

-- no token begins here
abbrev pub IsStuck : List ℕ → Type 0
IsStuck text = (token : TokenMeaning) (after : List ℕ) → Spelled text token after → ⊥
