-- What a token is, by its first byte.
use Rattle.std.proofs.Common.{◌≡◌, ℕ, ◌<◌, ◌≤◌, ◌^◌, List, ◌∷◌, length, map, Some, None, refl, ◌⊎◌, inl, inr}
use Rattle.std.specs.Char.{to_ascii_lowercase}
use Rattle.wlexer.specs.declared.bytes.Stretch.TheVariants as stretches
use Rattle.wlexer.specs.declared.bytes.TokenKind.TheVariants as kinds
use Rattle.wlexer.specs.declared.keyword.Keyword.{Keyword}
use Rattle.wlexer.specs.declared.token.Symbol.{Symbol}
use Rattle.wlexer.specs.Bytes.{apostrophe, double_quote, kind_of, spoils_number}
use Rattle.wlexer.specs.Keywords.{keyword_of}
use Rattle.wlexer.specs.Spelling.{front, behind, StopsBefore, Quoted, number_of, Spelled, keyword_word, name_word}
use Rattle.wlexer.specs.Spelling.{quoted_name, quoted_text, digits, symbol_pair, single_symbol}
use Rattle.wlexer.specs.Symbols.{symbol_of_one, symbol_of_two, IsNoPair}
use Rattle.wlexer.specs.Token.{TokenMeaning, KeywordToken, NameToken, NumberToken, TextToken, SymbolToken}

-- a keyword, or a name that is short enough
pub record IsKeyword (word : List ℕ) (token : TokenMeaning) : Type 0 where
  pub keyword : Keyword
  pub spells : keyword_of word ≡ Some keyword
  pub is : token ≡ KeywordToken keyword

pub record IsShortName (word : List ℕ) (token : TokenMeaning) : Type 0 where
  pub spells : keyword_of word ≡ None
  pub short : length word ≤ 63
  pub is : token ≡ NameToken (map to_ascii_lowercase word)

pub word_parts : {b : ℕ} {text rest : List ℕ} {token : TokenMeaning} → kind_of b ≡ kinds.Word
    → Spelled (b ∷ text) token rest → (rest ≡ behind stretches.Word (b ∷ text))
    × (IsKeyword (front stretches.Word (b ∷ text)) token ⊎ IsShortName (front stretches.Word (b ∷ text)) token)
word_parts h (keyword_word {k = k} g e) = (refl, inl (record { keyword = k; spells = e; is = refl }))
word_parts h (name_word g e l) = (refl, inr (record { spells = e; short = l; is = refl }))
word_parts h (quoted_name g q l m) = absurd (cc)
word_parts h (quoted_text g q) = absurd (cc)
word_parts h (digits g l e) = absurd (cc)
word_parts h (symbol_pair g e) = absurd (cc)
word_parts h (single_symbol g e l) = absurd (cc)

-- a name of 1 to 63 bytes
pub record IsQuotedName (text rest : List ℕ) (token : TokenMeaning) : Type 0 where
  pub name : List ℕ
  pub quoted : Quoted double_quote text name rest
  pub some : 1 ≤ length name
  pub short : length name ≤ 63
  pub is : token ≡ NameToken name

pub quoted_name_parts : {b : ℕ} {text rest : List ℕ} {token : TokenMeaning} → kind_of b ≡ kinds.QuotedName
    → Spelled (b ∷ text) token rest → IsQuotedName text rest token
quoted_name_parts h (keyword_word g e) = absurd (cc)
quoted_name_parts h (name_word g e l) = absurd (cc)
quoted_name_parts h (quoted_name {name = n} g q l m) = record { name = n; quoted = q; some = l; short = m; is = refl }
quoted_name_parts h (quoted_text g q) = absurd (cc)
quoted_name_parts h (digits g l e) = absurd (cc)
quoted_name_parts h (symbol_pair g e) = absurd (cc)
quoted_name_parts h (single_symbol g e l) = absurd (cc)

pub record IsQuotedText (text rest : List ℕ) (token : TokenMeaning) : Type 0 where
  pub body : List ℕ
  pub quoted : Quoted apostrophe text body rest
  pub is : token ≡ TextToken body

pub quoted_text_parts : {b : ℕ} {text rest : List ℕ} {token : TokenMeaning} → kind_of b ≡ kinds.Text
    → Spelled (b ∷ text) token rest → IsQuotedText text rest token
quoted_text_parts h (keyword_word g e) = absurd (cc)
quoted_text_parts h (name_word g e l) = absurd (cc)
quoted_text_parts h (quoted_name g q l m) = absurd (cc)
quoted_text_parts h (quoted_text {body = n} g q) = record { body = n; quoted = q; is = refl }
quoted_text_parts h (digits g l e) = absurd (cc)
quoted_text_parts h (symbol_pair g e) = absurd (cc)
quoted_text_parts h (single_symbol g e l) = absurd (cc)

-- digits in range, behind which nothing spoils the number
pub record IsNumber (text rest : List ℕ) (token : TokenMeaning) : Type 0 where
  pub small : number_of (front stretches.Digits text) < 2 ^ 95
  pub stops : StopsBefore spoils_number (behind stretches.Digits text)
  pub is : token ≡ NumberToken (number_of (front stretches.Digits text))
  pub ends : rest ≡ behind stretches.Digits text

pub digits_parts : {b : ℕ} {text rest : List ℕ} {token : TokenMeaning} → kind_of b ≡ kinds.Number
    → Spelled (b ∷ text) token rest → IsNumber (b ∷ text) rest token
digits_parts h (keyword_word g e) = absurd (cc)
digits_parts h (name_word g e l) = absurd (cc)
digits_parts h (quoted_name g q l m) = absurd (cc)
digits_parts h (quoted_text g q) = absurd (cc)
digits_parts h (digits g l e) = record { small = l; stops = e; is = refl; ends = refl }
digits_parts h (symbol_pair g e) = absurd (cc)
digits_parts h (single_symbol g e l) = absurd (cc)

pub record IsPair (a : ℕ) (text rest : List ℕ) (token : TokenMeaning) : Type 0 where
  pub second : ℕ
  pub symbol : Symbol
  pub spells : symbol_of_two a second ≡ Some symbol
  pub is : token ≡ SymbolToken symbol
  pub ends : text ≡ second ∷ rest

pub record IsSingle (a : ℕ) (text rest : List ℕ) (token : TokenMeaning) : Type 0 where
  pub symbol : Symbol
  pub spells : symbol_of_one a ≡ Some symbol
  pub alone : IsNoPair a text
  pub is : token ≡ SymbolToken symbol
  pub ends : text ≡ rest

pub symbol_parts : {a : ℕ} {text rest : List ℕ} {token : TokenMeaning} → kind_of a ≡ kinds.Symbol
    → Spelled (a ∷ text) token rest → IsPair a text rest token ⊎ IsSingle a text rest token
symbol_parts h (keyword_word g e) = absurd (cc)
symbol_parts h (name_word g e l) = absurd (cc)
symbol_parts h (quoted_name g q l m) = absurd (cc)
symbol_parts h (quoted_text g q) = absurd (cc)
symbol_parts h (digits g l e) = absurd (cc)
symbol_parts h (symbol_pair {b = b} {s = s} g e) = inl (record { second = b; symbol = s; spells = e; is = refl; ends = refl })
symbol_parts h (single_symbol {s = s} g e l) = inr (record { symbol = s; spells = e; alone = l; is = refl; ends = refl })
