-- The tokens of a query by their numbers, from 0.
use Rattle.std.specs.Prelude.{ℕ, ◌+◌, ◌-◌, ◌^◌, min, Bool, false, ◌&&◌, ◌||◌, List, Option, Some, None, slice_get}
use denote.Enum.Bare.{sameb}
use Rattle.wlexer.specs.contracts.keyword.Keyword.{the_type as keywords}
use Rattle.wlexer.specs.contracts.token.Symbol.{the_type as symbols}
use Rattle.wlexer.specs.declared.keyword.Keyword.{Keyword}
use Rattle.wlexer.specs.declared.keyword.Keyword.TheVariants.{Grouping, Select}
use Rattle.wlexer.specs.declared.token.Symbol.{Symbol}
use Rattle.wlexer.specs.declared.token.Symbol.TheVariants.{OpenParenthesis, CloseParenthesis, Comma, Asterisk}
use Rattle.wlexer.specs.declared.token.Token.{Token}
use Rattle.wlexer.specs.Token.{TokenMeaning, KeywordToken, NameToken, SymbolToken, meaning_of}
use Rattle.wscope.specs.declared.function.Function.{Function}
use Rattle.wscope.specs.Functions.{function_of}

-- the number behind one. Behind the greatest there is none, and no token has that one
abbrev pub next : ℕ → ℕ
next number = min (number + 1) (2 ^ 64 - 1)

-- the name that a token says
abbrev pub name_in : TokenMeaning → Option (List ℕ)
name_in (NameToken name) = Some name
name_in _ = None

-- whether a token says this symbol, or this keyword
abbrev pub says_symbol : Symbol → TokenMeaning → Bool
says_symbol symbol (SymbolToken other) = sameb symbols other symbol
says_symbol symbol _ = false

abbrev pub says_keyword : Keyword → TokenMeaning → Bool
says_keyword keyword (KeywordToken other) = sameb keywords other keyword
says_keyword keyword _ = false

abbrev pub says_parenthesis : TokenMeaning → Bool
says_parenthesis meaning = says_symbol OpenParenthesis meaning || says_symbol CloseParenthesis meaning

-- whether there is a token that passes a test
abbrev pub passes : (TokenMeaning → Bool) → Option Token → Bool
passes test None = false
passes test (Some token) = test (meaning_of token)

-- the name that the token of a number says
abbrev pub name_of : Option Token → Option (List ℕ)
name_of None = None
name_of (Some token) = name_in (meaning_of token)

abbrev pub name_at : List Token → ℕ → Option (List ℕ)
name_at tokens number = name_of (slice_get tokens number)

-- the function of that name
abbrev pub function_named : Option (List ℕ) → Option Function
function_named None = None
function_named (Some name) = function_of name

abbrev pub function_at : List Token → ℕ → Option Function
function_at tokens number = function_named (name_at tokens number)

abbrev pub is_symbol : List Token → ℕ → Symbol → Bool
is_symbol tokens number symbol = passes (says_symbol symbol) (slice_get tokens number)

abbrev pub is_keyword : List Token → ℕ → Keyword → Bool
is_keyword tokens number keyword = passes (says_keyword keyword) (slice_get tokens number)

-- a parenthesis opens behind it
abbrev pub is_called : List Token → ℕ → Bool
is_called tokens number = is_symbol tokens (next number) OpenParenthesis

-- GROUPING with a parenthesis that opens behind it
abbrev pub is_grouping : List Token → ℕ → Bool
is_grouping tokens number = is_keyword tokens number Grouping && is_called tokens number

-- `*` right behind SELECT or a comma
abbrev pub is_star : List Token → ℕ → Bool
is_star tokens number = is_symbol tokens number Asterisk
    && (is_keyword tokens (number - 1) Select || is_symbol tokens (number - 1) Comma)
