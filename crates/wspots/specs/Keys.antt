-- Keys of ORDER BY that are places of items.
use Rattle.std.specs.Prelude.{ℕ, Bool, true, false, not, ◌&&◌, ◌||◌, List, [], ◌∷◌, Option, Some, None, nat_le, unwrap_or}
use Rattle.std.specs.Prelude.{if◌then◌else◌}
use Rattle.std.specs.List.{list_all}
use Rattle.wlexer.specs.declared.keyword.Keyword.{Keyword}
use Rattle.wlexer.specs.declared.keyword.Keyword.TheVariants.{Null}
use Rattle.wlexer.specs.declared.token.Symbol.TheVariants.{Plus, Minus}
use Rattle.wlexer.specs.declared.token.Token.{Token}
use Rattle.wlexer.specs.Token.{TokenMeaning, KeywordToken, NumberToken, SymbolToken, TextToken, meaning_of}
use Rattle.wclauses.specs.Tokens.{says_parenthesis}

-- the places of so many items are 1 up to their number
abbrev pub is_place : ℕ → ℕ → Bool
is_place number items = nat_le 1 number && nat_le number items

abbrev pub null_or : Keyword → Option Bool
null_or Null = Some true
null_or _ = None

-- a literal is no place: a number that is none, or behind a sign, or another literal
abbrev pub wrong_literal : Bool → ℕ → TokenMeaning → Option Bool
wrong_literal has_sign items (NumberToken number) = Some (has_sign || not (is_place number items))
wrong_literal has_sign items (TextToken text) = Some true
wrong_literal has_sign items (KeywordToken keyword) = null_or keyword
wrong_literal has_sign items _ = None

abbrev pub says_sign : TokenMeaning → Bool
says_sign (SymbolToken Plus) = true
says_sign (SymbolToken Minus) = true
says_sign _ = false

abbrev pub is_parenthesis : Token → Bool
is_parenthesis token = says_parenthesis (meaning_of token)

-- a key is such a literal by itself, parentheses aside, behind signs or none
abbrev pub wrong_behind : Bool → ℕ → List Token → Bool
wrong_behind has_sign items [] = false
wrong_behind has_sign items (token ∷ rest) =
    if is_parenthesis token then wrong_behind has_sign items rest
    else (if says_sign (meaning_of token) then wrong_behind true items rest
    else (unwrap_or (wrong_literal has_sign items (meaning_of token)) false && list_all is_parenthesis rest))

abbrev pub is_wrong_key : List Token → ℕ → Bool
is_wrong_key key items = wrong_behind false items key
