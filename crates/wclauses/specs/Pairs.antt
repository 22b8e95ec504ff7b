-- The parentheses of a query in pairs, and its calls by them.
use Rattle.std.specs.Prelude.{ℕ, zero, suc, ◌+◌, Bool, false, not, ◌&&◌, List, [], ◌∷◌, map, Option, Some, None}
use Rattle.std.specs.Prelude.{slice_get, if◌then◌else◌}
use Rattle.wlexer.specs.declared.keyword.Keyword.TheVariants.{Filter, Over}
use Rattle.wlexer.specs.declared.token.Symbol.TheVariants as symbols
use Rattle.wlexer.specs.declared.token.Token.{Token}
use Rattle.wlexer.specs.Token.{TokenMeaning, SymbolToken, meaning_of}
use Rattle.wscope.specs.declared.function.Function.{Function}
use Rattle.wscope.specs.Functions.{is_aggregate}
use Rattle.wclauses.specs.declared.pairs.Arguments.{Arguments}
use Rattle.wclauses.specs.declared.pairs.Arguments.TheVariants.{Star, Listed}
use Rattle.wclauses.specs.declared.pairs.Pair.{Pair}
use Rattle.wclauses.specs.declared.pairs.Sign.{Sign}
use Rattle.wclauses.specs.declared.pairs.Sign.TheVariants.{Opens, Closes, Parts, Other}
use Rattle.wclauses.specs.Tokens.{next, function_at, is_keyword, is_symbol}

-- what a token is to the pairs
abbrev pub sign_of : TokenMeaning → Sign
sign_of (SymbolToken symbols.OpenParenthesis) = Opens
sign_of (SymbolToken symbols.CloseParenthesis) = Closes
sign_of (SymbolToken symbols.Comma) = Parts
sign_of _ = Other

abbrev pub signs : List Token → List Sign
signs tokens = map (λ token. sign_of (meaning_of token)) tokens

-- `closing rest within commas number`: how a pair is closed by what is left behind it, from the token of this number on. So many
-- pairs are open within it, which close before it does, and so many commas were passed in it, those in the pairs within aside
abbrev pub closing : List Sign → ℕ → ℕ → ℕ → Option Pair
closing [] within commas number = None
closing (Opens ∷ rest) within commas number = closing rest (suc within) commas (number + 1)
closing (Closes ∷ rest) zero commas number = Some (record { close = number; commas = commas })
closing (Closes ∷ rest) (suc within) commas number = closing rest within commas (number + 1)
closing (Parts ∷ rest) zero commas number = closing rest zero (next commas) (number + 1)
closing (Parts ∷ rest) (suc within) commas number = closing rest (suc within) commas (number + 1)
closing (Other ∷ rest) within commas number = closing rest within commas (number + 1)

-- a token by itself, where it opens no pair, or one that is not closed
abbrev pub alone : ℕ → Pair
alone number = record { close = number; commas = 0 }

abbrev pub or_alone : ℕ → Option Pair → Pair
or_alone number None = alone number
or_alone number (Some pair) = pair

-- the pair that the token of this number opens
abbrev pub pair_at : Sign → ℕ → List Sign → Pair
pair_at Opens number rest = or_alone number (closing rest zero 0 (number + 1))
pair_at _ number rest = alone number

-- that of each token, from the one of this number on
abbrev pub pairs_from : ℕ → List Sign → List Pair
pairs_from number [] = []
pairs_from number (sign ∷ rest) = pair_at sign number rest ∷ pairs_from (number + 1) rest

-- the pairs of a query, one for each token
abbrev pub pairs_of : List Token → List Pair
pairs_of tokens = pairs_from 0 (signs tokens)

-- ---- what is read from them

-- the number behind a pair
abbrev pub past : ℕ → Option Pair → ℕ
past opener None = opener
past opener (Some pair) = next pair.close

-- the number behind the pair that a token opens
abbrev pub behind : List Pair → ℕ → ℕ
behind pairs opener = past opener (slice_get pairs opener)

-- the number behind the arguments of the function at a token
abbrev pub behind_arguments : List Pair → ℕ → ℕ
behind_arguments pairs name = behind pairs (next name)

-- how many commas stand in a pair
abbrev pub commas_in : Option Pair → ℕ
commas_in None = 0
commas_in (Some pair) = pair.commas

-- the arguments of the function at a token: `*`, none, or one more than commas
abbrev pub arguments : List Pair → List Token → ℕ → Arguments
arguments pairs tokens name =
    if is_symbol tokens (next (next name)) symbols.Asterisk then Star
    else (if is_symbol tokens (next (next name)) symbols.CloseParenthesis then Listed 0
    else Listed (next (commas_in (slice_get pairs (next name)))))

-- FILTER stands behind its arguments
abbrev pub has_filter : List Pair → List Token → ℕ → Bool
has_filter pairs tokens name = is_keyword tokens (behind_arguments pairs name) Filter

-- OVER stands behind its arguments, or behind its FILTER
abbrev pub has_over : List Pair → List Token → ℕ → Bool
has_over pairs tokens name =
    if has_filter pairs tokens name then is_keyword tokens (behind pairs (next (behind_arguments pairs name))) Over
    else is_keyword tokens (behind_arguments pairs name) Over

-- an aggregate without OVER
abbrev pub is_group_function : Option Function → Bool → Bool
is_group_function None over = false
is_group_function (Some function) over = is_aggregate function && not over

abbrev pub is_group_call : List Pair → List Token → ℕ → Bool
is_group_call pairs tokens name = is_group_function (function_at tokens name) (has_over pairs tokens name)
