-- Where the tokens of a query stand.
use Rattle.std.specs.Prelude.{ℕ, ◌+◌, ◌-◌, ◌==◌, Bool, true, false, ◌||◌, List, [], ◌∷◌, reverse, Option, Some, None}
use Rattle.std.specs.Prelude.{slice_get, if◌then◌else◌}
use Rattle.wlexer.specs.declared.keyword.Keyword.{Keyword}
use Rattle.wlexer.specs.declared.keyword.Keyword.TheVariants as keywords
use Rattle.wlexer.specs.declared.token.Symbol.TheVariants as symbols
use Rattle.wlexer.specs.declared.token.Token.{Token}
use Rattle.wlexer.specs.Token.{TokenMeaning, KeywordToken, NameToken, SymbolToken, meaning_of}
use Rattle.wclauses.specs.declared.clauses.Clause.{Clause}
use Rattle.wclauses.specs.declared.clauses.Clause.TheVariants.{Items, Source, Condition, Grouping, Having, Windows, Order, Limits}
use Rattle.wclauses.specs.declared.clauses.Opener.{Opener}
use Rattle.wclauses.specs.declared.clauses.Opener.TheVariants as openers
use Rattle.wclauses.specs.declared.clauses.OpenPair.{OpenPair}
use Rattle.wclauses.specs.declared.clauses.Standing.{Standing}
use Rattle.wclauses.specs.declared.pairs.Pair.{Pair}
use Rattle.wclauses.specs.Tokens.{next}
use Rattle.wclauses.specs.Pairs.{is_group_call, pairs_of}

-- what a parenthesis is behind
abbrev pub opener_by : Keyword → Opener
opener_by keywords.Filter = openers.Filter
opener_by keywords.Over = openers.Over
opener_by keywords.Grouping = openers.Grouping
opener_by keywords.From = openers.From
opener_by _ = openers.Other

abbrev pub opener_in : TokenMeaning → Opener
opener_in (NameToken name) = openers.Function
opener_in (KeywordToken keyword) = opener_by keyword
opener_in _ = openers.Other

abbrev pub opener_of : Option Token → Opener
opener_of None = openers.Other
opener_of (Some token) = opener_in (meaning_of token)

abbrev pub opener_at : List Token → ℕ → Opener
opener_at tokens number = if number == 0 then openers.Other else opener_of (slice_get tokens (number - 1))

-- the clause that a keyword begins
abbrev pub clause_of : Keyword → Option Clause
clause_of keywords.From = Some Source
clause_of keywords.Where = Some Condition
clause_of keywords.Group = Some Grouping
clause_of keywords.Having = Some Having
clause_of keywords.Window = Some Windows
clause_of keywords.Order = Some Order
clause_of keywords.Limit = Some Limits
clause_of keywords.Offset = Some Limits
clause_of _ = None

-- a SELECT begins with its items, and in no call
abbrev pub beginning : ℕ → Standing
beginning level = record { level = level; clause = Items; is_in_call = false; is_in_aggregate = false; is_in_grouping = false }

-- where the tokens in parentheses stand: behind FROM in a SELECT of their own; else in the clause around them, and in what is around
-- them, also in a call where the parentheses are its arguments, its FILTER or its window, in an aggregate without OVER where they
-- are the arguments or the FILTER of one, and in GROUPING where they are behind it
abbrev pub inside : Opener → OpenPair → Standing
inside openers.From around = beginning (next around.standing.level)
inside openers.Grouping around = record around.standing { is_in_grouping = true }
inside openers.Over around = record around.standing { is_in_call = true }
inside openers.Function around = record around.standing {
  is_in_call = true;
  is_in_aggregate = around.standing.is_in_aggregate || around.last_is_group_call;
}
inside openers.Filter around = record around.standing {
  is_in_call = true;
  is_in_aggregate = around.standing.is_in_aggregate || around.last_is_group_call;
}
inside openers.Other around = around.standing

-- a function is called here: is it an aggregate without OVER
abbrev pub calling : Opener → Bool → OpenPair → OpenPair
calling openers.Function is_group around = record around { last_is_group_call = is_group }
calling _ is_group around = around

abbrev pub holds_query : Opener → Bool
holds_query openers.From = true
holds_query _ = false

abbrev pub within : Opener → OpenPair → OpenPair
within opener around = record {
  standing = inside opener around;
  is_query = holds_query opener;
  last_is_group_call = false;
}

-- the pairs of parentheses around a token, the innermost first
pub record Way : Type 0 where
  pub inner : OpenPair
  pub outer : List OpenPair

abbrev pub way_of : OpenPair → List OpenPair → Way
way_of inner outer = record { inner = inner; outer = reverse outer }

abbrev pub entered : Opener → Bool → Way → Way
entered opener is_group way = record {
  inner = within opener (calling opener is_group way.inner);
  outer = calling opener is_group way.inner ∷ way.outer;
}

abbrev pub left_to : OpenPair → List OpenPair → Way
left_to inner [] = record { inner = inner; outer = [] }
left_to inner (around ∷ outer) = record { inner = around; outer = outer }

abbrev pub left : Way → Way
left way = left_to way.inner way.outer

-- a clause begins in a SELECT itself, and not in parentheses within it
abbrev pub in_clause : Option Clause → OpenPair → OpenPair
in_clause None here = here
in_clause (Some clause) here = record here { standing = record here.standing { clause = clause } }

abbrev pub begun : Keyword → OpenPair → OpenPair
begun keyword here = if here.is_query then in_clause (clause_of keyword) here else here

-- a token further
abbrev pub passed : TokenMeaning → Opener → Bool → Way → Way
passed (SymbolToken symbols.OpenParenthesis) opener is_group way = entered opener is_group way
passed (SymbolToken symbols.CloseParenthesis) opener is_group way = left way
passed (KeywordToken keyword) opener is_group way = record way { inner = begun keyword way.inner }
passed _ opener is_group way = way

abbrev pub over : List Pair → List Token → ℕ → Option Token → Way → Way
over pairs tokens number None way = way
over pairs tokens number (Some token) way =
    passed (meaning_of token) (opener_at tokens number) (is_group_call pairs tokens (number - 1)) way

-- where each of the tokens stands that are left, the first of them of this number
abbrev pub standings_from : List Pair → List Token → ℕ → List Token → Way → List Standing
standings_from pairs tokens number [] way = []
standings_from pairs tokens number (token ∷ rest) way =
    (over pairs tokens number (Some token) way).inner.standing
    ∷ standings_from pairs tokens (number + 1) rest (over pairs tokens number (Some token) way)

-- a query begins with the SELECT around all others
abbrev pub outermost : OpenPair
outermost = record { standing = beginning 0; is_query = true; last_is_group_call = false }

abbrev pub standings_of : List Token → List Standing
standings_of tokens = standings_from (pairs_of tokens) tokens 0 tokens (record { inner = outermost; outer = [] })

-- whether it stands in this clause
abbrev pub stands_in : (Clause → Bool) → Option Standing → Bool
stands_in is_it None = false
stands_in is_it (Some standing) = is_it standing.clause
