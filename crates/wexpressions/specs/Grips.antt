-- Where a reading ends.
use Rattle.std.specs.Prelude.{ℕ, ◌<◌, [], ◌∷◌}
use Rattle.wlexer.specs.Token.{TokenMeaning, KeywordToken, NameToken, NumberToken, TextToken, SymbolToken}
use Rattle.wlexer.specs.declared.keyword.Keyword.{Keyword}
use Rattle.wlexer.specs.declared.keyword.Keyword.TheVariants as keywords
use Rattle.wlexer.specs.declared.token.Symbol.{Symbol}
use Rattle.wlexer.specs.declared.token.Symbol.TheVariants as symbols
use Rattle.wquery.specs.declared.expression.ChainKind.{ChainKind}
use Rattle.wquery.specs.declared.expression.ChainKind.TheVariants.{Disjunction, Conjunction, Sum, Product}
use Rattle.wtokens.specs.Notation.{Tokens}

-- how tightly a token binds to what stands before it; 0 where it goes on with nothing
abbrev pub keyword_grip : Keyword → ℕ
keyword_grip keywords.Not = 25
keyword_grip keywords.Between = 24
keyword_grip keywords.In = 24
keyword_grip keywords.Is = 22
keyword_grip keywords.And = 21
keyword_grip keywords.Or = 20
keyword_grip keywords.Filter = 29
keyword_grip keywords.Over = 28
keyword_grip keywords.Asc = 16
keyword_grip keywords.Desc = 16
keyword_grip keywords.Nulls = 15
keyword_grip keywords.As = 15
keyword_grip keywords.Where = 9
keyword_grip keywords.Group = 8
keyword_grip keywords.Having = 7
keyword_grip keywords.Window = 6
keyword_grip keywords.Partition = 6
keyword_grip keywords.Order = 5
keyword_grip keywords.Limit = 4
keyword_grip keywords.Offset = 4
keyword_grip keywords.Rows = 4
keyword_grip keywords.Range = 4
keyword_grip keywords.Groups = 4
keyword_grip keywords.Exclude = 3
keyword_grip _ = 0

abbrev pub symbol_grip : Symbol → ℕ
symbol_grip symbols.OpenParenthesis = 30
symbol_grip symbols.CloseParenthesis = 0
symbol_grip symbols.Comma = 12
symbol_grip symbols.Dot = 30
symbol_grip symbols.Semicolon = 1
symbol_grip symbols.Plus = 26
symbol_grip symbols.Minus = 26
symbol_grip symbols.Asterisk = 27
symbol_grip _ = 23

abbrev pub grip : TokenMeaning → ℕ
grip (KeywordToken k) = keyword_grip k
grip (NameToken name) = 14
grip (NumberToken n) = 0
grip (TextToken text) = 0
grip (SymbolToken s) = symbol_grip s

-- What is read ends here: no token follows that could go on with it.
abbrev pub Stops : ℕ → Tokens → Type 0
Stops k [] = Unit {0}
Stops k (token ∷ ts) = grip token < k

-- which tokens may follow a chain of this kind, and its operands
abbrev pub kind_class : ChainKind → ℕ
kind_class Disjunction = 20
kind_class Conjunction = 21
kind_class Sum = 26
kind_class Product = 27

abbrev pub operand_class : ChainKind → ℕ
operand_class Disjunction = 21
operand_class Conjunction = 22
operand_class Sum = 27
operand_class Product = 28

-- Which tokens may follow the other rows: those whose grip is less.
abbrev pub any_class : ℕ
any_class = 31

abbrev pub filter_class : ℕ
filter_class = 29

abbrev pub sign_class : ℕ
sign_class = 28

abbrev pub range_class : ℕ
range_class = 24

abbrev pub comparison_class : ℕ
comparison_class = 23

abbrev pub negation_class : ℕ
negation_class = 22

abbrev pub condition_class : ℕ
condition_class = 20

abbrev pub direction_class : ℕ
direction_class = 16

abbrev pub nulls_class : ℕ
nulls_class = 15

abbrev pub name_class : ℕ
name_class = 14

abbrev pub element_class : ℕ
element_class = 14

abbrev pub list_class : ℕ
list_class = 12

abbrev pub grouping_class : ℕ
grouping_class = 8

abbrev pub windows_class : ℕ
windows_class = 6

abbrev pub partition_class : ℕ
partition_class = 6

abbrev pub order_class : ℕ
order_class = 5

abbrev pub limits_class : ℕ
limits_class = 4

abbrev pub frame_class : ℕ
frame_class = 3

abbrev pub text_class : ℕ
text_class = 1
