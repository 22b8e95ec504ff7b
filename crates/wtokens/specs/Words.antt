-- What the tokens say that the grammar asks for.
use Rattle.std.specs.Prelude.{ℕ, List, Bool, true, false, Option, Some, None}
use Rattle.wlexer.specs.Token.{TokenMeaning, KeywordToken, NameToken, NumberToken, TextToken, SymbolToken}
use Rattle.wlexer.specs.declared.keyword.Keyword.TheVariants as keywords
use Rattle.wlexer.specs.declared.token.Symbol.TheVariants as symbols
use Rattle.wquery.specs.declared.expression.ChainKind.{ChainKind}
use Rattle.wquery.specs.declared.expression.ChainKind.TheVariants.{Disjunction, Conjunction, Sum, Product}
use Rattle.wquery.specs.declared.expression.Operator.{Operator}
use Rattle.wquery.specs.declared.expression.Operator.TheVariants.{Or, And, Plus, Minus, Times}
use Rattle.wquery.specs.declared.expression.Comparison.{Comparison}
use Rattle.wquery.specs.declared.expression.Comparison.TheVariants as comparisons
use Rattle.wquery.specs.declared.expression.NullOrder.{NullOrder}
use Rattle.wquery.specs.declared.expression.NullOrder.TheVariants as null_orders
use Rattle.wquery.specs.declared.frame.FrameMode.{FrameMode}
use Rattle.wquery.specs.declared.frame.FrameMode.TheVariants as modes

abbrev pub CommaSign : TokenMeaning
CommaSign = SymbolToken symbols.Comma

abbrev pub OpenSign : TokenMeaning
OpenSign = SymbolToken symbols.OpenParenthesis

abbrev pub CloseSign : TokenMeaning
CloseSign = SymbolToken symbols.CloseParenthesis

abbrev pub name_of : TokenMeaning → Option (List ℕ)
name_of (NameToken name) = Some name
name_of _ = None

abbrev pub text_of : TokenMeaning → Option (List ℕ)
text_of (TextToken text) = Some text
text_of _ = None

abbrev pub number_of : TokenMeaning → Option ℕ
number_of (NumberToken n) = Some n
number_of _ = None

-- the operator that a token is in a chain of this kind
abbrev pub operator_of : ChainKind → TokenMeaning → Option Operator
operator_of Disjunction (KeywordToken keywords.Or) = Some Or
operator_of Conjunction (KeywordToken keywords.And) = Some And
operator_of Sum (SymbolToken symbols.Plus) = Some Plus
operator_of Sum (SymbolToken symbols.Minus) = Some Minus
operator_of Product (SymbolToken symbols.Asterisk) = Some Times
operator_of _ _ = None

abbrev pub comparison_of : TokenMeaning → Option Comparison
comparison_of (SymbolToken symbols.Equal) = Some comparisons.Equal
comparison_of (SymbolToken symbols.NotEqual) = Some comparisons.NotEqual
comparison_of (SymbolToken symbols.Less) = Some comparisons.Less
comparison_of (SymbolToken symbols.LessOrEqual) = Some comparisons.LessOrEqual
comparison_of (SymbolToken symbols.Greater) = Some comparisons.Greater
comparison_of (SymbolToken symbols.GreaterOrEqual) = Some comparisons.GreaterOrEqual
comparison_of _ = None

-- the sign that a token is, and whether it is a minus
abbrev pub sign_of : TokenMeaning → Option Bool
sign_of (SymbolToken symbols.Plus) = Some false
sign_of (SymbolToken symbols.Minus) = Some true
sign_of _ = None

-- the direction that a token is, and whether it descends
abbrev pub direction_of : TokenMeaning → Option Bool
direction_of (KeywordToken keywords.Asc) = Some false
direction_of (KeywordToken keywords.Desc) = Some true
direction_of _ = None

abbrev pub null_order_of : TokenMeaning → Option NullOrder
null_order_of (KeywordToken keywords.First) = Some null_orders.First
null_order_of (KeywordToken keywords.Last) = Some null_orders.Last
null_order_of _ = None

abbrev pub mode_of : TokenMeaning → Option FrameMode
mode_of (KeywordToken keywords.Rows) = Some modes.Rows
mode_of (KeywordToken keywords.Range) = Some modes.Range
mode_of (KeywordToken keywords.Groups) = Some modes.Groups
mode_of _ = None
