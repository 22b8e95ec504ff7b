-- The grammar of expressions and of windows (ISO/IEC 9075-2, <search condition> and <window specification>, narrowed to this language).
use Rattle.std.specs.Prelude.{ℕ, zero, suc, List, [], Bool, true, false, Option, Some, None}
use Rattle.wlexer.specs.Token.{KeywordToken, SymbolToken}
use Rattle.wlexer.specs.declared.keyword.Keyword.{Keyword}
use Rattle.wlexer.specs.declared.keyword.Keyword.TheVariants as keywords
use Rattle.wlexer.specs.declared.token.Symbol.{Symbol}
use Rattle.wlexer.specs.declared.token.Symbol.TheVariants as symbols
use Rattle.wquery.specs.declared.expression.ChainKind.{ChainKind}
use Rattle.wquery.specs.declared.expression.ChainKind.TheVariants.{Disjunction, Conjunction, Sum, Product}
use Rattle.wquery.specs.declared.expression.NullOrder.{NullOrder}
use Rattle.wquery.specs.declared.frame.Frame.{Frame}
use Rattle.wquery.specs.declared.frame.FrameBound.{FrameBound}
use Rattle.wquery.specs.declared.frame.FrameBound.TheVariants as bounds
use Rattle.wquery.specs.declared.frame.FrameExclusion.{FrameExclusion}
use Rattle.wquery.specs.declared.frame.FrameExclusion.TheVariants as exclusions
use Rattle.wquery.specs.Tree.{Tree, Given, Filter, Reach, KeyTree, WindowTree, NullWord, Numeral, Quoted, Field, Invoked, Negated}
use Rattle.wquery.specs.Tree.{Signed, Compared, NullTest, Within, Among, NoTrees, Everything, These, Unfiltered, FilteredBy}
use Rattle.wquery.specs.Tree.{ItsGroup, ThatWindow, trees, grouping_of, own_window, no_window, window_of, key_of}
use Rattle.wtokens.specs.Words.{OpenSign, CloseSign, name_of, number_of, text_of, comparison_of}
use Rattle.wtokens.specs.Words.{sign_of, direction_of, null_order_of, mode_of}
use Rattle.wtokens.specs.Notation.{Row, One, After, Then, Done, Perhaps, Either, Room, Listed, Chain, As}

-- a keyword and then the row, a symbol and then the row
abbrev pub Word : {X : Type 0} → Keyword → Row X → Row X
Word keyword P = After (KeywordToken keyword) P

abbrev pub Sign : {X : Type 0} → Symbol → Row X → Row X
Sign symbol P = After (SymbolToken symbol) P

-- a row, and then the closing parenthesis
abbrev pub Closed : {X : Type 0} → Row X → Row X
Closed P = Then P (λ x. After CloseSign (Done x))

-- UNBOUNDED PRECEDING | UNBOUNDED FOLLOWING | CURRENT ROW | number PRECEDING | number FOLLOWING
abbrev pub toward : FrameBound → FrameBound → Row FrameBound
toward back ahead = Either (Word keywords.Preceding (Done back)) (Word keywords.Following (Done ahead))

abbrev pub bound : Row FrameBound
bound =
    Either (Word keywords.Unbounded (toward bounds.UnboundedPreceding bounds.UnboundedFollowing))
    (Either (Word keywords.Current (Word keywords.Row (Done bounds.CurrentRow)))
    (Then (One number_of) (λ n. toward (bounds.Preceding n) (bounds.Following n))))

-- AND bound, behind the first
abbrev pub other_bound : FrameBound → Row (FrameBound × Option FrameBound)
other_bound start = Word keywords.And (As (λ end. (start, Some end)) bound)

-- bound AND bound, behind BETWEEN
abbrev pub two_bounds : Row (FrameBound × Option FrameBound)
two_bounds = Then bound other_bound

-- bound | BETWEEN bound AND bound
abbrev pub extent : Row (FrameBound × Option FrameBound)
extent = Either (Word keywords.Between two_bounds) (As (λ start. (start, None)) bound)

-- EXCLUDE CURRENT ROW | EXCLUDE GROUP | EXCLUDE TIES | EXCLUDE NO OTHERS, behind EXCLUDE
abbrev pub exclusion : Row FrameExclusion
exclusion =
    Either (Word keywords.Current (Word keywords.Row (Done exclusions.CurrentRow)))
    (Either (Word keywords.Group (Done exclusions.Group))
    (Either (Word keywords.Ties (Done exclusions.Ties))
    (Word keywords.No (Word keywords.Others (Done exclusions.NoOthers)))))

-- [EXCLUDE ..]
abbrev pub optional_exclusion : Row (Option FrameExclusion)
optional_exclusion = Perhaps None (As Some (Word keywords.Exclude exclusion))

-- frame = mode extent [EXCLUDE ..]
abbrev pub frame : Row Frame
frame =
    Then (One mode_of) (λ mode. Then extent (λ ends. Then optional_exclusion (λ out.
    Done (record { mode = mode; start = ends.0; end = ends.1; exclusion = out }))))

-- [NULLS FIRST | NULLS LAST]
abbrev pub nulls_placed : Row (Option NullOrder)
nulls_placed = Perhaps None (As Some (Word keywords.Nulls (One null_order_of)))

-- [ASC | DESC]
abbrev pub descending : Row Bool
descending = Perhaps false (One direction_of)

-- key = condition [ASC | DESC] [NULLS FIRST | NULLS LAST]
abbrev pub key : Row Tree → Row KeyTree
key Cond = Then Cond (λ e. Then descending (λ descends. Then nulls_placed (λ nulls. Done (key_of e descends nulls))))

-- [PARTITION BY condition {, condition}]
abbrev pub partition : Row Tree → Row (List Tree)
partition Cond = Perhaps [] (Word keywords.Partition (Word keywords.By (Listed Cond)))

-- [ORDER BY key {, key}]
abbrev pub order : Row Tree → Row (List KeyTree)
order Cond = Perhaps [] (Word keywords.Order (Word keywords.By (Listed (key Cond))))

-- [name]
abbrev pub optional_name : Row (Option (List ℕ))
optional_name = Perhaps None (As Some (One name_of))

-- [frame]
abbrev pub optional_frame : Row (Option Frame)
optional_frame = Perhaps None (As Some frame)

-- window = [name] [PARTITION BY ..] [ORDER BY ..] [frame]
abbrev pub window : Row Tree → Row WindowTree
window Cond =
    Then optional_name (λ copied. Then (partition Cond) (λ parts. Then (order Cond) (λ keys. Then optional_frame (λ frame.
    Done (window_of copied parts keys frame)))))

-- window ), behind the opening parenthesis; only a pair that holds a token takes a level
abbrev pub window_inside : ℕ → Row Tree → Row WindowTree
window_inside n Under = Either (After CloseSign (Done no_window)) (Room n (Closed (window Under)))

-- over = name | ( window )
abbrev pub over : ℕ → Row Tree → Row Reach
over n Under = Either (As ThatWindow (One name_of)) (After OpenSign (As own_window (window_inside n Under)))

-- ), behind the star of a call
abbrev pub everything_closed : ℕ → Row Given
everything_closed n = Room n (After CloseSign (Done Everything))

-- [* | condition {, condition}] ), behind the opening parenthesis
abbrev pub arguments : ℕ → Row Tree → Row Given
arguments n Under =
    Either (After CloseSign (Done (These NoTrees)))
    (Either (Sign symbols.Asterisk (everything_closed n))
    (As (λ list. These (trees list)) (Closed (Listed Under))))

-- ( WHERE condition ), behind FILTER
abbrev pub filter : Row Tree → Row Filter
filter Under = After OpenSign (Word keywords.Where (As FilteredBy (Closed Under)))

-- [FILTER ( WHERE condition )]
abbrev pub optional_filter : Row Tree → Row Filter
optional_filter Under = Perhaps Unfiltered (Word keywords.Filter (filter Under))

-- [OVER over]
abbrev pub optional_over : ℕ → Row Tree → Row Reach
optional_over n Under = Perhaps ItsGroup (Word keywords.Over (over n Under))

-- call = name ( .. ) [FILTER ..] [OVER ..], behind its first parenthesis
abbrev pub call : ℕ → Row Tree → List ℕ → Row Tree
call n Under name =
    Then (arguments n Under) (λ given. Then (optional_filter Under) (λ kept. Then (optional_over n Under) (λ reach.
    Done (Invoked name given kept reach))))

-- the name of a column, behind its qualifier and the dot
abbrev pub qualified : List ℕ → Row Tree
qualified qualifier = As (Field (Some qualifier)) (One name_of)

-- column = name [. name], and a call, behind the name
abbrev pub column_or_call : ℕ → Row Tree → List ℕ → Row Tree
column_or_call n Under name =
    Perhaps (Field None name)
    (Either (Sign symbols.Dot (qualified name)) (After OpenSign (call n Under name)))

-- column = name [. name]
abbrev pub column_behind : List ℕ → Row Tree
column_behind name = Perhaps (Field None name) (Sign symbols.Dot (qualified name))

abbrev pub column : Row Tree
column = Then (One name_of) column_behind

-- column {, column} ), behind the opening parenthesis
abbrev pub columns_closed : ℕ → Row (List Tree)
columns_closed n = Room n (Closed (Listed column))

-- ( column {, column} ), behind GROUPING
abbrev pub grouping_call : ℕ → Row Tree
grouping_call n = After OpenSign (As grouping_of (columns_closed n))

-- primary = number | text literal | NULL | column | call | GROUPING ( column {, column} ) | ( condition ); parentheses
-- leave no mark
abbrev pub primary : ℕ → Row Tree → Row Tree
primary n Under =
    Either (As Numeral (One number_of)) (Either (As Quoted (One text_of)) (Either (Word keywords.Null (Done NullWord))
    (Either (Then (One name_of) (column_or_call n Under)) (Either (Word keywords.Grouping (grouping_call n))
    (After OpenSign (Closed Under))))))

-- sign = (+ | -) sign | primary
abbrev pub sign_row : Row Tree → Row Tree → Row Tree
sign_row Under Primary = Either (Then (One sign_of) (λ minus. As (Signed minus) Under)) Primary

-- AND sum, behind the lower end
abbrev pub up_to : Row Tree → Tree → Bool → Tree → Row Tree
up_to Adds e negated low = Word keywords.And (As (Within negated e low) Adds)

-- sum AND sum, behind BETWEEN, whose AND is its own
abbrev pub between : Row Tree → Tree → Bool → Row Tree
between Adds e negated = Then Adds (up_to Adds e negated)

-- ( sum {, sum} ), behind IN
abbrev pub among : Row Tree → Tree → Bool → Row Tree
among Under e negated = After OpenSign (As (λ list. Among negated e (trees list)) (Closed (Listed Under)))

-- BETWEEN sum AND sum | IN ( sum {, sum} ), behind an operand
abbrev pub range_test : Row Tree → Row Tree → Tree → Bool → Row Tree
range_test Adds Under e negated =
    Either (Word keywords.Between (between Adds e negated))
    (Word keywords.In (among Under e negated))

-- [NOT]
abbrev pub optional_not : Row Bool
optional_not = Perhaps false (Word keywords.Not (Done true))

-- [[NOT] BETWEEN .. | [NOT] IN ..], behind an operand
abbrev pub range_tested : Row Tree → Row Tree → Tree → Row Tree
range_tested Adds Under e = Perhaps e (Then optional_not (range_test Adds Under e))

-- range = sum [[NOT] BETWEEN .. | [NOT] IN ..]
abbrev pub range_row : Row Tree → Row Tree → Row Tree
range_row Adds Under = Then Adds (range_tested Adds Under)

-- [(= | <> | < | <= | > | >=) range], behind an operand
abbrev pub compared : Row Tree → Tree → Row Tree
compared Range l = Perhaps l (Then (One comparison_of) (λ comparison. As (Compared comparison l) Range))

-- comparison = range [(= | <> | < | <= | > | >=) range]
abbrev pub comparison_row : Row Tree → Row Tree
comparison_row Range = Then Range (compared Range)

-- [IS [NOT] NULL], behind an operand
abbrev pub null_tested : Tree → Row Tree
null_tested e = Perhaps e (Word keywords.Is (Then optional_not (λ negated. Word keywords.Null (Done (NullTest negated e)))))

-- test = comparison [IS [NOT] NULL]
abbrev pub test_row : Row Tree → Row Tree
test_row Comparison = Then Comparison null_tested

-- negation = NOT negation | test
abbrev pub negation_row : Row Tree → Row Tree → Row Tree
negation_row Under Test = Either (Word keywords.Not (As Negated Under)) Test

-- the rows that stand one level deeper somewhere
pub data Rank : Type 0 where
  ChainRank : ChainKind → Rank
  NegationRank : Rank
  SignRank : Rank

-- The rows where `n` levels of nesting are left, over the rows with one level less.
abbrev pub sign_over : ℕ → (Rank → Row Tree) → Row Tree
sign_over n Under = sign_row (Under SignRank) (primary n (Under (ChainRank Disjunction)))

abbrev pub sum_over : ℕ → (Rank → Row Tree) → Row Tree
sum_over n Under = Chain Sum (Chain Product (sign_over n Under))

abbrev pub range_over : ℕ → (Rank → Row Tree) → Row Tree
range_over n Under = range_row (sum_over n Under) (Under (ChainRank Sum))

abbrev pub comparison_over : ℕ → (Rank → Row Tree) → Row Tree
comparison_over n Under = comparison_row (range_over n Under)

abbrev pub negation_over : ℕ → (Rank → Row Tree) → Row Tree
negation_over n Under = negation_row (Under NegationRank) (test_row (comparison_over n Under))

-- condition = conjunction {OR conjunction}, conjunction = negation {AND negation},
-- sum = product {(+ | -) product}, product = sign {* sign}
abbrev pub operand_over : ℕ → (Rank → Row Tree) → ChainKind → Row Tree
operand_over n Under Disjunction = Chain Conjunction (negation_over n Under)
operand_over n Under Conjunction = negation_over n Under
operand_over n Under Sum = Chain Product (sign_over n Under)
operand_over n Under Product = sign_over n Under

abbrev pub row_over : ℕ → (Rank → Row Tree) → Rank → Row Tree
row_over n Under (ChainRank kind) = Chain kind (operand_over n Under kind)
row_over n Under NegationRank = negation_over n Under
row_over n Under SignRank = sign_over n Under

-- The rows one level deeper, where `n` levels are left; there are none below the last.
unfoldable pub deeper : ℕ → Rank → Row Tree
deeper zero rank = λ tree ts rest. ⊥
deeper (suc n) rank = row_over n (deeper n) rank

-- the rows where `n` levels are left
abbrev pub operand : ℕ → ChainKind → Row Tree
operand n kind = operand_over n (deeper n) kind

abbrev pub chain : ℕ → ChainKind → Row Tree
chain n kind = Chain kind (operand n kind)

abbrev pub condition : ℕ → Row Tree
condition n = chain n Disjunction

abbrev pub sum : ℕ → Row Tree
sum n = chain n Sum

abbrev pub range : ℕ → Row Tree
range n = range_over n (deeper n)

abbrev pub comparison : ℕ → Row Tree
comparison n = comparison_over n (deeper n)

abbrev pub test : ℕ → Row Tree
test n = test_row (comparison n)

abbrev pub negation : ℕ → Row Tree
negation n = negation_over n (deeper n)

abbrev pub sign : ℕ → Row Tree
sign n = sign_over n (deeper n)

-- conditions one level deeper
abbrev pub inner : ℕ → Row Tree
inner n = deeper n (ChainRank Disjunction)
