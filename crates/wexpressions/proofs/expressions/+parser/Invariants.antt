use Rattle.std.proofs.Common.{ℕ, ◌+◌, ◌-◌, ◌*◌, length}
use Rattle.wquery.specs.declared.expression.ChainKind.{ChainKind}
use Rattle.wquery.specs.declared.expression.ChainKind.TheVariants.{Disjunction, Conjunction, Sum, Product}
use Rattle.wquery.specs.Tree.{view, views, view_keys}
use Rattle.wexpressions.specs.Grammar.{operand, chain, condition, key}
use Rattle.wtokens.specs.Notation.{meanings}
use Rattle.wexpressions.proofs.Steps.{Listing}
use Rattle.wexpressions.proofs.Rows.{Going}
use Rattle.wexpressions.proofs.expressions.+parser.Given as goal

-- the places of the chains among the rows of one depth
abbrev pub height : ChainKind → ℕ
height Disjunction = 50
height Conjunction = 47
height Sum = 30
height Product = 27

abbrev pub decreases-list : goal.decreases-list
decreases-list l = 64 * l.depth + (height l.kind + 1)

abbrev pub decreases-chain : goal.decreases-chain
decreases-chain l = 64 * l.depth + height l.kind

abbrev pub decreases-goes_on : goal.decreases-goes_on
decreases-goes_on l = 64 * l.depth + (height l.kind - 1)

abbrev pub decreases-operand : goal.decreases-operand
decreases-operand l = 64 * l.depth + (height l.kind - 2)

abbrev pub invariant-goes_on-chain : goal.invariant-goes_on-chain
invariant-goes_on-chain l = Going l.kind (operand l.depth l.kind) (meanings l.tokens) (view l.fn.first) (meanings l.rest) (view l.tree)

abbrev pub decreases-goes_on-chain : goal.decreases-goes_on-chain
decreases-goes_on-chain l = length l.rest

abbrev pub invariant-list-elements : goal.invariant-list-elements
invariant-list-elements l = Listing (chain l.depth l.kind) (meanings l.tokens) (views l.elements.items) (meanings l.left)

abbrev pub decreases-list-elements : goal.decreases-list-elements
decreases-list-elements l = length l.left

abbrev pub invariant-keys-elements : goal.invariant-keys-elements
invariant-keys-elements l = Listing (key (condition l.depth)) (meanings l.tokens) (view_keys l.elements.items) (meanings l.left)

abbrev pub decreases-keys-elements : goal.decreases-keys-elements
decreases-keys-elements l = length l.left

abbrev pub decreases-window : goal.decreases-window
decreases-window l = 64 * l.depth + 60

abbrev pub decreases-partition : goal.decreases-partition
decreases-partition l = 64 * l.depth + 59

abbrev pub decreases-order : goal.decreases-order
decreases-order l = 64 * l.depth + 59

abbrev pub decreases-keys : goal.decreases-keys
decreases-keys l = 64 * l.depth + 58

abbrev pub decreases-key : goal.decreases-key
decreases-key l = 64 * l.depth + 57

abbrev pub decreases-negation : goal.decreases-negation
decreases-negation l = 64 * l.depth + 44

abbrev pub decreases-test : goal.decreases-test
decreases-test l = 64 * l.depth + 43

abbrev pub decreases-comparison : goal.decreases-comparison
decreases-comparison l = 64 * l.depth + 42

abbrev pub decreases-compared : goal.decreases-compared
decreases-compared l = 64 * l.depth + 41

abbrev pub decreases-range : goal.decreases-range
decreases-range l = 64 * l.depth + 40

abbrev pub decreases-range_tested : goal.decreases-range_tested
decreases-range_tested l = 64 * l.depth + 39

abbrev pub decreases-range_test : goal.decreases-range_test
decreases-range_test l = 64 * l.depth + 38

abbrev pub decreases-between : goal.decreases-between
decreases-between l = 64 * l.depth + 37

abbrev pub decreases-up_to : goal.decreases-up_to
decreases-up_to l = 64 * l.depth + 36

abbrev pub decreases-among : goal.decreases-among
decreases-among l = 64 * l.depth + 37

abbrev pub decreases-sign : goal.decreases-sign
decreases-sign l = 64 * l.depth + 24

abbrev pub decreases-primary : goal.decreases-primary
decreases-primary l = 64 * l.depth + 20

abbrev pub decreases-column_or_call : goal.decreases-column_or_call
decreases-column_or_call l = 64 * l.depth + 19

abbrev pub decreases-call : goal.decreases-call
decreases-call l = 64 * l.depth + 18

abbrev pub decreases-arguments : goal.decreases-arguments
decreases-arguments l = 64 * l.depth + 17

abbrev pub decreases-optional_filter : goal.decreases-optional_filter
decreases-optional_filter l = 64 * l.depth + 17

abbrev pub decreases-optional_over : goal.decreases-optional_over
decreases-optional_over l = 64 * l.depth + 17

abbrev pub decreases-window_inside : goal.decreases-window_inside
decreases-window_inside l = 64 * l.depth + 16

abbrev pub decreases-closed_list : goal.decreases-closed_list
decreases-closed_list l = 64 * l.depth + 16

abbrev pub decreases-closed : goal.decreases-closed
decreases-closed l = 64 * l.depth + 15
