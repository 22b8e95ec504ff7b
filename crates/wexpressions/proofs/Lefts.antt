-- What is read has no chain with a chain of its own kind first, and no operator in a chain of another kind.
use Rattle.std.proofs.Common.{◌≡◌, Bool, true, ℕ, zero, suc, List, refl, sym, ◌∙◌}
use Rattle.wquery.specs.declared.expression.ChainKind.{ChainKind}
use Rattle.wquery.specs.declared.expression.ChainKind.TheVariants.{Disjunction, Conjunction, Sum, Product}
use Rattle.wquery.specs.declared.expression.Operator.{Operator}
use Rattle.wquery.specs.Tree.{Tree, KeyTree, Joined, trees, keys, same_kind, is_chain, lengthened, joined}
use Rattle.wquery.specs.Lefts.{chain_kind, IsLeft, AreLeft, AreGivenLeft, IsFilterLeft, IsReachLeft, AreKeysLeft, IsWindowLeft}
use Rattle.wtokens.specs.Notation.{Row, Listed, Chain}
use Rattle.wexpressions.specs.Grammar.{key, window, window_inside, optional_over, arguments, optional_filter, call, column_or_call}
use Rattle.wexpressions.specs.Grammar.{column, grouping_call, primary, sign_row, range_test, range_row, comparison_row, test_row, Rank}
use Rattle.wexpressions.specs.Grammar.{ChainRank, NegationRank, SignRank, sign_over, negation_over, operand_over, row_over, deeper}
use Rattle.wexpressions.specs.Grammar.{condition}
use Rattle.wexpressions.proofs.Gives.{Upholds, chain_gives, joined_holds, after_gives, then_gives, done_gives, perhaps_gives}
use Rattle.wexpressions.proofs.Gives.{either_gives, room_gives, as_gives, closed_gives, any_gives, listed_gives, none_gives}

list_left : {P : Row Tree} → Upholds IsLeft P → Upholds (λ (l : List Tree). AreLeft (trees l)) (Listed P)
list_left u = listed_gives (λ (l : List Tree). AreLeft (trees l)) tt (λ x xs a b. (a, b)) u

abbrev IsKeyLeft : KeyTree → Type 0
IsKeyLeft k = IsLeft k.expression

pub keys_left : {P : Row KeyTree} → Upholds IsKeyLeft P → Upholds (λ (l : List KeyTree). AreKeysLeft (keys l)) (Listed P)
keys_left u = listed_gives (λ (l : List KeyTree). AreKeysLeft (keys l)) tt (λ x xs a b. (a, b)) u

-- chains
same_kind_is : (k j : ChainKind) → same_kind k j ≡ true → k ≡ j
same_kind_is Disjunction Disjunction e = refl
same_kind_is Conjunction Conjunction e = refl
same_kind_is Sum Sum e = refl
same_kind_is Product Product e = refl
same_kind_is _ _ e = cc

lengthened_left : (k : ChainKind) (t : Tree) (operator : Operator) (o : Tree) → is_chain k t ≡ true
    → chain_kind operator ≡ k → IsLeft t → IsLeft o → IsLeft (lengthened t operator o)
lengthened_left k (Joined kind f links) operator o e q a b = (a.0, a.1, (a.2, q ∙ sym (same_kind_is kind k e), b))
lengthened_left k _ operator o e q a b = a

joined_left : (kind : ChainKind) (t : Tree) (operator : Operator) (o : Tree) → chain_kind operator ≡ kind → IsLeft t
    → IsLeft o → IsLeft (joined kind t operator o)
joined_left kind t operator o q a b = joined_holds IsLeft kind t operator o (λ e. lengthened_left kind t operator o e q a b)
    (λ e. (e, a, (tt, q, b)))

chain_left : {kind : ChainKind} {P : Row Tree} → Upholds IsLeft P → Upholds IsLeft (Chain kind P)
chain_left u = chain_gives IsLeft (λ t a. a) (joined_left _) u

-- the rows of expressions
pub key_left : {C : Row Tree} → Upholds IsLeft C → Upholds IsKeyLeft (key C)
key_left u = then_gives IsLeft u (λ e a. then_gives (λ (d : Bool). Unit {0}) any_gives
    (λ d i. then_gives (λ n. Unit {0}) any_gives (λ n j. done_gives a)))

window_left : {C : Row Tree} → Upholds IsLeft C → Upholds IsWindowLeft (window C)
window_left u =
    then_gives (λ c. Unit {0}) any_gives (λ c i. then_gives (λ (l : List Tree). AreLeft (trees l))
    (perhaps_gives tt (after_gives (after_gives (list_left u)))) (λ p a.
    then_gives (λ (l : List KeyTree). AreKeysLeft (keys l)) (perhaps_gives tt (after_gives (after_gives (keys_left (key_left u))))) (λ o b.
    then_gives (λ f. Unit {0}) any_gives (λ f j. done_gives (a, b)))))

pub inside_left : {n : ℕ} {C : Row Tree} → Upholds IsLeft C → Upholds IsWindowLeft (window_inside n C)
inside_left u = either_gives (after_gives (done_gives (tt, tt))) (room_gives (closed_gives (window_left u)))

reaching_left : {n : ℕ} {C : Row Tree} → Upholds IsLeft C → Upholds IsReachLeft (optional_over n C)
reaching_left u = perhaps_gives tt (after_gives (either_gives (as_gives (λ (x : List ℕ). Unit {0}) any_gives (λ x i. tt))
    (after_gives (as_gives IsWindowLeft (inside_left u) (λ w a. a)))))

arguments_left : {n : ℕ} {C : Row Tree} → Upholds IsLeft C → Upholds AreGivenLeft (arguments n C)
arguments_left u = either_gives (after_gives (done_gives tt))
    (either_gives (after_gives (room_gives (after_gives (done_gives tt)))) (as_gives (λ (l : List Tree). AreLeft (trees l))
    (closed_gives (list_left u)) (λ l a. a)))

filtered_left : {C : Row Tree} → Upholds IsLeft C → Upholds IsFilterLeft (optional_filter C)
filtered_left u = perhaps_gives tt (after_gives (after_gives (after_gives (as_gives IsLeft (closed_gives u) (λ e a. a)))))

call_left : {n : ℕ} {C : Row Tree} {name : List ℕ} → Upholds IsLeft C → Upholds IsLeft (call n C name)
call_left u = then_gives AreGivenLeft (arguments_left u) (λ g a. then_gives IsFilterLeft (filtered_left u)
    (λ f b. then_gives IsReachLeft (reaching_left u) (λ r c. done_gives (a, b, c))))

named_left : {n : ℕ} {C : Row Tree} {name : List ℕ} → Upholds IsLeft C → Upholds IsLeft (column_or_call n C name)
named_left u = perhaps_gives tt (either_gives (after_gives (as_gives (λ (x : List ℕ). Unit {0}) any_gives (λ x i. tt)))
    (after_gives (call_left u)))

column_left : Upholds IsLeft column
column_left = then_gives (λ (x : List ℕ). Unit {0}) any_gives
    (λ x i. perhaps_gives tt (after_gives (as_gives (λ (y : List ℕ). Unit {0}) any_gives (λ y j. tt))))

grouping_call_left : {n : ℕ} → Upholds IsLeft (grouping_call n)
grouping_call_left = after_gives (as_gives (λ (l : List Tree). AreLeft (trees l))
    (room_gives (closed_gives (list_left column_left))) (λ l a. (a, tt, tt)))

primary_left : {n : ℕ} {C : Row Tree} → Upholds IsLeft C → Upholds IsLeft (primary n C)
primary_left u =
    either_gives (as_gives (λ (x : ℕ). Unit {0}) any_gives (λ x i. tt))
    (either_gives (as_gives (λ (x : List ℕ). Unit {0}) any_gives (λ x i. tt)) (either_gives (after_gives (done_gives tt))
    (either_gives (then_gives (λ (x : List ℕ). Unit {0}) any_gives (λ x i. named_left u))
    (either_gives (after_gives grouping_call_left) (after_gives (closed_gives u))))))

signing_left : {U P : Row Tree} → Upholds IsLeft U → Upholds IsLeft P → Upholds IsLeft (sign_row U P)
signing_left u p = either_gives (then_gives (λ (m : Bool). Unit {0}) any_gives (λ m i. as_gives IsLeft u (λ e a. a))) p

test_left : {A U : Row Tree} {e : Tree} {b : Bool} → IsLeft e → Upholds IsLeft A → Upholds IsLeft U → Upholds IsLeft (range_test A U e b)
test_left i a u =
    either_gives (after_gives (then_gives IsLeft a (λ low x. after_gives (as_gives IsLeft a (λ high y. (i, x, y))))))
    (after_gives (after_gives (as_gives (λ (l : List Tree). AreLeft (trees l)) (closed_gives (list_left u)) (λ l x. (i, x)))))

ranging_left : {A U : Row Tree} → Upholds IsLeft A → Upholds IsLeft U → Upholds IsLeft (range_row A U)
ranging_left a u = then_gives IsLeft a (λ e i. perhaps_gives i (then_gives (λ (b : Bool). Unit {0}) any_gives (λ b j. test_left i a u)))

comparing_left : {R : Row Tree} → Upholds IsLeft R → Upholds IsLeft (comparison_row R)
comparing_left r = then_gives IsLeft r (λ l i. perhaps_gives i (then_gives (λ c. Unit {0}) any_gives
    (λ c j. as_gives IsLeft r (λ x k. (i, k)))))

testing_left : {R : Row Tree} → Upholds IsLeft R → Upholds IsLeft (test_row R)
testing_left r = then_gives IsLeft r (λ e i. perhaps_gives i
    (after_gives (then_gives (λ (b : Bool). Unit {0}) any_gives (λ b j. after_gives (done_gives i)))))

module _ (n : ℕ) (U : Rank → Row Tree) (u : (rank : Rank) → Upholds IsLeft (U rank)) where
  signs_left : Upholds IsLeft (sign_over n U)
  signs_left = signing_left (u SignRank) (primary_left (u (ChainRank Disjunction)))

  negations_left : Upholds IsLeft (negation_over n U)
  negations_left = either_gives (after_gives (as_gives IsLeft (u NegationRank) (λ e a. a)))
      (testing_left (comparing_left (ranging_left (chain_left (chain_left signs_left)) (u (ChainRank Sum)))))

  operands_left : (kind : ChainKind) → Upholds IsLeft (operand_over n U kind)
  operands_left Disjunction = chain_left negations_left
  operands_left Conjunction = negations_left
  operands_left Sum = chain_left signs_left
  operands_left Product = signs_left

  row_left : (rank : Rank) → Upholds IsLeft (row_over n U rank)
  row_left (ChainRank kind) = chain_left (operands_left kind)
  row_left NegationRank = negations_left
  row_left SignRank = signs_left

pub deeper_left : (n : ℕ) (rank : Rank) → Upholds IsLeft (deeper n rank)
unfolding deeper
deeper_left zero rank = none_gives (λ y ts rest p. p)
deeper_left (suc n) rank = row_left n (deeper n) (deeper_left n) rank

pub conditions_left : (n : ℕ) → Upholds IsLeft (condition n)
conditions_left n = row_left n (deeper n) (deeper_left n) (ChainRank Disjunction)
