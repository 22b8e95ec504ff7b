-- How deep a walk over what is read goes.
use Rattle.std.proofs.Common.{◌≡◌, Bool, true, false, ℕ, zero, suc, ◌+◌, ◌*◌, ◌<◌, ◌≤◌, max, List, refl, ◌∙◌, arith}
use Rattle.std.proofs.Math.Nat.{le-max_left, le-max_right, max-le}
use Rattle.wquery.specs.declared.expression.ChainKind.{ChainKind}
use Rattle.wquery.specs.declared.expression.ChainKind.TheVariants.{Disjunction, Conjunction, Sum, Product}
use Rattle.wquery.specs.declared.expression.Operator.{Operator}
use Rattle.wquery.specs.Tree.{Tree, Given, Filter, Reach, KeyTree, WindowTree, Joined, Further, NoLinks}
use Rattle.wquery.specs.Tree.{trees, keys, own_window, same_kind, is_chain, lengthened, joined}
use Rattle.wtokens.specs.Notation.{Tokens, Row, Listed, Chain}
use Rattle.wexpressions.specs.Grammar.{key, window, window_inside, optional_over, arguments, optional_filter, call}
use Rattle.wexpressions.specs.Grammar.{column_or_call, column, grouping_call, primary, sign_row, range_test, range_row}
use Rattle.wexpressions.specs.Grammar.{comparison_row, test_row, negation_row, Rank, ChainRank, NegationRank, SignRank}
use Rattle.wexpressions.specs.Grammar.{sign_over, negation_over, operand_over, row_over, deeper, condition}
use Rattle.wexpressions.specs.Depth.{height, trees_height, links_height, given_height, filter_height, reach_height, keys_height}
use Rattle.wexpressions.proofs.Gives.{Upholds, upheld, weaker, chain_gives, joined_holds, after_gives, then_gives}
use Rattle.wexpressions.proofs.Gives.{done_gives, perhaps_gives, either_gives, room_gives, within_room, as_gives}
use Rattle.wexpressions.proofs.Gives.{closed_gives, any_gives, listed_gives, none_gives}

-- heights within a bound
abbrev pub AtMost : ℕ → Tree → Type 0
AtMost k t = height t ≤ k

abbrev AreAtMost : ℕ → List Tree → Type 0
AreAtMost k l = trees_height (trees l) ≤ k

abbrev IsKeyAtMost : ℕ → KeyTree → Type 0
IsKeyAtMost k x = height x.expression ≤ k

abbrev pub AreKeysAtMost : ℕ → List KeyTree → Type 0
AreKeysAtMost k l = keys_height (keys l) ≤ k

abbrev pub IsWindowAtMost : ℕ → WindowTree → Type 0
IsWindowAtMost k w = reach_height (own_window w) ≤ k

abbrev IsReachAtMost : ℕ → Reach → Type 0
IsReachAtMost k r = reach_height r ≤ k

abbrev IsGivenAtMost : ℕ → Given → Type 0
IsGivenAtMost k g = given_height g ≤ k

abbrev IsFilterAtMost : ℕ → Filter → Type 0
IsFilterAtMost k f = filter_height f ≤ k

pub one_more : {a k j : ℕ} → suc k ≤ j → a ≤ k → suc a ≤ j
one_more le a = omega arith

pub no_less : {a k j : ℕ} → k ≤ j → a ≤ k → a ≤ j
no_less le a = omega arith

pub nothing : {k : ℕ} → 0 ≤ k
nothing = omega arith

leaf : {k j : ℕ} → suc k ≤ j → 1 ≤ j
leaf le = omega arith

more : {k j : ℕ} {P : Row Tree} → k ≤ j → Upholds (AtMost k) P → Upholds (AtMost j) P
more le u = weaker (λ x h. no_less le h) u

list_high : {k : ℕ} {P : Row Tree} → Upholds (AtMost k) P → Upholds (AreAtMost k) (Listed P)
list_high {k = k} u = listed_gives (AreAtMost k) nothing (λ x xs a b. max-le a b) u

pub keys_high : {k : ℕ} {P : Row KeyTree} → Upholds (IsKeyAtMost k) P → Upholds (AreKeysAtMost k) (Listed P)
keys_high {k = k} u = listed_gives (AreKeysAtMost k) nothing (λ x xs a b. max-le a b) u

-- chains: an operand, or a chain of this kind that is one higher
data Reached (kind : ChainKind) (k : ℕ) (t : Tree) : Type 0 where
  operand : height t ≤ k → Reached kind k t
  chained : is_chain kind t ≡ true → height t ≤ suc k → Reached kind k t

reached_high : {kind : ChainKind} {k : ℕ} {t : Tree} → Reached kind k t → height t ≤ suc k
reached_high (operand h) = omega arith
reached_high (chained e h) = h

pub same_self : (kind : ChainKind) → same_kind kind kind ≡ true
same_self Disjunction = refl
same_self Conjunction = refl
same_self Sum = refl
same_self Product = refl

longer : (f l o k : ℕ) → suc (max f l) ≤ suc k → o ≤ k → suc (max f (max l o)) ≤ suc k
longer f l o k a b =
    let p : f ≤ k = omega (arith, le-max_left f l) in
    let q : l ≤ k = omega (arith, le-max_right f l) in
    let r : max f (max l o) ≤ k = max-le p (max-le q b) in
    omega arith

lengthened_high : (t : Tree) (operator : Operator) (o : Tree) (k : ℕ) → height t ≤ suc k → height o ≤ k
    → height (lengthened t operator o) ≤ suc k
lengthened_high (Joined j f links) operator o k a b = longer (height f) (links_height links) (height o) k a b
lengthened_high _ operator o k a b = a

lengthened_chain : (kind : ChainKind) (t : Tree) (operator : Operator) (o : Tree) → is_chain kind (lengthened t operator o)
    ≡ is_chain kind t
lengthened_chain kind (Joined j f links) operator o = refl
lengthened_chain kind _ operator o = refl

not_both : {b : Bool} → b ≡ true → b ≡ false → ⊥
not_both e f = cc

new_chain : {kind : ChainKind} {k : ℕ} (t : Tree) (operator : Operator) (o : Tree) → Reached kind k t
    → is_chain kind t ≡ false → height o ≤ k → height (Joined kind t (Further NoLinks operator o)) ≤ suc k
new_chain t operator o (operand h) e b = one_more (omega arith) (max-le h (max-le nothing b))
new_chain t operator o (chained f h) e b = absurd (not_both f e)

joined_high : (kind : ChainKind) (t : Tree) (operator : Operator) (o : Tree) (k : ℕ) → Reached kind k t → height o ≤ k
    → Reached kind k (joined kind t operator o)
joined_high kind t operator o k a b =
    joined_holds (Reached kind k) kind t operator o (λ e. chained (lengthened_chain kind t operator o ∙ e)
    (lengthened_high t operator o k (reached_high a) b)) (λ e. chained (same_self kind) (new_chain t operator o a e b))

chain_high : {kind : ChainKind} {k j : ℕ} {P : Row Tree} → suc k ≤ j → Upholds (AtMost k) P → Upholds (AtMost j) (Chain kind P)
chain_high {kind = kind} {k = k} le u =
    weaker (λ t h. no_less le (reached_high h)) (chain_gives (Reached kind k) (λ t h. operand h)
    (λ t operator o e a b. joined_high kind t operator o k a b) u)

-- the rows of expressions
pub key_high : {k : ℕ} {C : Row Tree} → Upholds (AtMost k) C → Upholds (IsKeyAtMost k) (key C)
key_high {k = k} u = then_gives (AtMost k) u (λ e a. then_gives (λ (d : Bool). Unit {0}) any_gives
    (λ d i. then_gives (λ n. Unit {0}) any_gives (λ n j. done_gives a)))

window_high : {k : ℕ} {C : Row Tree} → Upholds (AtMost k) C → Upholds (IsWindowAtMost k) (window C)
window_high {k = k} u =
    then_gives (λ c. Unit {0}) any_gives
    (λ c i. then_gives (AreAtMost k) (perhaps_gives nothing (after_gives (after_gives (list_high u)))) (λ p a.
    then_gives (AreKeysAtMost k) (perhaps_gives nothing (after_gives (after_gives (keys_high (key_high u))))) (λ o b.
    then_gives (λ f. Unit {0}) any_gives (λ f j. done_gives (max-le a b)))))

pub inside_high : {n k : ℕ} {C : Row Tree} → Upholds (AtMost k) C → Upholds (IsWindowAtMost k) (window_inside n C)
inside_high u = either_gives (after_gives (done_gives (max-le nothing nothing))) (room_gives (closed_gives (window_high u)))

reaching_high : {n k : ℕ} {C : Row Tree} → Upholds (AtMost k) C → Upholds (IsReachAtMost k) (optional_over n C)
reaching_high {k = k} u = perhaps_gives nothing
    (after_gives (either_gives (as_gives (λ (x : List ℕ). Unit {0}) any_gives (λ x i. nothing))
    (after_gives (as_gives (IsWindowAtMost k) (inside_high u) (λ w a. a)))))

arguments_high : {n k : ℕ} {C : Row Tree} → Upholds (AtMost k) C → Upholds (IsGivenAtMost k) (arguments n C)
arguments_high {k = k} u = either_gives (after_gives (done_gives nothing))
    (either_gives (after_gives (room_gives (after_gives (done_gives nothing))))
    (as_gives (AreAtMost k) (closed_gives (list_high u)) (λ l a. a)))

filtered_high : {k : ℕ} {C : Row Tree} → Upholds (AtMost k) C → Upholds (IsFilterAtMost k) (optional_filter C)
filtered_high {k = k} u = perhaps_gives nothing (after_gives (after_gives (after_gives (as_gives (AtMost k) (closed_gives u) (λ e a. a)))))

call_high : {n k j : ℕ} {C : Row Tree} {name : List ℕ} → suc k ≤ j → Upholds (AtMost k) C → Upholds (AtMost j) (call n C name)
call_high {k = k} le u = then_gives (IsGivenAtMost k) (arguments_high u) (λ g a. then_gives (IsFilterAtMost k)
    (filtered_high u) (λ f b. then_gives (IsReachAtMost k) (reaching_high u) (λ r c. done_gives (one_more le (max-le a (max-le b c))))))

named_high : {n k j : ℕ} {C : Row Tree} {name : List ℕ} → suc k ≤ j → Upholds (AtMost k) C → Upholds (AtMost j) (column_or_call n C name)
named_high le u = perhaps_gives (leaf le)
    (either_gives (after_gives (as_gives (λ (x : List ℕ). Unit {0}) any_gives (λ x i. leaf le))) (after_gives (call_high le u)))

pub column_high : {k : ℕ} → 1 ≤ k → Upholds (AtMost k) column
column_high le = then_gives (λ (x : List ℕ). Unit {0}) any_gives
    (λ x i. perhaps_gives le (after_gives (as_gives (λ (y : List ℕ). Unit {0}) any_gives (λ y j. le))))

call_of_columns : (n j : ℕ) → suc n ≤ j → suc (max n (max 0 0)) ≤ j
call_of_columns n j a = let h : max n (max 0 0) ≤ n = max-le (omega arith) (max-le nothing nothing) in omega arith

columns_at_most : {j : ℕ} → 2 ≤ j → Upholds (λ (l : List Tree). suc (trees_height (trees l)) ≤ j) (Listed column)
columns_at_most le = weaker (λ l h. one_more le h) (list_high {k = 1} (column_high (omega arith)))

grouping_call_high : {n j : ℕ} → (0 < n → 2 ≤ j) → Upholds (AtMost j) (grouping_call n)
grouping_call_high {j = j} le = after_gives (as_gives (λ (l : List Tree). suc (trees_height (trees l)) ≤ j)
    (within_room (λ lt. closed_gives (columns_at_most (le lt)))) (λ l a. call_of_columns (trees_height (trees l)) j a))

primary_high : {n k j : ℕ} {C : Row Tree} → suc k ≤ j → (0 < n → 2 ≤ j) → Upholds (AtMost k) C → Upholds (AtMost j) (primary n C)
primary_high le wide u =
    either_gives (as_gives (λ (x : ℕ). Unit {0}) any_gives (λ x i. leaf le))
    (either_gives (as_gives (λ (x : List ℕ). Unit {0}) any_gives (λ x i. leaf le)) (either_gives (after_gives (done_gives (leaf le)))
    (either_gives (then_gives (λ (x : List ℕ). Unit {0}) any_gives (λ x i. named_high le u))
    (either_gives (after_gives (grouping_call_high wide)) (after_gives (closed_gives (more (omega arith) u)))))))

signing_high : {k j : ℕ} {U P : Row Tree} → suc k ≤ j → Upholds (AtMost k) U → Upholds (AtMost j) P → Upholds (AtMost j) (sign_row U P)
signing_high {k = k} le u p = either_gives (then_gives (λ (m : Bool). Unit {0}) any_gives
    (λ m i. as_gives (AtMost k) u (λ e a. one_more le a))) p

test_high : {i k j : ℕ} {A U : Row Tree} {e : Tree} {b : Bool} → suc k ≤ j → i ≤ k → height e ≤ k → Upholds (AtMost k) A
    → Upholds (AtMost i) U → Upholds (AtMost j) (range_test A U e b)
test_high {i = i} {k = k} le up h a u =
    either_gives (after_gives (then_gives (AtMost k) a
    (λ low x. after_gives (as_gives (AtMost k) a (λ high y. one_more le (max-le h (max-le x y)))))))
    (after_gives (after_gives (as_gives (AreAtMost i) (closed_gives (list_high u)) (λ l x. one_more le (max-le h (no_less up x))))))

ranging_high : {i k j : ℕ} {A U : Row Tree} → suc k ≤ j → i ≤ k → Upholds (AtMost k) A → Upholds (AtMost i) U
    → Upholds (AtMost j) (range_row A U)
ranging_high {k = k} le up a u = then_gives (AtMost k) a (λ e h. perhaps_gives (no_less (omega arith) h)
    (then_gives (λ (b : Bool). Unit {0}) any_gives (λ b i. test_high le up h a u)))

comparing_high : {k j : ℕ} {R : Row Tree} → suc k ≤ j → Upholds (AtMost k) R → Upholds (AtMost j) (comparison_row R)
comparing_high {k = k} le r = then_gives (AtMost k) r (λ l h. perhaps_gives (no_less (omega arith) h)
    (then_gives (λ c. Unit {0}) any_gives (λ c i. as_gives (AtMost k) r (λ x g. one_more le (max-le h g)))))

testing_high : {k j : ℕ} {R : Row Tree} → suc k ≤ j → Upholds (AtMost k) R → Upholds (AtMost j) (test_row R)
testing_high {k = k} le r = then_gives (AtMost k) r (λ e h. perhaps_gives (no_less (omega arith) h)
    (after_gives (then_gives (λ (b : Bool). Unit {0}) any_gives (λ b i. after_gives (done_gives (one_more le h))))))

negating_high : {k j : ℕ} {U T : Row Tree} → suc k ≤ j → Upholds (AtMost k) U → Upholds (AtMost j) T → Upholds (AtMost j) (negation_row U T)
negating_high {k = k} le u t = either_gives (after_gives (as_gives (AtMost k) u (λ e a. one_more le a))) t

module _ (n k : ℕ) (wide : 0 < n → 0 < k) (U : Rank → Row Tree) (u : (rank : Rank) → Upholds (AtMost k) (U rank)) where
  signs_high : Upholds (AtMost (k + 1)) (sign_over n U)
  signs_high = signing_high (omega arith) (u SignRank) (primary_high (omega arith) (λ lt. let w = wide lt in
      omega (arith, w)) (u (ChainRank Disjunction)))

  sums_high : Upholds (AtMost (k + 3)) (Chain Sum (Chain Product (sign_over n U)))
  sums_high = chain_high {k = k + 2} (omega arith) (chain_high (omega arith) signs_high)

  negations_high : Upholds (AtMost (k + 6)) (negation_over n U)
  negations_high = negating_high (omega arith) (u NegationRank) (testing_high {k = k + 5} (omega arith) (comparing_high {k =
      k + 4} (omega arith) (ranging_high (omega arith) (omega arith) sums_high (u (ChainRank Sum)))))

  operands_high : (kind : ChainKind) → Upholds (AtMost (k + 7)) (operand_over n U kind)
  operands_high Disjunction = chain_high (omega arith) negations_high
  operands_high Conjunction = more (omega arith) negations_high
  operands_high Sum = chain_high (omega arith) signs_high
  operands_high Product = more (omega arith) signs_high

  row_high : (rank : Rank) → Upholds (AtMost (k + 8)) (row_over n U rank)
  row_high (ChainRank kind) = chain_high (omega arith) (operands_high kind)
  row_high NegationRank = more (omega arith) negations_high
  row_high SignRank = more (omega arith) signs_high

pub deeper_high : (n : ℕ) (rank : Rank) → Upholds (AtMost (8 * n)) (deeper n rank)
unfolding deeper
deeper_high zero rank = none_gives (λ y ts rest p. p)
deeper_high (suc n) rank = more (omega arith) (row_high n (8 * n) (λ lt. omega (arith, lt)) (deeper n) (deeper_high n) rank)

pub conditions_high : (n : ℕ) → Upholds (AtMost (8 * n + 8)) (condition n)
conditions_high n = row_high n (8 * n) (λ lt. omega (arith, lt)) (deeper n) (deeper_high n) (ChainRank Disjunction)

pub bounded_height : (n : ℕ) (t : Tree) (ts rest : Tokens) → condition n t ts rest → height t ≤ 8 * (n + 1)
bounded_height n t ts rest p = let le = upheld (conditions_high n) t ts rest p in omega arith
