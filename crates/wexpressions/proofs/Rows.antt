-- Chains of operands.
use Rattle.std.proofs.Common.{◌≡◌, ℕ, ◌<◌, ◌∷◌, Some, refl, subst, arith}
use Rattle.wlexer.specs.Token.{TokenMeaning, KeywordToken, SymbolToken}
use Rattle.wlexer.specs.declared.keyword.Keyword.TheVariants as keywords
use Rattle.wlexer.specs.declared.token.Symbol.TheVariants as symbols
use Rattle.wexpressions.specs.declared.fault.ParseFault.{ParseFault}
use Rattle.wquery.specs.declared.expression.ChainKind.{ChainKind}
use Rattle.wquery.specs.declared.expression.ChainKind.TheVariants.{Disjunction, Conjunction, Sum, Product}
use Rattle.wquery.specs.declared.expression.Operator.{Operator}
use Rattle.wquery.specs.declared.expression.Comparison.{Comparison}
use Rattle.wquery.specs.Tree.{Tree, joined}
use Rattle.wtokens.specs.Words.{operator_of, comparison_of}
use Rattle.wtokens.specs.Notation.{Tokens, Row, One, one, Then, before, GoesOn, ended, further, Chain, chaining, Never}
use Rattle.wexpressions.specs.Grips.{grip, Stops, kind_class, operand_class}
use Rattle.wexpressions.specs.Finding.{Outcome, Got, Refused, Short, failed, IsRead, Agrees, Answers}
use Rattle.wexpressions.proofs.Steps.{stops_more, Leads, through, never, along, then_got, then_refused, tails, moved, failed_agrees}

pub operator_grip : (kind : ChainKind) (token : TokenMeaning) (operator : Operator) → operator_of kind token ≡ Some operator
    → grip token ≡ kind_class kind
operator_grip Disjunction (KeywordToken keywords.Or) o e = refl
operator_grip Conjunction (KeywordToken keywords.And) o e = refl
operator_grip Sum (SymbolToken symbols.Plus) o e = refl
operator_grip Sum (SymbolToken symbols.Minus) o e = refl
operator_grip Product (SymbolToken symbols.Asterisk) o e = refl
operator_grip _ _ o e = cc

pub class_rises : (kind : ChainKind) → kind_class kind < operand_class kind
class_rises Disjunction = omega arith
class_rises Conjunction = omega arith
class_rises Sum = omega arith
class_rises Product = omega arith

goes_stops : {kind : ChainKind} {P : Row Tree} {first : Tree} (y : Tree) (ts rest : Tokens) → GoesOn kind P first y ts rest
    → Stops (kind_class kind) rest → Stops (operand_class kind) ts
goes_stops {kind = kind} y ts rest ended h = stops_more (omega (arith, class_rises kind)) rest h
goes_stops {kind = kind} y ts rest (further {token = token} {operator = operator} e p g) h =
    omega (arith, class_rises kind, operator_grip kind token operator e)

pub goes_leads : {kind : ChainKind} {P : Row Tree} {first : Tree} → Leads (GoesOn kind P first) (kind_class kind) (operand_class kind)
goes_leads = record { stops = goes_stops }

to_chain : {kind : ChainKind} {P : Row Tree} (y : Tree) (ts rest : Tokens) → Then P (GoesOn kind P) y ts rest → Chain kind P y ts rest
to_chain y ts rest (before p g) = chaining p g

of_chain : {kind : ChainKind} {P : Row Tree} (y : Tree) (ts rest : Tokens) → Chain kind P y ts rest → Then P (GoesOn kind P) y ts rest
of_chain y ts rest (chaining p g) = before p g

chain_answers : {kind : ChainKind} {P : Row Tree} {k : ℕ} {ts : Tokens} {o : Outcome Tree}
    → Answers (Then P (GoesOn kind P)) k ts o → Answers (Chain kind P) k ts o
chain_answers {ts = ts} a = through (λ x rest p. to_chain x ts rest p) (λ x rest p h. (of_chain x ts rest p, h)) a

pub chain_refused : {kind : ChainKind} {P : Row Tree} {ts : Tokens} (f : ParseFault)
    → Answers P (operand_class kind) ts (failed f) → Answers (Chain kind P) (kind_class kind) ts (failed f)
chain_refused f a = chain_answers (then_refused f (λ x. goes_leads) a)

pub chain_got : {kind : ChainKind} {P : Row Tree} {ts us : Tokens} {first : Tree} {o : Outcome Tree}
    → Answers P (operand_class kind) ts (Got first us) → Answers (GoesOn kind P first) (kind_class kind) us o
    → Answers (Chain kind P) (kind_class kind) ts o
chain_got a b = chain_answers (then_got (λ x. goes_leads) a b)

-- a chain that ends
over_only : {kind : ChainKind} {P : Row Tree} {first y : Tree} {ts rest : Tokens} → Never (One (operator_of kind)) ts
    → GoesOn kind P first y ts rest → (first ≡ y) × (ts ≡ rest)
over_only g ended = (refl, refl)
over_only g (further e p q) = absurd (g _ _ (one e))

pub goes_over : {kind : ChainKind} {P : Row Tree} {k : ℕ} {first : Tree} {ts : Tokens} → Never (One (operator_of kind)) ts
    → Answers (GoesOn kind P first) k ts (Got first ts)
goes_over g = record { found = ended; only = λ y rest p h. over_only g p }

-- a chain with one more operand
heads : {a b : TokenMeaning} {xs ys : Tokens} → a ∷ xs ≡ b ∷ ys → a ≡ b
heads e = cc

joined_along : (kind : ChainKind) (first : Tree) {token token' : TokenMeaning} {o o' : Tree} {a b : Operator}
    → operator_of kind token ≡ Some a → operator_of kind token' ≡ Some b → token' ≡ token → o ≡ o'
    → joined kind first a o ≡ joined kind first b o'
joined_along _ _ p q e f = cc

further_only : {kind : ChainKind} {P : Row Tree} {token : TokenMeaning} {operator : Operator} {first operand : Tree}
    {us vs : Tokens} {o : Outcome Tree} → operator_of kind token ≡ Some operator
    → Answers P (operand_class kind) us (Got operand vs) → Answers (GoesOn kind P (joined kind first operator operand))
    (kind_class kind) vs o → (ts : Tokens) → ts ≡ token ∷ us → (y : Tree) (rest : Tokens)
    → GoesOn kind P first y ts rest → Stops (kind_class kind) rest → Agrees o y rest
further_only {kind = kind} {token = token} {operator = operator} {us = us} e a b ts q y rest ended h =
    let g : Stops (kind_class kind) (token ∷ us) = subst (λ (z : Tokens). Stops (kind_class kind) z) q h in
    absurd (omega (arith, operator_grip kind token operator e))
further_only {kind = kind} {P = P} {first = first} e a b ts q y rest (further {token = token'} {operand = operand'} {ts =
    us'} {us = vs'} e' p' g') h =
    let r = a.only operand' vs' (subst (λ (z : Tokens). P operand' z vs') (tails q) p') (goes_stops y vs' rest g' h) in
    b.only y rest (moved (λ (t : Tree). GoesOn kind P t) (joined_along kind first e e' (heads q) r.0) r.1 g') h

further_read : (kind : ChainKind) (P : Row Tree) (token : TokenMeaning) (first : Tree) {operator : Operator}
    {operand : Tree} {us vs : Tokens} → operator_of kind token ≡ Some operator → P operand us vs → (o : Outcome Tree)
    → IsRead (GoesOn kind P (joined kind first operator operand)) vs o → IsRead (GoesOn kind P first) (token ∷ us) o
further_read kind P token first e p (Got y rest) g = further e p g
further_read kind P token first e p Refused g = tt
further_read kind P token first e p Short g = tt

pub goes_further : {kind : ChainKind} {P : Row Tree} {token : TokenMeaning} {operator : Operator} {first operand : Tree}
    {us vs : Tokens} {o : Outcome Tree} → operator_of kind token ≡ Some operator
    → Answers P (operand_class kind) us (Got operand vs) → Answers (GoesOn kind P (joined kind first operator operand))
    (kind_class kind) vs o → Answers (GoesOn kind P first) (kind_class kind) (token ∷ us) o
goes_further {kind = kind} {P = P} {token = token} {first = first} {us = us} {o = o} e a b =
    record { found = further_read kind P token first e a.found o b.found; only = further_only e a b (token ∷ us) refl }

further_fails : {kind : ChainKind} {P : Row Tree} {token : TokenMeaning} {operator : Operator} {first : Tree} {us : Tokens}
    (f : ParseFault) → operator_of kind token ≡ Some operator → Answers P (operand_class kind) us (failed f) → (ts : Tokens)
    → ts ≡ token ∷ us → (y : Tree) (rest : Tokens) → GoesOn kind P first y ts rest → Stops (kind_class kind) rest
    → Agrees {X = Tree} (failed f) y rest
further_fails {kind = kind} {token = token} {operator = operator} {us = us} f e a ts q y rest ended h =
    let g : Stops (kind_class kind) (token ∷ us) = subst (λ (z : Tokens). Stops (kind_class kind) z) q h in
    absurd (omega (arith, operator_grip kind token operator e))
further_fails {P = P} f e a ts q y rest (further {operand = operand'} {ts = us'} {us = vs'} e' p' g') h =
    failed_agrees f operand' y vs' rest (a.only operand' vs' (subst (λ (z : Tokens). P operand' z vs') (tails q) p')
    (goes_stops y vs' rest g' h))

pub goes_refused : {kind : ChainKind} {P : Row Tree} {token : TokenMeaning} {operator : Operator} {first : Tree}
    {us : Tokens} (f : ParseFault) → operator_of kind token ≡ Some operator → Answers P (operand_class kind) us (failed f)
    → Answers (GoesOn kind P first) (kind_class kind) (token ∷ us) (failed f)
goes_refused {token = token} {us = us} f e a = never f (further_fails f e a (token ∷ us) refl)

-- what a loop over the operands keeps: what is left decides the outcome of all
pub record Going (kind : ChainKind) (P : Row Tree) (ts : Tokens) (first : Tree) (left : Tokens) (tree : Tree) : Type 0 where
  pub go : (o : Outcome Tree) → Answers (GoesOn kind P tree) (kind_class kind) left o → Answers (GoesOn kind P first) (kind_class kind) ts o

one_begins : (kind : ChainKind) {operator : Operator} {ts us : Tokens} → One (operator_of kind) operator ts us
    → (token : TokenMeaning) × (ts ≡ token ∷ us) × (operator_of kind token ≡ Some operator)
one_begins kind (one {token = token} e) = (token, refl, e)

pub going_more : {kind : ChainKind} {P : Row Tree} {ts left us vs : Tokens} {first tree new operand : Tree}
    {operator : Operator} → Going kind P ts first left tree → One (operator_of kind) operator left us
    → Answers P (operand_class kind) us (Got operand vs) → new ≡ joined kind tree operator operand → Going kind P ts first vs new
going_more {kind = kind} {P = P} {vs = vs} inv p a n = let e = one_begins kind p in record {
  go = λ o b.
      inv.go o (along e.1 (goes_further e.2 a (subst (λ (t : Tree). Answers (GoesOn kind P t) (kind_class kind) vs o) n b)));
}

pub going_refused : {kind : ChainKind} {P : Row Tree} {ts left us : Tokens} {first tree : Tree} {operator : Operator}
    (f : ParseFault) → Going kind P ts first left tree → One (operator_of kind) operator left us
    → Answers P (operand_class kind) us (failed f) → Answers (GoesOn kind P first) (kind_class kind) ts (failed f)
going_refused {kind = kind} f inv p a = let e = one_begins kind p in inv.go (failed f) (along e.1 (goes_refused f e.2 a))

pub going_over : {kind : ChainKind} {P : Row Tree} {ts left : Tokens} {first tree : Tree} → Going kind P ts first left tree
    → Never (One (operator_of kind)) left → Answers (GoesOn kind P first) (kind_class kind) ts (Got tree left)
going_over {left = left} {tree = tree} inv g = inv.go (Got tree left) (goes_over g)

pub comparison_grip : (token : TokenMeaning) (comparison : Comparison) → comparison_of token ≡ Some comparison → grip token ≡ 23
comparison_grip (SymbolToken symbols.Equal) c e = refl
comparison_grip (SymbolToken symbols.NotEqual) c e = refl
comparison_grip (SymbolToken symbols.Less) c e = refl
comparison_grip (SymbolToken symbols.LessOrEqual) c e = refl
comparison_grip (SymbolToken symbols.Greater) c e = refl
comparison_grip (SymbolToken symbols.GreaterOrEqual) c e = refl
comparison_grip _ c e = cc
