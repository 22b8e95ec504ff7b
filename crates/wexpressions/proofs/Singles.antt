-- No list of tokens is read in two ways.
use Rattle.std.proofs.Common.{◌≡◌, Bool, ℕ, zero, suc, ◌<◌, ◌≤◌, List, ◌∷◌, Option, Some, refl, sym, arith}
use Rattle.wlexer.specs.Token.{TokenMeaning, KeywordToken, SymbolToken}
use Rattle.wlexer.specs.declared.keyword.Keyword.TheVariants as keywords
use Rattle.wlexer.specs.declared.token.Symbol.{Symbol}
use Rattle.wquery.specs.declared.expression.ChainKind.{ChainKind}
use Rattle.wquery.specs.declared.expression.ChainKind.TheVariants.{Disjunction, Conjunction, Sum, Product}
use Rattle.wquery.specs.declared.expression.Comparison.{Comparison}
use Rattle.wquery.specs.declared.frame.FrameBound.{FrameBound}
use Rattle.wquery.specs.declared.frame.FrameMode.{FrameMode}
use Rattle.wquery.specs.Tree.{Tree, WindowTree, joined, no_window}
use Rattle.wtokens.specs.Words.{CommaSign, CloseSign, name_of, mode_of, direction_of, comparison_of, operator_of}
use Rattle.wtokens.specs.Notation.{Tokens, Row, One, one, After, after, Then, before, Done, done, Perhaps, absent, present, Either, first}
use Rattle.wtokens.specs.Notation.{second, Room, room, Listed, last, next, GoesOn, ended, further, Chain, chaining, As, Never}
use Rattle.wexpressions.specs.Grammar.{Closed, toward, bound, extent, exclusion, optional_exclusion, frame, key, partition, order, window}
use Rattle.wexpressions.specs.Grammar.{window_inside, over, optional_over, arguments, optional_filter, call, column_or_call, column}
use Rattle.wexpressions.specs.Grammar.{columns_closed, grouping_call, primary, range_test, optional_not, range_row, comparison_row}
use Rattle.wexpressions.specs.Grammar.{test_row, sign_row, optional_frame, nulls_placed, Rank, ChainRank, NegationRank, SignRank}
use Rattle.wexpressions.specs.Grammar.{sign_over, sum_over, comparison_over, negation_over, operand_over, row_over, deeper, condition}
use Rattle.wexpressions.specs.Grips.{grip, Stops, kind_class, operand_class}
use Rattle.wexpressions.specs.Finding.{Got, Answers}
use Rattle.wexpressions.proofs.Steps.{Leads, stops_more, answers_less, grips, other_token, not_said, never_either, never_listed}
use Rattle.wexpressions.proofs.Steps.{one_parts, then_got, perhaps_present, perhaps_absent, after_got, after_leads, either_first}
use Rattle.wexpressions.proofs.Steps.{either_second, done_got, done_leads, one_got, any_leads, never_then, room_answers, listed_last}
use Rattle.wexpressions.proofs.Steps.{listed_next}
use Rattle.wexpressions.proofs.Rows.{goes_leads, goes_over, goes_further, chain_got, operator_grip, comparison_grip}
use Rattle.wexpressions.proofs.Fits.{Begins, begins_not, symbol_start, primary_no_sign, tests_begin, inner_begins}
use Rattle.wexpressions.proofs.Parts.{name_here, text_here, number_here, name_grip, mode_grip, direction_grip, null_tested_leads}
use Rattle.wexpressions.proofs.Parts.{compared_leads, test_leads, tested_leads, call_leads, key_leads, key_leads_nulls}
use Rattle.wexpressions.proofs.Parts.{window_leads_parts, window_leads_order, window_leads_frame, window_empty}

-- what a row reads, where it may end, is all that it reads
pub record Single {X : Type 0} (k : ℕ) (P : Row X) : Type 0 where
  pub single : (x : X) (ts rest : Tokens) → P x ts rest → Stops k rest → Answers P k ts (Got x rest)

pub single_less : {X : Type 0} {j k : ℕ} {P : Row X} → k ≤ j → Single j P → Single k P
single_less le u = record { single = λ x ts rest p h. answers_less le (u.single x ts rest p (stops_more le rest h)) }

pub one_single : {X : Type 0} {k : ℕ} {says : TokenMeaning → Option X} → Single k (One says)
one_single = record { single = λ x ts rest p h. one_got p }

after_single' : {X : Type 0} {k : ℕ} {token : TokenMeaning} {P : Row X} → Single k P → (x : X) (ts rest : Tokens)
    → After token P x ts rest → Stops k rest → Answers (After token P) k ts (Got x rest)
after_single' u x ts rest (after {ts = us} p) h = after_got refl (u.single x us rest p h)

pub after_single : {X : Type 0} {k : ℕ} {token : TokenMeaning} {P : Row X} → Single k P → Single k (After token P)
after_single u = record { single = after_single' u }

then_single' : {X Y : Type 0} {j k : ℕ} {P : Row X} {Q : X → Row Y} → ((x : X) → Leads (Q x) k j) → Single j P
    → ((x : X) → Single k (Q x)) → (y : Y) (ts rest : Tokens) → Then P Q y ts rest → Stops k rest → Answers (Then P Q) k ts (Got y rest)
then_single' l u v y ts rest (before {x = x} {us = us} p q) h = then_got l (u.single x ts us p ((l x).stops y us rest q h))
    ((v x).single y us rest q h)

pub then_single : {X Y : Type 0} {j k : ℕ} {P : Row X} {Q : X → Row Y} → ((x : X) → Leads (Q x) k j) → Single j P
    → ((x : X) → Single k (Q x)) → Single k (Then P Q)
then_single l u v = record { single = then_single' l u v }

done_single' : {X : Type 0} {k : ℕ} {x : X} (y : X) (ts rest : Tokens) → Done x y ts rest → Stops k rest
    → Answers (Done x) k ts (Got y rest)
done_single' y ts rest done h = done_got

pub done_single : {X : Type 0} {k : ℕ} {x : X} → Single k (Done x)
done_single = record { single = done_single' }

pub as_single : {X Y : Type 0} {k : ℕ} {f : X → Y} {P : Row X} → Single k P → Single k (As f P)
as_single u = then_single (λ x. done_leads (omega arith)) u (λ x. done_single)

-- the first token of the row is one that goes on
pub record Gripping {X : Type 0} (k : ℕ) (P : Row X) : Type 0 where
  pub gripped : (x : X) (ts rest : Tokens) → P x ts rest → Stops k ts → ⊥

perhaps_single' : {X : Type 0} {k : ℕ} {d : X} {P : Row X} → Gripping k P → Single k P → (x : X) (ts rest : Tokens)
    → Perhaps d P x ts rest → Stops k rest → Answers (Perhaps d P) k ts (Got x rest)
perhaps_single' g u x ts rest absent h = perhaps_absent (λ y r p. g.gripped y ts r p h)
perhaps_single' g u x ts rest (present p) h = perhaps_present (g.gripped x ts rest p) (u.single x ts rest p h)

pub perhaps_single : {X : Type 0} {k : ℕ} {d : X} {P : Row X} → Gripping k P → Single k P → Single k (Perhaps d P)
perhaps_single g u = record { single = perhaps_single' g u }

after_grips' : {X : Type 0} {k : ℕ} {token : TokenMeaning} {P : Row X} → k ≤ grip token → (x : X) (ts rest : Tokens)
    → After token P x ts rest → Stops k ts → ⊥
after_grips' le x ts rest (after p) h = omega arith

pub after_grips : {X : Type 0} {k : ℕ} {token : TokenMeaning} {P : Row X} → k ≤ grip token → Gripping k (After token P)
after_grips le = record { gripped = after_grips' le }

one_grips' : {X : Type 0} {k : ℕ} {says : TokenMeaning → Option X} → ((token : TokenMeaning) (x : X) → says token ≡ Some x
    → k ≤ grip token) → (x : X) (ts rest : Tokens) → One says x ts rest → Stops k ts → ⊥
one_grips' g x ts rest (one {token = token} e) h = let le = g token x e in omega arith

pub one_grip : {X : Type 0} {k : ℕ} {says : TokenMeaning → Option X} → ((token : TokenMeaning) (x : X) → says token ≡ Some x
    → k ≤ grip token) → Gripping k (One says)
one_grip g = record { gripped = one_grips' g }

then_grips' : {X Y : Type 0} {k : ℕ} {P : Row X} {Q : X → Row Y} → Gripping k P → (y : Y) (ts rest : Tokens)
    → Then P Q y ts rest → Stops k ts → ⊥
then_grips' g y ts rest (before {x = x} {us = us} p q) h = g.gripped x ts us p h

pub then_grips : {X Y : Type 0} {k : ℕ} {P : Row X} {Q : X → Row Y} → Gripping k P → Gripping k (Then P Q)
then_grips g = record { gripped = then_grips' g }

perhaps_then_grips' : {X Y : Type 0} {k : ℕ} {d : X} {P : Row X} {Q : X → Row Y} → Gripping k P
    → ((x : X) → Gripping k (Q x)) → (y : Y) (ts rest : Tokens) → Then (Perhaps d P) Q y ts rest → Stops k ts → ⊥
perhaps_then_grips' {d = d} g f y ts rest (before absent q) h = (f d).gripped y ts rest q h
perhaps_then_grips' g f y ts rest (before {x = x} {us = us} (present p) q) h = g.gripped x ts us p h

pub perhaps_then_grips : {X Y : Type 0} {k : ℕ} {d : X} {P : Row X} {Q : X → Row Y} → Gripping k P
    → ((x : X) → Gripping k (Q x)) → Gripping k (Then (Perhaps d P) Q)
perhaps_then_grips g f = record { gripped = perhaps_then_grips' g f }

either_grips' : {X : Type 0} {k : ℕ} {P Q : Row X} → Gripping k P → Gripping k Q → (x : X) (ts rest : Tokens)
    → Either P Q x ts rest → Stops k ts → ⊥
either_grips' f g x ts rest (first p) h = f.gripped x ts rest p h
either_grips' f g x ts rest (second p) h = g.gripped x ts rest p h

pub either_grips : {X : Type 0} {k : ℕ} {P Q : Row X} → Gripping k P → Gripping k Q → Gripping k (Either P Q)
either_grips f g = record { gripped = either_grips' f g }

-- no tokens are read by both rows
pub record Apart {X Y : Type 0} (P : Row X) (Q : Row Y) : Type 0 where
  pub apart : (x : X) (y : Y) (ts r s : Tokens) → P x ts r → Q y ts s → ⊥

either_single' : {X : Type 0} {k : ℕ} {P Q : Row X} → Apart P Q → Single k P → Single k Q → (x : X) (ts rest : Tokens)
    → Either P Q x ts rest → Stops k rest → Answers (Either P Q) k ts (Got x rest)
either_single' a u v x ts rest (first p) h = either_first (λ y s q. a.apart x y ts rest s p q) (u.single x ts rest p h)
either_single' a u v x ts rest (second q) h = either_second (λ y s p. a.apart y x ts s rest p q) (v.single x ts rest q h)

pub either_single : {X : Type 0} {k : ℕ} {P Q : Row X} → Apart P Q → Single k P → Single k Q → Single k (Either P Q)
either_single a u v = record { single = either_single' a u v }

second_agrees : {X : Type 0} {k : ℕ} {P Q : Row X} {ts us : Tokens} {x : X} → Answers Q k ts (Got x us)
    → ((y : X) (rest : Tokens) → P y ts rest → Stops k rest → (x ≡ y) × (us ≡ rest)) → (y : X) (rest : Tokens)
    → Either P Q y ts rest → Stops k rest → (x ≡ y) × (us ≡ rest)
second_agrees a g y rest (first p) h = g y rest p h
second_agrees a g y rest (second q) h = a.only y rest q h

second_same : {X : Type 0} {k : ℕ} {P Q : Row X} {ts us : Tokens} {x : X} → Answers Q k ts (Got x us)
    → ((y : X) (rest : Tokens) → P y ts rest → Stops k rest → (x ≡ y) × (us ≡ rest)) → Answers (Either P Q) k ts (Got x us)
second_same a g = record { found = second a.found; only = second_agrees a g }

-- a row after a token, and one that never begins with it
after_apart' : {X Y : Type 0} {token : TokenMeaning} {P : Row X} {Q : Row Y} → ((ts us : Tokens) → ts ≡ token ∷ us
    → Never Q ts) → (x : X) (y : Y) (ts r s : Tokens) → After token P x ts r → Q y ts s → ⊥
after_apart' g x y ts r s (after {ts = us} p) q = g _ us refl y s q

pub after_apart : {X Y : Type 0} {token : TokenMeaning} {P : Row X} {Q : Row Y} → ((ts us : Tokens) → ts ≡ token ∷ us
    → Never Q ts) → Apart (After token P) Q
after_apart g = record { apart = after_apart' g }

-- a row of one token, and one that never begins with such a token
one_apart' : {X Y Z : Type 0} {says : TokenMeaning → Option Z} {P : Z → Row X} {Q : Row Y}
    → ((z : Z) (ts us : Tokens) → One says z ts us → Never Q ts) → (x : X) (y : Y) (ts r s : Tokens)
    → Then (One says) P x ts r → Q y ts s → ⊥
one_apart' g x y ts r s (before {x = z} {us = us} o p) q = g z ts us o y s q

pub one_apart : {X Y Z : Type 0} {says : TokenMeaning → Option Z} {P : Z → Row X} {Q : Row Y}
    → ((z : Z) (ts us : Tokens) → One says z ts us → Never Q ts) → Apart (Then (One says) P) Q
one_apart g = record { apart = one_apart' g }

room_single' : {X : Type 0} {n k : ℕ} {P : Row X} → Single k P → (x : X) (ts rest : Tokens) → Room n P x ts rest
    → Stops k rest → Answers (Room n P) k ts (Got x rest)
room_single' u x ts rest (room lt p) h = room_answers lt (u.single x ts rest p h)

pub room_single : {X : Type 0} {n k : ℕ} {P : Row X} → Single k P → Single k (Room n P)
room_single u = record { single = room_single' u }

no_comma : {ts us : Tokens} → Stops 12 ts → ts ≡ CommaSign ∷ us → ⊥
no_comma h e = grips e (omega arith) h

listed_single' : {X : Type 0} {j : ℕ} {P : Row X} → 12 < j → Single j P → (xs : List X) (ts rest : Tokens)
    → Listed P xs ts rest → Stops 12 rest → Answers (Listed P) 12 ts (Got xs rest)
listed_single' lt u xs ts rest (last {x = x} p) h = listed_last lt (u.single x ts rest p (stops_more (omega arith) rest h))
    (λ vs e. no_comma h e)
listed_single' lt u xs ts rest (next {x = x} {xs = ys} {us = us} p l) h =
    listed_next lt (u.single x ts (CommaSign ∷ us) p lt) (listed_single' lt u ys us rest l h)

pub listed_single : {X : Type 0} {j : ℕ} {P : Row X} → 12 < j → Single j P → Single 12 (Listed P)
listed_single lt u = record { single = listed_single' lt u }

pub closed_single : {X : Type 0} {j k : ℕ} {P : Row X} → 0 < j → Single j P → Single k (Closed P)
closed_single lt u = then_single (λ x. after_leads lt) u (λ x. after_single done_single)

no_operator : (kind : ChainKind) {ts : Tokens} → Stops (kind_class kind) ts → Never (One (operator_of kind)) ts
no_operator kind h x rest p = let e = one_parts p in let q = operator_grip kind e.0 x e.2 in grips e.1 (omega arith) h

goes_single : {kind : ChainKind} {P : Row Tree} → Single (operand_class kind) P → (t y : Tree) (ts rest : Tokens)
    → GoesOn kind P t y ts rest → Stops (kind_class kind) rest → Answers (GoesOn kind P t) (kind_class kind) ts (Got y rest)
goes_single {kind = kind} u t y ts rest ended h = goes_over (no_operator kind h)
goes_single {kind = kind} {P = P} u t y ts rest (further {operator = operator} {operand = o} {ts = us} {us = vs} e p g) h =
    let l : Leads (GoesOn kind P (joined kind t operator o)) (kind_class kind) (operand_class kind) = goes_leads in
    goes_further e (u.single o us vs p (l.stops y vs rest g h)) (goes_single u (joined kind t operator o) y vs rest g h)

chain_single' : {kind : ChainKind} {P : Row Tree} → Single (operand_class kind) P → (y : Tree) (ts rest : Tokens)
    → Chain kind P y ts rest → Stops (kind_class kind) rest → Answers (Chain kind P) (kind_class kind) ts (Got y rest)
chain_single' {kind = kind} {P = P} u y ts rest (chaining {first = t} {us = us} p g) h =
    let l : Leads (GoesOn kind P t) (kind_class kind) (operand_class kind) = goes_leads in
    chain_got (u.single t ts us p (l.stops y us rest g h)) (goes_single u t y us rest g h)

pub chain_single : {kind : ChainKind} {P : Row Tree} → Single (operand_class kind) P → Single (kind_class kind) (Chain kind P)
chain_single u = record { single = chain_single' u }

-- frames
toward_single : {k : ℕ} {back ahead : FrameBound} → Single k (toward back ahead)
toward_single = either_single (after_apart (λ ts us e. other_token e (λ q. cc))) (after_single done_single) (after_single done_single)

bound_single : {k : ℕ} → Single k bound
bound_single =
    either_single (after_apart (λ ts us e. never_either (other_token e (λ q. cc)) (never_then (not_said e refl))))
    (after_single toward_single)
    (either_single (after_apart (λ ts us e. never_then (not_said e refl))) (after_single (after_single done_single))
    (then_single {j = 31} (λ n. any_leads) one_single (λ n. toward_single)))

no_bound : {X : Type 0} {f : FrameBound → X} {ts us : Tokens} → ts ≡ KeywordToken keywords.Between ∷ us → Never (As f bound) ts
no_bound e = never_then (never_either (other_token e (λ q. cc)) (never_either (other_token e (λ q. cc)) (never_then (not_said e refl))))

extent_single : {k : ℕ} → Single k extent
extent_single =
    either_single (after_apart (λ ts us e. no_bound e))
    (after_single (then_single {j = 31} (λ s. any_leads) bound_single (λ s. after_single (as_single bound_single))))
    (as_single bound_single)

exclusion_single : {k : ℕ} → Single k exclusion
exclusion_single =
    either_single (after_apart (λ ts us e. never_either (other_token e (λ q. cc)) (never_either (other_token e (λ q. cc))
    (other_token e (λ q. cc))))) (after_single (after_single done_single))
    (either_single (after_apart (λ ts us e. never_either (other_token e (λ q. cc)) (other_token e (λ q. cc)))) (after_single done_single)
    (either_single (after_apart (λ ts us e. other_token e (λ q. cc))) (after_single done_single) (after_single (after_single done_single))))

excluding_single : Single 3 optional_exclusion
excluding_single = perhaps_single (then_grips (after_grips (omega arith))) (as_single (after_single exclusion_single))

frame_single : Single 3 frame
frame_single =
    then_single {j = 31} (λ m. any_leads) one_single (λ m. then_single {j = 31} (λ e. any_leads) extent_single (λ e.
    then_single {j = 3} (λ x. done_leads (omega arith)) excluding_single (λ x. done_single)))

mode_goes : (token : TokenMeaning) (x : FrameMode) → mode_of token ≡ Some x → 3 ≤ grip token
mode_goes token x e = let q = mode_grip token x e in omega arith

pub name_goes : (token : TokenMeaning) (x : List ℕ) → name_of token ≡ Some x → 14 ≤ grip token
name_goes token x e = let q = name_grip token x e in omega arith

direction_goes : (token : TokenMeaning) (x : Bool) → direction_of token ≡ Some x → 16 ≤ grip token
direction_goes token x e = let q = direction_grip token x e in omega arith

comparison_goes : (token : TokenMeaning) (x : Comparison) → comparison_of token ≡ Some x → 23 ≤ grip token
comparison_goes token x e = let q = comparison_grip token x e in omega arith

perhaps_frame_single : Single 3 optional_frame
perhaps_frame_single = perhaps_single (then_grips (then_grips (one_grip mode_goes))) (as_single frame_single)

-- keys and windows
nulls_single : Single 15 nulls_placed
nulls_single = perhaps_single (then_grips (after_grips (omega arith))) (as_single (after_single one_single))

pub key_single : {C : Row Tree} → Single 20 C → Single 15 (key C)
key_single u =
    then_single (λ e. key_leads) u (λ e. then_single (λ d. key_leads_nulls) (perhaps_single (one_grip direction_goes) one_single) (λ d.
    then_single {j = 15} (λ n. done_leads (omega arith)) nulls_single (λ n. done_single)))

partition_single : {C : Row Tree} → Single 20 C → Single 6 (partition C)
partition_single u = perhaps_single (after_grips (omega arith))
    (single_less (omega arith) (after_single (after_single (listed_single (omega arith) u))))

pub order_single : {C : Row Tree} → Single 20 C → Single 5 (order C)
order_single u = perhaps_single (after_grips (omega arith))
    (single_less (omega arith) (after_single (after_single (listed_single (omega arith) (key_single u)))))

window_single : {C : Row Tree} → Single 20 C → Single 3 (window C)
window_single u =
    then_single (λ x. window_leads_parts) (perhaps_single (then_grips (one_grip name_goes)) (as_single one_single)) (λ c.
    then_single (λ x. window_leads_order) (partition_single u) (λ p. then_single (λ x. window_leads_frame) (order_single u) (λ o.
    then_single {j = 3} (λ f. done_leads (omega arith)) perhaps_frame_single (λ f. done_single))))

close_flip : {w : WindowTree} {ts rest : Tokens} → ((us : Tokens) → ts ≡ CloseSign ∷ us → (no_window ≡ w) × (us ≡ rest))
    → (y : WindowTree) (r : Tokens) → After CloseSign (Done no_window) y ts r → (w ≡ y) × (rest ≡ r)
close_flip g y r (after {ts = us} done) = let e = g us refl in (sym e.0, sym e.1)

window_inside_single' : {n : ℕ} {C : Row Tree} → Single 20 C → (x : WindowTree) (ts rest : Tokens)
    → window_inside n C x ts rest → Stops 31 rest → Answers (window_inside n C) 31 ts (Got x rest)
window_inside_single' u x ts rest (first (after done)) h = window_empty refl
window_inside_single' {n = n} {C = C} u x ts rest (second (room lt p)) h =
    let v : Single 31 (Closed (window C)) = closed_single (omega arith) (window_single u) in
    second_same (room_answers lt (v.single x ts rest p h))
    (λ y r q g. close_flip (λ us e. (window_empty {n = n} {C = C} e).only x rest (second (room lt p)) h) y r q)

pub window_inside_single : {n : ℕ} {C : Row Tree} → Single 20 C → Single 31 (window_inside n C)
window_inside_single u = record { single = window_inside_single' u }

-- calls
reach_single : {n : ℕ} {C : Row Tree} → Single 20 C → Single 31 (over n C)
reach_single u = either_single (one_apart (λ z ts us p. other_token (name_here p) (λ q. cc))) (as_single one_single)
    (after_single (as_single (window_inside_single u)))

reaching_single : {n : ℕ} {C : Row Tree} → Single 20 C → Single 28 (optional_over n C)
reaching_single u = perhaps_single (after_grips (omega arith)) (single_less (omega arith) (after_single (reach_single u)))

no_such_list : {X : Type 0} {C : Row Tree} {f : List Tree → X} {s : Symbol} {ts us : Tokens} → Begins 1 C
    → ts ≡ SymbolToken s ∷ us → symbol_start s < 1 → Never (As f (Closed (Listed C))) ts
no_such_list b e lt = never_then (never_then (never_listed (begins_not b e lt)))

arguments_single : {n : ℕ} {C : Row Tree} → Begins 1 C → Single 20 C → Single 31 (arguments n C)
arguments_single b u =
    either_single (after_apart (λ ts us e. never_either (other_token e (λ q. cc)) (no_such_list b e (omega arith))))
    (after_single done_single)
    (either_single (after_apart (λ ts us e. no_such_list b e (omega arith)))
    (after_single (room_single (after_single done_single)))
    (as_single (closed_single {j = 12} (omega arith) (listed_single (omega arith) u))))

filtered_single : {C : Row Tree} → Single 20 C → Single 29 (optional_filter C)
filtered_single u = perhaps_single (after_grips (omega arith))
    (after_single (after_single (after_single (as_single (closed_single (omega arith) u)))))

call_single : {n : ℕ} {C : Row Tree} {name : List ℕ} → Begins 1 C → Single 20 C → Single 28 (call n C name)
call_single b u =
    then_single {j = 31} (λ g. any_leads) (arguments_single b u) (λ g. then_single (λ f. call_leads) (filtered_single u) (λ f.
    then_single {j = 28} (λ r. done_leads (omega arith)) (reaching_single u) (λ r. done_single)))

named_single : {n : ℕ} {C : Row Tree} {name : List ℕ} → Begins 1 C → Single 20 C → Single 28 (column_or_call n C name)
named_single b u =
    perhaps_single (either_grips (after_grips (omega arith)) (after_grips (omega arith)))
    (either_single (after_apart (λ ts us e. other_token e (λ q. cc))) (after_single (as_single one_single))
    (after_single (call_single b u)))

pub column_single : Single 14 column
column_single = then_single {j = 31} (λ x. any_leads) one_single (λ x. perhaps_single (after_grips (omega arith))
    (after_single (as_single one_single)))

pub columns_single : {n k : ℕ} → Single k (columns_closed n)
columns_single = room_single (closed_single {j = 12} (omega arith) (listed_single (omega arith) column_single))

grouping_call_single : {n k : ℕ} → Single k (grouping_call n)
grouping_call_single = after_single (as_single columns_single)

primary_single : {n : ℕ} {C : Row Tree} → Begins 1 C → Single 20 C → Single 28 (primary n C)
primary_single b u =
    either_single (one_apart (λ z ts us p. let e = number_here p in
    never_either (never_then (not_said e refl)) (never_either (other_token e (λ q. cc))
    (never_either (never_then (not_said e refl)) (never_either (other_token e (λ q. cc))
    (other_token e (λ q. cc))))))) (as_single one_single)
    (either_single (one_apart (λ z ts us p. let e = text_here p in
    never_either (other_token e (λ q. cc)) (never_either (never_then (not_said e refl))
    (never_either (other_token e (λ q. cc)) (other_token e (λ q. cc)))))) (as_single one_single)
    (either_single (after_apart (λ ts us e. never_either (never_then (not_said e refl))
    (never_either (other_token e (λ q. cc)) (other_token e (λ q. cc))))) (after_single done_single)
    (either_single (one_apart (λ z ts us p. never_either (other_token (name_here p) (λ q. cc))
    (other_token (name_here p) (λ q. cc)))) (then_single {j = 31} (λ x. any_leads) one_single (λ x. named_single b u))
    (either_single (after_apart (λ ts us e. other_token e (λ q. cc))) (after_single (grouping_call_single))
    (after_single (closed_single (omega arith) u))))))

-- the rows of expressions
signing_single : {n : ℕ} {C U : Row Tree} → Single 28 U → Single 28 (primary n C) → Single 28 (sign_row U (primary n C))
signing_single u p = either_single (one_apart (λ z ts us o. primary_no_sign o)) (then_single {j = 31} (λ m. any_leads)
    one_single (λ m. as_single u)) p

perhaps_not_single : Single 25 optional_not
perhaps_not_single = perhaps_single (after_grips (omega arith)) (after_single done_single)

test_single : {A U : Row Tree} {e : Tree} {b : Bool} → Single 26 A → Single 26 U → Single 24 (range_test A U e b)
test_single a u =
    either_single (after_apart (λ ts us e. other_token e (λ q. cc)))
    (after_single (then_single (λ low. after_leads (omega arith)) a (λ low. after_single (as_single (single_less (omega arith) a)))))
    (after_single (after_single (as_single (closed_single {j = 12} (omega arith) (listed_single (omega arith) u)))))

ranging_single : {A U : Row Tree} → Single 26 A → Single 26 U → Single 24 (range_row A U)
ranging_single a u =
    then_single (λ e. tested_leads) a (λ e. perhaps_single (perhaps_then_grips (after_grips (omega arith))
    (λ b. either_grips (after_grips (omega arith)) (after_grips (omega arith))))
    (then_single (λ b. test_leads) perhaps_not_single (λ b. test_single a u)))

comparing_single : {R : Row Tree} → Single 24 R → Single 23 (comparison_row R)
comparing_single r =
    then_single (λ l. compared_leads) r (λ l. perhaps_single (then_grips (one_grip comparison_goes)) (then_single {j =
    31} (λ c. any_leads) one_single (λ c. as_single (single_less (omega arith) r))))

testing_single : {R : Row Tree} → Single 23 R → Single 22 (test_row R)
testing_single r =
    then_single (λ e. null_tested_leads) r (λ e. perhaps_single (after_grips (omega arith))
    (after_single (then_single (λ n. after_leads (omega arith)) perhaps_not_single (λ n. after_single done_single))))

abbrev rank_class : Rank → ℕ
rank_class (ChainRank kind) = kind_class kind
rank_class NegationRank = 22
rank_class SignRank = 28

module _ (n : ℕ) (U : Rank → Row Tree) (u : (rank : Rank) → Single (rank_class rank) (U rank))
    (b : Begins 1 (U (ChainRank Disjunction))) where
  signs_single : Single 28 (sign_over n U)
  signs_single = signing_single (u SignRank) (primary_single b (u (ChainRank Disjunction)))

  products_single : Single 27 (operand_over n U Sum)
  products_single = chain_single {kind = Product} signs_single

  sums_single : Single 26 (sum_over n U)
  sums_single = chain_single {kind = Sum} products_single

  tests_single : Single 22 (test_row (comparison_over n U))
  tests_single = testing_single (comparing_single (ranging_single sums_single (u (ChainRank Sum))))

  negations_single : Single 22 (negation_over n U)
  negations_single = either_single (after_apart (λ ts us e. begins_not (tests_begin n U) e (omega arith)))
      (after_single (as_single (u NegationRank))) tests_single

  operands_single : (kind : ChainKind) → Single (operand_class kind) (operand_over n U kind)
  operands_single Disjunction = chain_single {kind = Conjunction} negations_single
  operands_single Conjunction = negations_single
  operands_single Sum = products_single
  operands_single Product = signs_single

  row_single : (rank : Rank) → Single (rank_class rank) (row_over n U rank)
  row_single (ChainRank kind) = chain_single (operands_single kind)
  row_single NegationRank = negations_single
  row_single SignRank = signs_single

pub nothing_single : {X : Type 0} {k : ℕ} {P : Row X} → ((y : X) (ts rest : Tokens) → P y ts rest → ⊥) → Single k P
nothing_single g = record { single = λ y ts rest p h. absurd (g y ts rest p) }

pub deeper_single : (n : ℕ) (rank : Rank) → Single (rank_class rank) (deeper n rank)
unfolding deeper
deeper_single zero rank = nothing_single (λ y ts rest p. p)
deeper_single (suc n) rank = row_single n (deeper n) (deeper_single n) (inner_begins n) rank

pub conditions_single : (n : ℕ) → Single 20 (condition n)
conditions_single n = row_single n (deeper n) (deeper_single n) (inner_begins n) (ChainRank Disjunction)
