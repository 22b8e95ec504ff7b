-- With what a row begins, and that it takes a token at least.
use Rattle.std.proofs.Common.{◌≡◌, Bool, ℕ, zero, suc, ◌-◌, ◌<◌, ◌≤◌, List, [], ◌∷◌, length, Option, Some, subst, arith}
use Rattle.wlexer.specs.Token.{TokenMeaning, KeywordToken, NameToken, NumberToken, TextToken, SymbolToken}
use Rattle.wlexer.specs.declared.keyword.Keyword.{Keyword}
use Rattle.wlexer.specs.declared.keyword.Keyword.TheVariants as keywords
use Rattle.wlexer.specs.declared.token.Symbol.{Symbol}
use Rattle.wlexer.specs.declared.token.Symbol.TheVariants as symbols
use Rattle.wquery.specs.declared.frame.FrameBound.{FrameBound}
use Rattle.wquery.specs.declared.expression.ChainKind.{ChainKind}
use Rattle.wquery.specs.declared.expression.ChainKind.TheVariants.{Disjunction, Conjunction, Sum, Product}
use Rattle.wquery.specs.Tree.{Tree}
use Rattle.wtokens.specs.Words.{CommaSign, name_of, number_of, text_of, sign_of}
use Rattle.wtokens.specs.Notation.{Tokens, Row, One, one, After, after, Then, before, Done, done, Perhaps, absent, present, Either, first}
use Rattle.wtokens.specs.Notation.{second, Room, room, Listed, last, next, GoesOn, ended, further, Chain, chaining, As, Never}
use Rattle.wexpressions.proofs.Steps.{one_parts}
use Rattle.wexpressions.specs.Grammar.{Closed, toward, bound, extent, exclusion, frame, key, window, window_inside, over, arguments}
use Rattle.wexpressions.specs.Grammar.{filter, call, column, columns_closed, grouping_call, optional_not, primary, sign_row, range_row}
use Rattle.wexpressions.specs.Grammar.{comparison_row, test_row, negation_row, Rank, ChainRank, NegationRank, SignRank, sign_over}
use Rattle.wexpressions.specs.Grammar.{comparison_over, negation_over, operand_over, row_over, deeper, operand}

-- with what an operand may begin: 1 NOT, 2 a sign, 3 anything else
abbrev pub keyword_start : Keyword → ℕ
keyword_start keywords.Not = 1
keyword_start keywords.Null = 3
keyword_start keywords.Grouping = 3
keyword_start _ = 0

abbrev pub symbol_start : Symbol → ℕ
symbol_start symbols.Plus = 2
symbol_start symbols.Minus = 2
symbol_start symbols.OpenParenthesis = 3
symbol_start _ = 0

abbrev pub start : TokenMeaning → ℕ
start (KeywordToken k) = keyword_start k
start (NameToken name) = 3
start (NumberToken n) = 3
start (TextToken text) = 3
start (SymbolToken s) = symbol_start s

abbrev pub Starts : ℕ → Tokens → Type 0
Starts b [] = ⊥
Starts b (token ∷ ts) = b ≤ start token

pub record Begins {X : Type 0} (b : ℕ) (P : Row X) : Type 0 where
  pub begins : (x : X) (ts rest : Tokens) → P x ts rest → Starts b ts

pub record Falls {X : Type 0} (P : Row X) : Type 0 where
  pub falls : (x : X) (ts rest : Tokens) → P x ts rest → length rest < length ts

pub record Keeps {X : Type 0} (P : Row X) : Type 0 where
  pub keeps : (x : X) (ts rest : Tokens) → P x ts rest → length rest ≤ length ts

-- how far a row goes
pub falls_keeps : {X : Type 0} {P : Row X} → Falls P → Keeps P
falls_keeps f = record { keeps = λ x ts rest p. let lt = f.falls x ts rest p in omega arith }

one_falls' : {X : Type 0} {says : TokenMeaning → Option X} (x : X) (ts rest : Tokens) → One says x ts rest → length rest < length ts
one_falls' x ts rest (one e) = omega arith

pub one_falls : {X : Type 0} {says : TokenMeaning → Option X} → Falls (One says)
one_falls = record { falls = one_falls' }

after_falls' : {X : Type 0} {token : TokenMeaning} {P : Row X} → Keeps P → (x : X) (ts rest : Tokens)
    → After token P x ts rest → length rest < length ts
after_falls' k x ts rest (after {ts = us} p) = let le = k.keeps x us rest p in omega arith

pub after_falls : {X : Type 0} {token : TokenMeaning} {P : Row X} → Keeps P → Falls (After token P)
after_falls k = record { falls = after_falls' k }

then_falls' : {X Y : Type 0} {P : Row X} {Q : X → Row Y} → Falls P → ((x : X) → Keeps (Q x)) → (y : Y) (ts rest : Tokens)
    → Then P Q y ts rest → length rest < length ts
then_falls' f k y ts rest (before {x = x} {us = us} p q) = let lt = f.falls x ts us p in let le = (k x).keeps y us rest q in omega arith

pub then_falls : {X Y : Type 0} {P : Row X} {Q : X → Row Y} → Falls P → ((x : X) → Keeps (Q x)) → Falls (Then P Q)
then_falls f k = record { falls = then_falls' f k }

then_keeps' : {X Y : Type 0} {P : Row X} {Q : X → Row Y} → Keeps P → ((x : X) → Keeps (Q x)) → (y : Y) (ts rest : Tokens)
    → Then P Q y ts rest → length rest ≤ length ts
then_keeps' f k y ts rest (before {x = x} {us = us} p q) = let lt = f.keeps x ts us p in let le = (k x).keeps y us rest q in omega arith

pub then_keeps : {X Y : Type 0} {P : Row X} {Q : X → Row Y} → Keeps P → ((x : X) → Keeps (Q x)) → Keeps (Then P Q)
then_keeps f k = record { keeps = then_keeps' f k }

done_keeps' : {X : Type 0} {x : X} (y : X) (ts rest : Tokens) → Done x y ts rest → length rest ≤ length ts
done_keeps' y ts rest done = omega arith

pub done_keeps : {X : Type 0} {x : X} → Keeps (Done x)
done_keeps = record { keeps = done_keeps' }

perhaps_keeps' : {X : Type 0} {d : X} {P : Row X} → Keeps P → (y : X) (ts rest : Tokens) → Perhaps d P y ts rest → length rest ≤ length ts
perhaps_keeps' k y ts rest absent = omega arith
perhaps_keeps' k y ts rest (present p) = k.keeps y ts rest p

pub perhaps_keeps : {X : Type 0} {d : X} {P : Row X} → Keeps P → Keeps (Perhaps d P)
perhaps_keeps k = record { keeps = perhaps_keeps' k }

either_falls' : {X : Type 0} {P Q : Row X} → Falls P → Falls Q → (y : X) (ts rest : Tokens) → Either P Q y ts rest → length rest < length ts
either_falls' f g y ts rest (first p) = f.falls y ts rest p
either_falls' f g y ts rest (second q) = g.falls y ts rest q

pub either_falls : {X : Type 0} {P Q : Row X} → Falls P → Falls Q → Falls (Either P Q)
either_falls f g = record { falls = either_falls' f g }

room_falls' : {X : Type 0} {n : ℕ} {P : Row X} → Falls P → (y : X) (ts rest : Tokens) → Room n P y ts rest → length rest < length ts
room_falls' f y ts rest (room lt p) = f.falls y ts rest p

pub room_falls : {X : Type 0} {n : ℕ} {P : Row X} → Falls P → Falls (Room n P)
room_falls f = record { falls = room_falls' f }

listed_falls' : {X : Type 0} {P : Row X} → Falls P → (y : List X) (ts rest : Tokens) → Listed P y ts rest → length rest < length ts
listed_falls' f y ts rest (last {x = x} p) = f.falls x ts rest p
listed_falls' f y ts rest (next {x = x} {xs = xs} {us = us} p l) = let a = f.falls x ts (CommaSign ∷ us) p in let b =
    listed_falls' f xs us rest l in omega arith

pub listed_falls : {X : Type 0} {P : Row X} → Falls P → Falls (Listed P)
listed_falls f = record { falls = listed_falls' f }

goes_keeps : {kind : ChainKind} {P : Row Tree} → Falls P → (t y : Tree) (ts rest : Tokens) → GoesOn kind P t y ts rest
    → length rest ≤ length ts
goes_keeps f t y ts rest ended = omega arith
goes_keeps f t y ts rest (further {operand = o} {ts = us} {us = vs} e p g) = let a = f.falls o us vs p in let b =
    goes_keeps f _ y vs rest g in omega arith

chain_falls' : {kind : ChainKind} {P : Row Tree} → Falls P → (y : Tree) (ts rest : Tokens) → Chain kind P y ts rest
    → length rest < length ts
chain_falls' f y ts rest (chaining {first = t} {us = us} p g) = let a = f.falls t ts us p in let b =
    goes_keeps f t y us rest g in omega arith

pub chain_falls : {kind : ChainKind} {P : Row Tree} → Falls P → Falls (Chain kind P)
chain_falls f = record { falls = chain_falls' f }

closed_falls' : {X : Type 0} {P : Row X} → Keeps P → (y : X) (ts rest : Tokens) → Closed P y ts rest → length rest < length ts
closed_falls' k y ts rest (before {x = x} {us = us} p q) = let le = k.keeps x ts us p in let lt =
    after_falls' done_keeps y us rest q in omega arith

pub closed_falls : {X : Type 0} {P : Row X} → Keeps P → Falls (Closed P)
closed_falls k = record { falls = closed_falls' k }

-- frames
toward_falls : {back ahead : FrameBound} → Falls (toward back ahead)
toward_falls = either_falls (after_falls done_keeps) (after_falls done_keeps)

bound_falls : Falls bound
bound_falls = either_falls (after_falls (falls_keeps toward_falls))
    (either_falls (after_falls (falls_keeps (after_falls done_keeps))) (then_falls one_falls (λ n. falls_keeps toward_falls)))

pub as_keeps : {X Y : Type 0} {f : X → Y} {P : Row X} → Keeps P → Keeps (As f P)
as_keeps k = then_keeps k (λ x. done_keeps)

pub as_falls : {X Y : Type 0} {f : X → Y} {P : Row X} → Falls P → Falls (As f P)
as_falls k = then_falls k (λ x. done_keeps)

extent_falls : Falls extent
extent_falls = either_falls (after_falls (then_keeps (falls_keeps bound_falls)
    (λ s. falls_keeps (after_falls (as_keeps (falls_keeps bound_falls)))))) (as_falls bound_falls)

exclusion_falls : Falls exclusion
exclusion_falls = either_falls (after_falls (falls_keeps (after_falls done_keeps))) (either_falls (after_falls done_keeps)
    (either_falls (after_falls done_keeps) (after_falls (falls_keeps (after_falls done_keeps)))))

frame_keeps : Keeps frame
frame_keeps = falls_keeps (then_falls one_falls (λ m. then_keeps (falls_keeps extent_falls)
    (λ e. then_keeps (perhaps_keeps (as_keeps (falls_keeps (after_falls (falls_keeps exclusion_falls))))) (λ x. done_keeps))))

-- keys and windows
pub key_falls : {C : Row Tree} → Falls C → Falls (key C)
key_falls f = then_falls f (λ e. then_keeps (perhaps_keeps (falls_keeps one_falls))
    (λ d. then_keeps (perhaps_keeps (as_keeps (falls_keeps (after_falls (falls_keeps one_falls))))) (λ n. done_keeps)))

window_keeps : {C : Row Tree} → Falls C → Keeps (window C)
window_keeps f =
    then_keeps (perhaps_keeps (as_keeps (falls_keeps one_falls))) (λ c.
    then_keeps (perhaps_keeps (falls_keeps (after_falls (falls_keeps (after_falls (falls_keeps (listed_falls f))))))) (λ p.
    then_keeps (perhaps_keeps (falls_keeps (after_falls (falls_keeps (after_falls (falls_keeps (listed_falls (key_falls f)))))))) (λ o.
    then_keeps (perhaps_keeps (as_keeps frame_keeps)) (λ f. done_keeps))))

pub window_inside_falls : {n : ℕ} {C : Row Tree} → Falls C → Falls (window_inside n C)
window_inside_falls f = either_falls (after_falls done_keeps) (room_falls (closed_falls (window_keeps f)))

-- calls
reach_falls : {n : ℕ} {C : Row Tree} → Falls C → Falls (over n C)
reach_falls f = either_falls (as_falls one_falls) (after_falls (as_keeps (falls_keeps (window_inside_falls f))))

arguments_falls : {n : ℕ} {C : Row Tree} → Falls C → Falls (arguments n C)
arguments_falls f = either_falls (after_falls done_keeps)
    (either_falls (after_falls (falls_keeps (room_falls (after_falls done_keeps))))
    (as_falls (closed_falls (falls_keeps (listed_falls f)))))

filter_falls : {C : Row Tree} → Falls C → Falls (filter C)
filter_falls f = after_falls (falls_keeps (after_falls (as_keeps (falls_keeps (closed_falls (falls_keeps f))))))

call_falls : {n : ℕ} {C : Row Tree} {name : List ℕ} → Falls C → Falls (call n C name)
call_falls f =
    then_falls (arguments_falls f) (λ g. then_keeps (perhaps_keeps (falls_keeps (after_falls (falls_keeps (filter_falls f))))) (λ l.
    then_keeps (perhaps_keeps (falls_keeps (after_falls (falls_keeps (reach_falls f))))) (λ r. done_keeps)))

pub column_falls : Falls column
column_falls = then_falls one_falls (λ name. perhaps_keeps (falls_keeps (after_falls (as_keeps (falls_keeps one_falls)))))

pub columns_falls : {n : ℕ} → Falls (columns_closed n)
columns_falls = room_falls (closed_falls (falls_keeps (listed_falls column_falls)))

pub grouping_call_falls : {n : ℕ} → Falls (grouping_call n)
grouping_call_falls = after_falls (as_keeps (falls_keeps columns_falls))

primary_falls : {n : ℕ} {C : Row Tree} → Falls C → Falls (primary n C)
primary_falls f =
    either_falls (as_falls one_falls) (either_falls (as_falls one_falls) (either_falls (after_falls done_keeps)
    (either_falls (then_falls one_falls (λ name. perhaps_keeps
    (falls_keeps (either_falls (after_falls (as_keeps (falls_keeps one_falls))) (after_falls (falls_keeps (call_falls f)))))))
    (either_falls (after_falls (falls_keeps grouping_call_falls)) (after_falls (falls_keeps (closed_falls (falls_keeps f))))))))

-- the rows of expressions
perhaps_not_keeps : Keeps optional_not
perhaps_not_keeps = perhaps_keeps (falls_keeps (after_falls done_keeps))

signing_falls : {U P : Row Tree} → Falls U → Falls P → Falls (sign_row U P)
signing_falls f g = either_falls (then_falls one_falls (λ m. as_keeps (falls_keeps f))) g

ranging_falls : {A U : Row Tree} → Falls A → Falls U → Falls (range_row A U)
ranging_falls f g =
    then_falls f (λ e. perhaps_keeps (then_keeps perhaps_not_keeps (λ n. falls_keeps (either_falls
    (after_falls (then_keeps (falls_keeps f) (λ low. falls_keeps (after_falls (as_keeps (falls_keeps f))))))
    (after_falls (falls_keeps (after_falls (as_keeps (falls_keeps (closed_falls (falls_keeps (listed_falls g))))))))))))

comparing_falls : {R : Row Tree} → Falls R → Falls (comparison_row R)
comparing_falls f = then_falls f (λ l. perhaps_keeps (then_keeps (falls_keeps one_falls) (λ c. as_keeps (falls_keeps f))))

testing_falls : {R : Row Tree} → Falls R → Falls (test_row R)
testing_falls f = then_falls f (λ e. perhaps_keeps
    (falls_keeps (after_falls (then_keeps perhaps_not_keeps (λ n. falls_keeps (after_falls done_keeps))))))

negation_falls : {U T : Row Tree} → Falls U → Falls T → Falls (negation_row U T)
negation_falls f g = either_falls (after_falls (as_keeps (falls_keeps f))) g

module _ (n : ℕ) (U : Rank → Row Tree) (u : (rank : Rank) → Falls (U rank)) where
  signs_fall : Falls (sign_over n U)
  signs_fall = signing_falls (u SignRank) (primary_falls (u (ChainRank Disjunction)))

  negations_fall : Falls (negation_over n U)
  negations_fall = negation_falls (u NegationRank)
      (testing_falls (comparing_falls (ranging_falls (chain_falls (chain_falls signs_fall)) (u (ChainRank Sum)))))

  operands_fall : (kind : ChainKind) → Falls (operand_over n U kind)
  operands_fall Disjunction = chain_falls negations_fall
  operands_fall Conjunction = negations_fall
  operands_fall Sum = chain_falls signs_fall
  operands_fall Product = signs_fall

  row_falls : (rank : Rank) → Falls (row_over n U rank)
  row_falls (ChainRank kind) = chain_falls (operands_fall kind)
  row_falls NegationRank = negations_fall
  row_falls SignRank = signs_fall

no_fall : {P : Row Tree} → ((y : Tree) (ts rest : Tokens) → P y ts rest → ⊥) → Falls P
no_fall g = record { falls = λ y ts rest p. absurd (g y ts rest p) }

pub deeper_falls : (n : ℕ) (rank : Rank) → Falls (deeper n rank)
unfolding deeper
deeper_falls zero rank = no_fall (λ y ts rest p. p)
deeper_falls (suc n) rank = row_falls n (deeper n) (deeper_falls n) rank

pub operand_falls : (n : ℕ) (kind : ChainKind) → Falls (operand n kind)
operand_falls n kind = operands_fall n (deeper n) (deeper_falls n) kind

-- with what a row begins
after_begins' : {X : Type 0} {b : ℕ} {token : TokenMeaning} {P : Row X} → b ≤ start token → (x : X) (ts rest : Tokens)
    → After token P x ts rest → Starts b ts
after_begins' le x ts rest (after p) = le

after_begins : {X : Type 0} {b : ℕ} {token : TokenMeaning} {P : Row X} → b ≤ start token → Begins b (After token P)
after_begins le = record { begins = after_begins' le }

one_begins' : {X : Type 0} {b : ℕ} {says : TokenMeaning → Option X} → ((token : TokenMeaning) (x : X) → says token ≡ Some x
    → b ≤ start token) → (x : X) (ts rest : Tokens) → One says x ts rest → Starts b ts
one_begins' g x ts rest (one {token = token} e) = g token x e

one_begins : {X : Type 0} {b : ℕ} {says : TokenMeaning → Option X} → ((token : TokenMeaning) (x : X) → says token ≡ Some x
    → b ≤ start token) → Begins b (One says)
one_begins g = record { begins = one_begins' g }

then_begins' : {X Y : Type 0} {b : ℕ} {P : Row X} {Q : X → Row Y} → Begins b P → (y : Y) (ts rest : Tokens)
    → Then P Q y ts rest → Starts b ts
then_begins' g y ts rest (before {x = x} {us = us} p q) = g.begins x ts us p

then_begins : {X Y : Type 0} {b : ℕ} {P : Row X} {Q : X → Row Y} → Begins b P → Begins b (Then P Q)
then_begins g = record { begins = then_begins' g }

either_begins' : {X : Type 0} {b : ℕ} {P Q : Row X} → Begins b P → Begins b Q → (y : X) (ts rest : Tokens)
    → Either P Q y ts rest → Starts b ts
either_begins' f g y ts rest (first p) = f.begins y ts rest p
either_begins' f g y ts rest (second q) = g.begins y ts rest q

either_begins : {X : Type 0} {b : ℕ} {P Q : Row X} → Begins b P → Begins b Q → Begins b (Either P Q)
either_begins f g = record { begins = either_begins' f g }

chain_begins' : {b : ℕ} {kind : ChainKind} {P : Row Tree} → Begins b P → (y : Tree) (ts rest : Tokens)
    → Chain kind P y ts rest → Starts b ts
chain_begins' g y ts rest (chaining {first = t} {us = us} p q) = g.begins t ts us p

chain_begins : {b : ℕ} {kind : ChainKind} {P : Row Tree} → Begins b P → Begins b (Chain kind P)
chain_begins g = record { begins = chain_begins' g }

starts_less : {a b : ℕ} → a ≤ b → (ts : Tokens) → Starts b ts → Starts a ts
starts_less le [] h = absurd h
starts_less le (token ∷ ts) h = omega arith

begins_less : {X : Type 0} {a b : ℕ} {P : Row X} → a ≤ b → Begins b P → Begins a P
begins_less le g = record { begins = λ y ts rest p. starts_less le ts (g.begins y ts rest p) }

name_starts : (token : TokenMeaning) (x : List ℕ) → name_of token ≡ Some x → 3 ≤ start token
name_starts (NameToken n) x e = omega arith
name_starts _ x e = cc

text_starts : (token : TokenMeaning) (x : List ℕ) → text_of token ≡ Some x → 3 ≤ start token
text_starts (TextToken n) x e = omega arith
text_starts _ x e = cc

number_starts : (token : TokenMeaning) (x : ℕ) → number_of token ≡ Some x → 3 ≤ start token
number_starts (NumberToken n) x e = omega arith
number_starts _ x e = cc

sign_starts : (token : TokenMeaning) (x : Bool) → sign_of token ≡ Some x → 2 ≤ start token
sign_starts (SymbolToken symbols.Plus) x e = omega arith
sign_starts (SymbolToken symbols.Minus) x e = omega arith
sign_starts _ x e = cc

primary_begins : {n : ℕ} {C : Row Tree} → Begins 3 (primary n C)
primary_begins =
    either_begins (then_begins (one_begins number_starts)) (either_begins (then_begins (one_begins text_starts))
    (either_begins (after_begins (omega arith))
    (either_begins (then_begins (one_begins name_starts)) (either_begins (after_begins (omega arith)) (after_begins (omega arith))))))

signs_begin : (n : ℕ) (U : Rank → Row Tree) → Begins 2 (sign_over n U)
signs_begin n U = either_begins (then_begins (one_begins sign_starts)) (begins_less (omega arith) primary_begins)

pub tests_begin : (n : ℕ) (U : Rank → Row Tree) → Begins 2 (test_row (comparison_over n U))
tests_begin n U = then_begins (then_begins (then_begins (chain_begins (chain_begins (signs_begin n U)))))

negations_begin : (n : ℕ) (U : Rank → Row Tree) → Begins 1 (negation_over n U)
negations_begin n U = either_begins (after_begins (omega arith)) (begins_less (omega arith) (tests_begin n U))

pub conditions_begin : (n : ℕ) (U : Rank → Row Tree) → Begins 1 (row_over n U (ChainRank Disjunction))
conditions_begin n U = chain_begins (chain_begins (negations_begin n U))

no_begin : {P : Row Tree} {b : ℕ} → ((y : Tree) (ts rest : Tokens) → P y ts rest → ⊥) → Begins b P
no_begin g = record { begins = λ y ts rest p. absurd (g y ts rest p) }

pub inner_begins : (n : ℕ) → Begins 1 (deeper n (ChainRank Disjunction))
unfolding deeper
inner_begins zero = no_begin (λ y ts rest p. p)
inner_begins (suc n) = conditions_begin n (deeper n)

starts_not : {b : ℕ} {token : TokenMeaning} {ts us : Tokens} → ts ≡ token ∷ us → start token < b → Starts b ts → ⊥
starts_not {b} {token} {ts} {us} e lt h = let g : Starts b (token ∷ us) = subst (λ (x : Tokens). Starts b x) e h in omega arith

sign_below : (token : TokenMeaning) {x : Bool} → sign_of token ≡ Some x → start token < 3
sign_below (SymbolToken symbols.Plus) e = omega arith
sign_below (SymbolToken symbols.Minus) e = omega arith
sign_below _ e = cc

-- a row does not begin with such a token
pub begins_not : {X : Type 0} {b : ℕ} {P : Row X} {token : TokenMeaning} {ts us : Tokens} → Begins b P → ts ≡ token ∷ us
    → start token < b → Never P ts
begins_not {ts = ts} g e lt x rest p = starts_not e lt (g.begins x ts rest p)

pub primary_no_sign : {n : ℕ} {C : Row Tree} {minus : Bool} {ts us : Tokens} → One sign_of minus ts us → Never (primary n C) ts
primary_no_sign p = let e = one_parts p in begins_not primary_begins e.1 (sign_below e.0 e.2)

-- one level of nesting
pub lower : (n : ℕ) (rank : Rank) (F : Row Tree → Type 0) → 0 < n → F (row_over (n - 1) (deeper (n - 1)) rank) → F (deeper n rank)
unfolding deeper
lower zero rank F lt h = absurd (omega arith)
lower (suc m) rank F lt h = let e : suc m - 1 ≡ m = omega arith in subst (λ (k : ℕ). F (row_over k (deeper k) rank)) e h

pub nothing_below : (n : ℕ) (rank : Rank) (ts : Tokens) → n ≡ 0 → Never (deeper n rank) ts
unfolding deeper
nothing_below zero rank ts e x rest p = p
nothing_below (suc m) rank ts e x rest p = absurd (omega arith)
