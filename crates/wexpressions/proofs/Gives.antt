-- What holds of all that a row reads from tokens of a kind, for each form of the notation.
use Rattle.std.proofs.Common.{◌≡◌, Bool, true, false, if◌then◌else◌, ℕ, ◌<◌, List, [], ◌∷◌, Option, Some, None, refl, subst}
use Rattle.wlexer.specs.declared.keyword.Keyword.TheVariants as keywords
use Rattle.wlexer.specs.declared.token.Symbol.TheVariants as symbols
use Rattle.wlexer.specs.Token.{TokenMeaning, KeywordToken, SymbolToken}
use Rattle.wquery.specs.declared.expression.ChainKind.{ChainKind}
use Rattle.wquery.specs.declared.expression.ChainKind.TheVariants.{Disjunction, Conjunction, Sum, Product}
use Rattle.wquery.specs.declared.expression.Operator.{Operator}
use Rattle.wquery.specs.Lefts.{chain_kind}
use Rattle.wquery.specs.Tree.{Tree, Joined, Further, NoLinks, is_chain, lengthened, joined}
use Rattle.wtokens.specs.Words.{operator_of}
use Rattle.wtokens.specs.Notation.{Tokens, Row, One, one, After, after, Then, before, Done, done, Perhaps, absent, present, Either}
use Rattle.wtokens.specs.Notation.{first, second, Room, room, Listed, last, next, GoesOn, ended, further, Chain, chaining, As}
use Rattle.wexpressions.specs.Grammar.{Closed}

abbrev pub Are : (TokenMeaning → Type 0) → Tokens → Type 0
Are T [] = Unit {0}
Are T (t ∷ ts) = T t × Are T ts

-- what is read from such tokens, and such tokens are left
pub record Gives {X : Type 0} (T : TokenMeaning → Type 0) (B : X → Type 0) (P : Row X) : Type 0 where
  pub gives : (x : X) (ts rest : Tokens) → Are T ts → P x ts rest → B x × Are T rest

one_gives' : {X : Type 0} {T : TokenMeaning → Type 0} {B : X → Type 0} {says : TokenMeaning → Option X}
    → ((t : TokenMeaning) (x : X) → T t → says t ≡ Some x → B x) → (x : X) (ts rest : Tokens) → Are T ts
    → One says x ts rest → B x × Are T rest
one_gives' h x ts rest s (one {token = t} e) = (h t x s.0 e, s.1)

pub one_gives : {X : Type 0} {T : TokenMeaning → Type 0} {B : X → Type 0} {says : TokenMeaning → Option X}
    → ((t : TokenMeaning) (x : X) → T t → says t ≡ Some x → B x) → Gives T B (One says)
one_gives h = record { gives = one_gives' h }

after_gives' : {X : Type 0} {T : TokenMeaning → Type 0} {B : X → Type 0} {t : TokenMeaning} {P : Row X} → Gives T B P
    → (x : X) (ts rest : Tokens) → Are T ts → After t P x ts rest → B x × Are T rest
after_gives' u x ts rest s (after {ts = us} p) = u.gives x us rest s.1 p

pub after_gives : {X : Type 0} {T : TokenMeaning → Type 0} {B : X → Type 0} {t : TokenMeaning} {P : Row X} → Gives T B P
    → Gives T B (After t P)
after_gives u = record { gives = after_gives' u }

then_gives' : {X Y : Type 0} {T : TokenMeaning → Type 0} (A : X → Type 0) {B : Y → Type 0} {P : Row X} {Q : X → Row Y}
    → Gives T A P → ((x : X) → A x → Gives T B (Q x)) → (y : Y) (ts rest : Tokens) → Are T ts → Then P Q y ts rest → B y × Are T rest
then_gives' A u v y ts rest s (before {x = x} {us = us} p q) = let a = u.gives x ts us s p in (v x a.0).gives y us rest a.1 q

pub then_gives : {X Y : Type 0} {T : TokenMeaning → Type 0} (A : X → Type 0) {B : Y → Type 0} {P : Row X} {Q : X → Row Y}
    → Gives T A P → ((x : X) → A x → Gives T B (Q x)) → Gives T B (Then P Q)
then_gives A u v = record { gives = then_gives' A u v }

done_gives' : {X : Type 0} (T : TokenMeaning → Type 0) (B : X → Type 0) {x : X} → B x → (y : X) (ts rest : Tokens)
    → Are T ts → Done x y ts rest → B y × Are T rest
done_gives' T B b y ts rest s done = (b, s)

pub done_gives : {X : Type 0} {T : TokenMeaning → Type 0} {B : X → Type 0} {x : X} → B x → Gives T B (Done x)
done_gives {T = T} {B = B} b = record { gives = done_gives' T B b }

perhaps_gives' : {X : Type 0} {T : TokenMeaning → Type 0} {B : X → Type 0} {d : X} {P : Row X} → B d → Gives T B P
    → (x : X) (ts rest : Tokens) → Are T ts → Perhaps d P x ts rest → B x × Are T rest
perhaps_gives' b u x ts rest s absent = (b, s)
perhaps_gives' b u x ts rest s (present p) = u.gives x ts rest s p

pub perhaps_gives : {X : Type 0} {T : TokenMeaning → Type 0} {B : X → Type 0} {d : X} {P : Row X} → B d → Gives T B P
    → Gives T B (Perhaps d P)
perhaps_gives b u = record { gives = perhaps_gives' b u }

either_gives' : {X : Type 0} {T : TokenMeaning → Type 0} {B : X → Type 0} {P Q : Row X} → Gives T B P → Gives T B Q
    → (x : X) (ts rest : Tokens) → Are T ts → Either P Q x ts rest → B x × Are T rest
either_gives' u v x ts rest s (first p) = u.gives x ts rest s p
either_gives' u v x ts rest s (second q) = v.gives x ts rest s q

pub either_gives : {X : Type 0} {T : TokenMeaning → Type 0} {B : X → Type 0} {P Q : Row X} → Gives T B P → Gives T B Q
    → Gives T B (Either P Q)
either_gives u v = record { gives = either_gives' u v }

within_room' : {X : Type 0} {T : TokenMeaning → Type 0} {B : X → Type 0} {n : ℕ} {P : Row X} → (0 < n → Gives T B P)
    → (x : X) (ts rest : Tokens) → Are T ts → Room n P x ts rest → B x × Are T rest
within_room' u x ts rest s (room lt p) = (u lt).gives x ts rest s p

pub within_room : {X : Type 0} {T : TokenMeaning → Type 0} {B : X → Type 0} {n : ℕ} {P : Row X} → (0 < n → Gives T B P)
    → Gives T B (Room n P)
within_room u = record { gives = within_room' u }

pub room_gives : {X : Type 0} {T : TokenMeaning → Type 0} {B : X → Type 0} {n : ℕ} {P : Row X} → Gives T B P → Gives T B (Room n P)
room_gives u = within_room (λ lt. u)

pub as_gives : {X Y : Type 0} {T : TokenMeaning → Type 0} (A : X → Type 0) {B : Y → Type 0} {f : X → Y} {P : Row X}
    → Gives T A P → ((x : X) → A x → B (f x)) → Gives T B (As f P)
as_gives A u g = then_gives A u (λ x a. done_gives (g x a))

pub closed_gives : {X : Type 0} {T : TokenMeaning → Type 0} {B : X → Type 0} {P : Row X} → Gives T B P → Gives T B (Closed P)
closed_gives {B = B} u = then_gives B u (λ x b. after_gives (done_gives b))

listed_gives' : {X : Type 0} {T : TokenMeaning → Type 0} {A : X → Type 0} (B : List X → Type 0) {P : Row X} → B []
    → ((x : X) (xs : List X) → A x → B xs → B (x ∷ xs)) → Gives T A P → (y : List X) (ts rest : Tokens) → Are T ts
    → Listed P y ts rest → B y × Are T rest
listed_gives' B b g u y ts rest s (last {x = x} p) = let a = u.gives x ts rest s p in (g x [] a.0 b, a.1)
listed_gives' B b g u y ts rest s (next {x = x} {xs = xs} {us = us} p l) = let a = u.gives x ts _ s p in let c =
    listed_gives' B b g u xs us rest a.1.1 l in (g x xs a.0 c.0, c.1)

pub listed_gives : {X : Type 0} {T : TokenMeaning → Type 0} {A : X → Type 0} (B : List X → Type 0) {P : Row X} → B []
    → ((x : X) (xs : List X) → A x → B xs → B (x ∷ xs)) → Gives T A P → Gives T B (Listed P)
listed_gives B b g u = record { gives = listed_gives' B b g u }

pub none_gives : {X : Type 0} {T : TokenMeaning → Type 0} {B : X → Type 0} {P : Row X}
    → ((y : X) (ts rest : Tokens) → P y ts rest → ⊥) → Gives T B P
none_gives g = record { gives = λ y ts rest s p. absurd (g y ts rest p) }

weaker' : {X : Type 0} {T : TokenMeaning → Type 0} {A B : X → Type 0} {P : Row X} → ((x : X) → A x → B x) → Gives T A P
    → (x : X) (ts rest : Tokens) → Are T ts → P x ts rest → B x × Are T rest
weaker' g u x ts rest s p = let a = u.gives x ts rest s p in (g x a.0, a.1)

pub weaker : {X : Type 0} {T : TokenMeaning → Type 0} {A B : X → Type 0} {P : Row X} → ((x : X) → A x → B x) → Gives T A P → Gives T B P
weaker g u = record { gives = weaker' g u }

-- chains
abbrev kind_in : ChainKind → Option Operator → ChainKind
kind_in kind None = kind
kind_in kind (Some operator) = chain_kind operator

kind_says : (kind : ChainKind) (token : TokenMeaning) → kind_in kind (operator_of kind token) ≡ kind
kind_says Disjunction (KeywordToken keywords.Or) = refl
kind_says Conjunction (KeywordToken keywords.And) = refl
kind_says Sum (SymbolToken symbols.Plus) = refl
kind_says Sum (SymbolToken symbols.Minus) = refl
kind_says Product (SymbolToken symbols.Asterisk) = refl
kind_says _ _ = refl

operator_kind : (kind : ChainKind) (token : TokenMeaning) (operator : Operator) → operator_of kind token ≡ Some operator
    → chain_kind operator ≡ kind
operator_kind kind token operator e = subst (λ (x : Option Operator). kind_in kind x ≡ kind) e (kind_says kind token)

-- operators of the kind keep what holds of chains
abbrev pub Joins : ChainKind → (Tree → Type 0) → (Tree → Type 0) → Type 0
Joins kind A B = (t : Tree) (operator : Operator) (o : Tree) → chain_kind operator ≡ kind → B t → A o → B (joined kind t operator o)

goes_gives : {T : TokenMeaning → Type 0} {A : Tree → Type 0} (B : Tree → Type 0) {kind : ChainKind} {P : Row Tree}
    → Joins kind A B → Gives T A P → (t y : Tree) (ts rest : Tokens) → B t → Are T ts → GoesOn kind P t y ts rest → B y × Are T rest
goes_gives B j u t y ts rest b s ended = (b, s)
goes_gives B {kind = kind} j u t y ts rest b s (further {token = token} {operator = operator} {operand = o} {ts = us} {us = vs} e p g) =
    let a = u.gives o us vs s.1 p in goes_gives B j u (joined kind t operator o) y vs rest
    (j t operator o (operator_kind kind token operator e) b a.0) a.1 g

chain_gives' : {T : TokenMeaning → Type 0} {A : Tree → Type 0} (B : Tree → Type 0) {kind : ChainKind} {P : Row Tree}
    → ((t : Tree) → A t → B t) → Joins kind A B → Gives T A P → (y : Tree) (ts rest : Tokens) → Are T ts
    → Chain kind P y ts rest → B y × Are T rest
chain_gives' B f j u y ts rest s (chaining {first = t} {us = us} p g) = let a = u.gives t ts us s p in
    goes_gives B j u t y us rest (f t a.0) a.1 g

pub chain_gives : {T : TokenMeaning → Type 0} {A : Tree → Type 0} (B : Tree → Type 0) {kind : ChainKind} {P : Row Tree}
    → ((t : Tree) → A t → B t) → Joins kind A B → Gives T A P → Gives T B (Chain kind P)
chain_gives B f j u = record { gives = chain_gives' B f j u }

joined_cases : (B : Tree → Type 0) (kind : ChainKind) (t : Tree) (operator : Operator) (o : Tree) (c : Bool)
    → is_chain kind t ≡ c → (is_chain kind t ≡ true → B (lengthened t operator o))
    → (is_chain kind t ≡ false → B (Joined kind t (Further NoLinks operator o)))
    → B (if c then lengthened t operator o else Joined kind t (Further NoLinks operator o))
joined_cases B kind t operator o true e f g = f e
joined_cases B kind t operator o false e f g = g e

pub joined_holds : (B : Tree → Type 0) (kind : ChainKind) (t : Tree) (operator : Operator) (o : Tree)
    → (is_chain kind t ≡ true → B (lengthened t operator o))
    → (is_chain kind t ≡ false → B (Joined kind t (Further NoLinks operator o))) → B (joined kind t operator o)
unfolding joined
joined_holds B kind t operator o f g = joined_cases B kind t operator o (is_chain kind t) refl f g

-- what is read from any tokens
abbrev AnyToken : TokenMeaning → Type 0
AnyToken t = Unit {0}

abbrev pub Upholds : {X : Type 0} → (X → Type 0) → Row X → Type 0
Upholds B P = Gives AnyToken B P

are_any : (ts : Tokens) → Are AnyToken ts
are_any [] = tt
are_any (t ∷ ts) = (tt, are_any ts)

pub any_gives : {X : Type 0} {P : Row X} → Upholds (λ (x : X). Unit {0}) P
any_gives = record { gives = λ x ts rest s p. (tt, are_any rest) }

pub upheld : {X : Type 0} {B : X → Type 0} {P : Row X} → Upholds B P → (x : X) (ts rest : Tokens) → P x ts rest → B x
upheld u x ts rest p = (u.gives x ts rest (are_any ts) p).0
