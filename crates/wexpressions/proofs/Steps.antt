-- What the outcomes of parts make of a row's outcome, for each form of the notation.
use Rattle.std.proofs.Common.{◌≡◌, ℕ, ◌<◌, ◌≤◌, List, [], ◌∷◌, ◌++◌, append_assoc, Option, Some, None, Result}
use Rattle.std.proofs.Common.{Ok, Err, IfOk, IfErr, IsErrAnd, refl, sym, ap, subst, ◌∙◌, arith}
use Rattle.wlexer.specs.Token.{TokenMeaning, KeywordToken, NameToken, NumberToken, TextToken, SymbolToken}
use Rattle.wlexer.specs.declared.keyword.Keyword.{Keyword}
use Rattle.wlexer.specs.declared.keyword.Keyword.TheVariants as keywords
use Rattle.wlexer.specs.declared.token.Symbol.{Symbol}
use Rattle.wlexer.specs.declared.token.Symbol.TheVariants as symbols
use Rattle.wlexer.specs.declared.token.Token.{Token}
use Rattle.wexpressions.specs.declared.fault.ParseFault.{ParseFault}
use Rattle.wexpressions.specs.declared.fault.ParseFault.TheVariants.{NoMemory, Syntax}
use Rattle.wtokens.specs.Words.{CommaSign, CloseSign}
use Rattle.wtokens.specs.Notation.{Tokens, Row, One, one, After, after, Then, before, Done, done, Perhaps, absent, present}
use Rattle.wtokens.specs.Notation.{Either, first, second, Room, room, Listed, last, next, As, Never, meanings}
use Rattle.wexpressions.specs.Grammar.{Closed}
use Rattle.wexpressions.specs.Grips.{grip, keyword_grip, symbol_grip, Stops}
use Rattle.wexpressions.specs.Finding.{Outcome, Got, Refused, Short, failed, outcome, IsRead, Agrees, Answers}

pub stops_more : {j k : ℕ} → j ≤ k → (rest : Tokens) → Stops j rest → Stops k rest
stops_more le [] h = tt
stops_more le (token ∷ ts) h = omega arith

-- where the row ends at class `k`, what stands before it ended at class `j`
pub record Leads {X : Type 0} (P : Row X) (k j : ℕ) : Type 0 where
  pub stops : (x : X) (ts rest : Tokens) → P x ts rest → Stops k rest → Stops j ts

-- another row reads on where this one does
read_through : {X : Type 0} (P R : Row X) (ts us : Tokens) → ((x : X) (rest : Tokens) → P x us rest → R x ts rest)
    → (o : Outcome X) → IsRead P us o → IsRead R ts o
read_through P R ts us f (Got x rest) h = f x rest h
read_through P R ts us f Refused h = tt
read_through P R ts us f Short h = tt

-- a row that reads just what another reads
pub through : {X : Type 0} {P : Row X} {R : Row X} {j k : ℕ} {ts us : Tokens} {o : Outcome X}
    → ((x : X) (rest : Tokens) → P x us rest → R x ts rest) → ((x : X) (rest : Tokens) → R x ts rest → Stops k rest
    → P x us rest × Stops j rest) → Answers P j us o → Answers R k ts o
through {P = P} {R = R} {ts = ts} {us = us} {o = o} f g a = record {
  found = read_through P R ts us f o a.found;
  only =
      λ y rest r h. let p = g y rest r h in a.only y rest p.0 p.1;
}

-- nothing is read, and that is the answer, unless memory ran out
pub never : {X : Type 0} {P : Row X} {k : ℕ} {ts : Tokens} (f : ParseFault) → ((x : X) (rest : Tokens) → P x ts rest
    → Stops k rest → Agrees {X = X} (failed f) x rest) → Answers P k ts (failed f)
never Syntax g = record { found = tt; only = g }
never NoMemory g = record { found = tt; only = λ y rest p h. tt }

pub missing : {X : Type 0} {P : Row X} {k : ℕ} {ts : Tokens} → Never P ts → Answers P k ts Refused
missing g = record { found = tt; only = λ y rest p h. g y rest p }

pub short : {X : Type 0} {P : Row X} {k : ℕ} {ts : Tokens} (f : ParseFault) → f ≡ NoMemory → Answers P k ts (failed f)
short {X} {P} {k} {ts} f e = subst (λ (x : ParseFault). Answers P k ts (failed x)) (sym e) (record { found = tt; only = λ y rest p h. tt })

pub along : {X : Type 0} {P : Row X} {k : ℕ} {ts us : Tokens} {o : Outcome X} → ts ≡ us → Answers P k us o → Answers P k ts o
along {X} {P} {k} {ts} {us} {o} e a = subst (λ (x : Tokens). Answers P k x o) (sym e) a

pub got_along : {X : Type 0} {P : Row X} {k : ℕ} {ts rest rest' : Tokens} {x x' : X} → x' ≡ x → rest' ≡ rest
    → Answers P k ts (Got x rest) → Answers P k ts (Got x' rest')
got_along {X} {P} {k} {ts} {rest} {rest'} {x} {x'} e q a = subst (λ (y : X). Answers P k ts (Got y rest')) (sym e)
    (subst (λ (y : Tokens). Answers P k ts (Got x y)) (sym q) a)

-- a fault that is handed on is the fault that was met
pub handed_on : {A X : Type 0} {P : Row X} {k : ℕ} {ts : Tokens} (value : A → X) (left : A → List Token) (f : ParseFault)
    (r : Result A ParseFault) → IsErrAnd r (λ e. e ≡ f) → Answers P k ts (failed f) → Answers P k ts (outcome value left r)
handed_on {P = P} {k = k} {ts = ts} value left f (Err e) h a = subst (λ (x : ParseFault). Answers P k ts (failed x)) (sym h) a
handed_on value left f (Ok x) h a = absurd h

-- a fault says the same of a row of other values
pub failed_agrees : {X Y : Type 0} (f : ParseFault) (x : X) (y : Y) (r s : Tokens) → Agrees {X = X} (failed f) x r
    → Agrees {X = Y} (failed f) y s
failed_agrees Syntax x y r s h = absurd h
failed_agrees NoMemory x y r s h = tt

pub moved : {X Y : Type 0} (Q : X → Row Y) {x x' : X} {y : Y} {us us' rest : Tokens} → x ≡ x' → us ≡ us' → Q x' y us' rest → Q x y us rest
moved {X} {Y} Q {x} {x'} {y} {us} {us'} {rest} e q a =
    subst (λ (z : X). Q z y us rest) (sym e) (subst (λ (z : Tokens). Q x' y z rest) (sym q) a)

-- row, row
then_fails : {X Y : Type 0} {P : Row X} {Q : X → Row Y} {j k : ℕ} {ts : Tokens} (f : ParseFault)
    → ((x : X) → Leads (Q x) k j) → ((x : X) (us : Tokens) → P x ts us → Stops j us → Agrees {X = X} (failed f) x us)
    → (y : Y) (rest : Tokens) → Then P Q y ts rest → Stops k rest → Agrees {X = Y} (failed f) y rest
then_fails f leads g y rest (before {x = x} {us = us} p q) h = failed_agrees f x y us rest (g x us p ((leads x).stops y us rest q h))

pub then_refused : {X Y : Type 0} {P : Row X} {Q : X → Row Y} {j k : ℕ} {ts : Tokens} (f : ParseFault)
    → ((x : X) → Leads (Q x) k j) → Answers P j ts (failed f) → Answers (Then P Q) k ts (failed f)
then_refused f leads a = never f (then_fails f leads a.only)

then_only : {X Y : Type 0} {P : Row X} {Q : X → Row Y} {j k : ℕ} {ts us : Tokens} {x : X} {o : Outcome Y}
    → ((x : X) → Leads (Q x) k j) → Answers P j ts (Got x us) → Answers (Q x) k us o → (y : Y) (rest : Tokens)
    → Then P Q y ts rest → Stops k rest → Agrees o y rest
then_only {Q = Q} leads a b y rest (before {x = x'} {us = us'} p q) h =
    let e = a.only x' us' p ((leads x').stops y us' rest q h) in
    b.only y rest (moved Q e.0 e.1 q) h

pub then_got : {X Y : Type 0} {P : Row X} {Q : X → Row Y} {j k : ℕ} {ts us : Tokens} {x : X} {o : Outcome Y}
    → ((x : X) → Leads (Q x) k j) → Answers P j ts (Got x us) → Answers (Q x) k us o → Answers (Then P Q) k ts o
then_got {P = P} {Q = Q} {ts = ts} {us = us} {x = x} {o = o} leads a b =
    record { found = read_through (Q x) (Then P Q) ts us (λ y rest q. before a.found q) o b.found; only = then_only leads a b }

-- token, row
after_parts : {X : Type 0} {P : Row X} {token : TokenMeaning} {ts rest : Tokens} {x : X} → After token P x ts rest
    → (us : Tokens) × (ts ≡ token ∷ us) × P x us rest
after_parts (after {ts = us} p) = (us, refl, p)

pub tails : {a b : TokenMeaning} {xs ys : Tokens} → a ∷ xs ≡ b ∷ ys → xs ≡ ys
tails e = cc

tail_is : {X : Type 0} {P : Row X} {token : TokenMeaning} {us rest : Tokens} {x : X} → After token P x (token ∷ us) rest → P x us rest
tail_is {P = P} {us = us} {rest = rest} {x = x} p = let e = after_parts p in subst (λ (z : Tokens). P x z rest) (sym (tails e.1)) e.2

pub after_got : {X : Type 0} {P : Row X} {k : ℕ} {token : TokenMeaning} {ts us : Tokens} {o : Outcome X} → ts ≡ token ∷ us
    → Answers P k us o → Answers (After token P) k ts o
after_got {P = P} {token = token} {us = us} {o = o} e a =
    along e (record {
      found = read_through P (After token P) (token ∷ us) us (λ x rest p. after p) o a.found;
      only =
          λ y rest p h. a.only y rest (tail_is p) h;
    })

pub after_never : {X : Type 0} {P : Row X} {token : TokenMeaning} {ts : Tokens} → ((us : Tokens) → ts ≡ token ∷ us → ⊥)
    → Never (After token P) ts
after_never g x rest p = let e = after_parts p in g e.0 e.1

pub after_missing : {X : Type 0} {P : Row X} {k : ℕ} {token : TokenMeaning} {ts : Tokens}
    → ((us : Tokens) → ts ≡ token ∷ us → ⊥) → Answers (After token P) k ts Refused
after_missing g = missing (after_never g)

-- two tokens
pub pair_never : {X : Type 0} {P : Row X} {one other : TokenMeaning} {ts : Tokens} → ((us : Tokens) → ts ≡ one ∷ other ∷ us
    → ⊥) → Never (After one (After other P)) ts
pair_never g x rest (after (after p)) = g _ refl

-- one token
same_some : {X : Type 0} {x y : X} → ◌≡◌ {A = Option X} (Some x) (Some y) → x ≡ y
same_some e = cc

one_only : {X : Type 0} {says : TokenMeaning → Option X} {x y : X} {ts us rest : Tokens} → One says x ts us
    → One says y ts rest → (x ≡ y) × (us ≡ rest)
one_only (one e) (one f) = (same_some (sym e ∙ f), refl)

pub one_got : {X : Type 0} {says : TokenMeaning → Option X} {k : ℕ} {x : X} {ts us : Tokens} → One says x ts us
    → Answers (One says) k ts (Got x us)
one_got p = record { found = p; only = λ y rest q h. one_only p q }

-- nothing more
done_only : {X : Type 0} {x y : X} {ts rest : Tokens} → Done x y ts rest → (x ≡ y) × (ts ≡ rest)
done_only done = (refl, refl)

pub done_got : {X : Type 0} {k : ℕ} {x : X} {ts : Tokens} → Answers (Done x) k ts (Got x ts)
done_got = record { found = done; only = λ y rest q h. done_only q }

-- [ row ]
absent_only : {X : Type 0} {P : Row X} {d y : X} {ts rest : Tokens} → Never P ts → Perhaps d P y ts rest → (d ≡ y) × (ts ≡ rest)
absent_only g absent = (refl, refl)
absent_only g (present p) = absurd (g _ _ p)

pub perhaps_absent : {X : Type 0} {P : Row X} {k : ℕ} {d : X} {ts : Tokens} → Never P ts → Answers (Perhaps d P) k ts (Got d ts)
perhaps_absent g = record { found = absent; only = λ y rest q h. absent_only g q }

present_only : {X : Type 0} {P : Row X} (k : ℕ) {d y : X} {ts rest : Tokens} → (Stops k ts → ⊥) → Perhaps d P y ts rest
    → Stops k rest → P y ts rest × Stops k rest
present_only k g absent h = absurd (g h)
present_only k g (present p) h = (p, h)

pub perhaps_present : {X : Type 0} {P : Row X} {k : ℕ} {d : X} {ts : Tokens} {o : Outcome X} → (Stops k ts → ⊥)
    → Answers P k ts o → Answers (Perhaps d P) k ts o
perhaps_present {k = k} g a = through (λ x rest p. present p) (λ x rest p h. present_only k g p h) a

-- row | row
first_only : {X : Type 0} {P Q : Row X} {y : X} {ts rest : Tokens} → Never Q ts → Either P Q y ts rest → P y ts rest
first_only g (first p) = p
first_only g (second q) = absurd (g _ _ q)

second_only : {X : Type 0} {P Q : Row X} {y : X} {ts rest : Tokens} → Never P ts → Either P Q y ts rest → Q y ts rest
second_only g (first p) = absurd (g _ _ p)
second_only g (second q) = q

pub either_first : {X : Type 0} {P Q : Row X} {k : ℕ} {ts : Tokens} {o : Outcome X} → Never Q ts → Answers P k ts o
    → Answers (Either P Q) k ts o
either_first g a = through (λ x rest p. first p) (λ x rest p h. (first_only g p, h)) a

pub either_second : {X : Type 0} {P Q : Row X} {k : ℕ} {ts : Tokens} {o : Outcome X} → Never P ts → Answers Q k ts o
    → Answers (Either P Q) k ts o
either_second g a = through (λ x rest p. second p) (λ x rest p h. (second_only g p, h)) a

-- another way to read the first of two rows
either_agrees : {X : Type 0} {P Q : Row X} {k : ℕ} {ts : Tokens} {o : Outcome X} → Answers P k ts o
    → ((y : X) (rest : Tokens) → Q y ts rest → Stops k rest → Agrees o y rest) → (y : X) (rest : Tokens)
    → Either P Q y ts rest → Stops k rest → Agrees o y rest
either_agrees a g y rest (first p) h = a.only y rest p h
either_agrees a g y rest (second q) h = g y rest q h

pub either_same : {X : Type 0} {P Q : Row X} {k : ℕ} {ts us : Tokens} {x : X} → Answers P k ts (Got x us)
    → ((y : X) (rest : Tokens) → Q y ts rest → Stops k rest → (x ≡ y) × (us ≡ rest)) → Answers (Either P Q) k ts (Got x us)
either_same a g = record { found = first a.found; only = either_agrees a g }

-- a level of nesting
room_parts : {X : Type 0} {n : ℕ} {P : Row X} {ts rest : Tokens} {x : X} → Room n P x ts rest → (0 < n) × P x ts rest
room_parts (room lt p) = (lt, p)

pub room_answers : {X : Type 0} {n k : ℕ} {P : Row X} {ts : Tokens} {o : Outcome X} → 0 < n → Answers P k ts o → Answers (Room n P) k ts o
room_answers lt a = through (λ x rest p. room lt p) (λ x rest p h. ((room_parts p).1, h)) a

pub room_never : {X : Type 0} {n : ℕ} {P : Row X} {ts : Tokens} → n ≡ 0 → Never (Room n P) ts
room_never e x rest p = let lt = (room_parts p).0 in omega arith

pub room_agrees : {X : Type 0} {n k : ℕ} {P : Row X} {ts : Tokens} {o : Outcome X} → Answers P k ts o
    → (y : X) (rest : Tokens) → Room n P y ts rest → Stops k rest → Agrees o y rest
room_agrees a y rest p h = a.only y rest (room_parts p).1 h

-- which class stands before a form
done_stops : {X : Type 0} {x : X} {j k : ℕ} → k ≤ j → (y : X) (ts rest : Tokens) → Done x y ts rest → Stops k rest → Stops j ts
done_stops le y ts rest done h = stops_more le rest h

pub done_leads : {X : Type 0} {x : X} {j k : ℕ} → k ≤ j → Leads (Done x) k j
done_leads le = record { stops = done_stops le }

after_stops : {X : Type 0} {P : Row X} {token : TokenMeaning} {j : ℕ} (k : ℕ) → grip token < j → (y : X) (ts rest : Tokens)
    → After token P y ts rest → Stops k rest → Stops j ts
after_stops k lt y ts rest (after p) h = lt

pub after_leads : {X : Type 0} {P : Row X} {token : TokenMeaning} {j k : ℕ} → grip token < j → Leads (After token P) k j
after_leads {k = k} lt = record { stops = after_stops k lt }

then_stops : {X Y : Type 0} {P : Row X} {Q : X → Row Y} {i j k : ℕ} → ((x : X) → Leads (Q x) k j) → Leads P j i
    → (y : Y) (ts rest : Tokens) → Then P Q y ts rest → Stops k rest → Stops i ts
then_stops leads l y ts rest (before {x = x} {us = us} p q) h = l.stops x ts us p ((leads x).stops y us rest q h)

pub then_leads : {X Y : Type 0} {P : Row X} {Q : X → Row Y} {i j k : ℕ} → ((x : X) → Leads (Q x) k j) → Leads P j i → Leads (Then P Q) k i
then_leads leads l = record { stops = then_stops leads l }

perhaps_stops : {X : Type 0} {P : Row X} {d : X} {j k : ℕ} → k ≤ j → Leads P k j → (y : X) (ts rest : Tokens)
    → Perhaps d P y ts rest → Stops k rest → Stops j ts
perhaps_stops le l y ts rest absent h = stops_more le rest h
perhaps_stops le l y ts rest (present p) h = l.stops y ts rest p h

pub perhaps_leads : {X : Type 0} {P : Row X} {d : X} {j k : ℕ} → k ≤ j → Leads P k j → Leads (Perhaps d P) k j
perhaps_leads le l = record { stops = perhaps_stops le l }

either_stops : {X : Type 0} {P Q : Row X} {j k : ℕ} → Leads P k j → Leads Q k j → (y : X) (ts rest : Tokens)
    → Either P Q y ts rest → Stops k rest → Stops j ts
either_stops l m y ts rest (first p) h = l.stops y ts rest p h
either_stops l m y ts rest (second p) h = m.stops y ts rest p h

pub either_leads : {X : Type 0} {P Q : Row X} {j k : ℕ} → Leads P k j → Leads Q k j → Leads (Either P Q) k j
either_leads l m = record { stops = either_stops l m }

one_stops : {X : Type 0} {says : TokenMeaning → Option X} {j : ℕ} (k : ℕ)
    → ((token : TokenMeaning) (x : X) → says token ≡ Some x → grip token < j) → (y : X) (ts rest : Tokens)
    → One says y ts rest → Stops k rest → Stops j ts
one_stops k g y ts rest (one {token = token} e) h = g token y e

pub one_leads : {X : Type 0} {says : TokenMeaning → Option X} {j k : ℕ}
    → ((token : TokenMeaning) (x : X) → says token ≡ Some x → grip token < j) → Leads (One says) k j
one_leads {k = k} g = record { stops = one_stops k g }

-- something made of what is read
pub as_got : {X Y : Type 0} {f : X → Y} {P : Row X} {k : ℕ} {ts us : Tokens} {x : X} → Answers P k ts (Got x us)
    → Answers (As f P) k ts (Got (f x) us)
as_got a = then_got (λ x. done_leads (omega arith)) a done_got

pub as_refused : {X Y : Type 0} {f : X → Y} {P : Row X} {k : ℕ} {ts : Tokens} (e : ParseFault) → Answers P k ts (failed e)
    → Answers (As f P) k ts (failed e)
as_refused e a = then_refused e (λ x. done_leads (omega arith)) a

pub as_leads : {X Y : Type 0} {f : X → Y} {P : Row X} {j k : ℕ} → Leads P k j → Leads (As f P) k j
as_leads l = then_leads (λ x. done_leads (omega arith)) l

-- row )
pub closed_refused : {X : Type 0} {P : Row X} {j k : ℕ} {ts : Tokens} (f : ParseFault) → 0 < j → Answers P j ts (failed f)
    → Answers (Closed P) k ts (failed f)
closed_refused f lt a = then_refused f (λ x. after_leads lt) a

pub closed_missing : {X : Type 0} {P : Row X} {j k : ℕ} {ts us : Tokens} {x : X} → 0 < j → Answers P j ts (Got x us)
    → ((vs : Tokens) → us ≡ CloseSign ∷ vs → ⊥) → Answers (Closed P) k ts Refused
closed_missing lt a g = then_got (λ x. after_leads lt) a (after_missing g)

pub closed_got : {X : Type 0} {P : Row X} {j k : ℕ} {ts us vs : Tokens} {x : X} → 0 < j → Answers P j ts (Got x us)
    → us ≡ CloseSign ∷ vs → Answers (Closed P) k ts (Got x vs)
closed_got lt a e = then_got (λ x. after_leads lt) a (after_got e done_got)

pub closed_by : {A S X : Type 0} {P : Row X} {j k : ℕ} {ts us : Tokens} {x : A} (said : A → X) (left : S
    → List Token) (r : Result (A × S) ParseFault) → 0 < j → Answers P j ts (Got (said x) us)
    → IfOk r (λ y. (y.0 ≡ x) × (us ≡ CloseSign ∷ meanings (left y.1)))
    → IfErr r (λ e. (e ≡ Syntax) × ((vs : Tokens) → us ≡ CloseSign ∷ vs → ⊥))
    → Answers (Closed P) k ts (outcome (λ y. said y.0) (λ y. left y.1) r)
closed_by said left (Ok y) lt a h g = got_along (ap said h.0) refl (closed_got lt a h.1)
closed_by {P = P} {k = k} {ts = ts} said left (Err e) lt a h g =
    subst (λ (x : ParseFault). Answers (Closed P) k ts (failed x)) (sym g.0) (closed_missing lt a g.1)

-- lists
-- items, before what was got of the rest
abbrev pub prefixed : {X : Type 0} → List X → Outcome (List X) → Outcome (List X)
prefixed front (Got xs rest) = Got (front ++ xs) rest
prefixed front Refused = Refused
prefixed front Short = Short

-- behind these items the list goes on where so many tokens are left
pub record Listing {X : Type 0} (P : Row X) (ts : Tokens) (front : List X) (left : Tokens) : Type 0 where
  pub go : (o : Outcome (List X)) → Answers (Listed P) 12 left o → Answers (Listed P) 12 ts (prefixed front o)

prefixed_none : {X : Type 0} {P : Row X} {ts : Tokens} → (o : Outcome (List X)) → Answers (Listed P) 12 ts o
    → Answers (Listed P) 12 ts (prefixed [] o)
prefixed_none (Got xs rest) a = a
prefixed_none Refused a = a
prefixed_none Short a = a

pub listing_none : {X : Type 0} {P : Row X} {ts : Tokens} → Listing P ts [] ts
listing_none = record { go = prefixed_none }

comma_stops : {ts us : Tokens} → ts ≡ CommaSign ∷ us → Stops 12 ts → ⊥
comma_stops {ts} {us} e h = let g : Stops 12 (CommaSign ∷ us) = subst (λ (x : Tokens). Stops 12 x) e h in omega arith

cons_along : {X : Type 0} {x x' : X} (xs : List X) (rest : Tokens) (o : Outcome (List X)) → x ≡ x' → Agrees o xs rest
    → Agrees (prefixed (x ∷ []) o) (x' ∷ xs) rest
cons_along xs rest (Got ys r) e h = let q = h.0 in (cc, h.1)
cons_along xs rest Refused e h = absurd h
cons_along xs rest Short e h = tt

next_only : {X : Type 0} {P : Row X} {j : ℕ} {ts us : Tokens} {x : X} {o : Outcome (List X)} → 12 < j
    → Answers P j ts (Got x (CommaSign ∷ us)) → Answers (Listed P) 12 us o → (ys : List X) (rest : Tokens)
    → Listed P ys ts rest → Stops 12 rest → Agrees (prefixed (x ∷ []) o) ys rest
next_only lt a b ys rest (last p) h = absurd (comma_stops (sym (a.only _ _ p (stops_more (omega arith) rest h)).1) h)
next_only {P = P} {o = o} lt a b ys rest (next {xs = xs} {us = us'} p l) h =
    let e = a.only _ _ p lt in
    cons_along xs rest o e.0 (b.only xs rest (subst (λ (z : Tokens). Listed P xs z rest) (sym (tails e.1)) l) h)

next_read : {X : Type 0} (P : Row X) {ts us : Tokens} {x : X} → P x ts (CommaSign ∷ us) → (o : Outcome (List X))
    → IsRead (Listed P) us o → IsRead (Listed P) ts (prefixed (x ∷ []) o)
next_read P p (Got xs rest) h = next p h
next_read P p Refused h = tt
next_read P p Short h = tt

pub listed_next : {X : Type 0} {P : Row X} {j : ℕ} {ts us : Tokens} {x : X} {o : Outcome (List X)} → 12 < j
    → Answers P j ts (Got x (CommaSign ∷ us)) → Answers (Listed P) 12 us o → Answers (Listed P) 12 ts (prefixed (x ∷ []) o)
listed_next {P = P} {o = o} lt a b = record { found = next_read P a.found o b.found; only = next_only lt a b }

last_only : {X : Type 0} {P : Row X} {j : ℕ} {ts us : Tokens} {x : X} → 12 < j → Answers P j ts (Got x us)
    → ((vs : Tokens) → us ≡ CommaSign ∷ vs → ⊥) → (ys : List X) (rest : Tokens) → Listed P ys ts rest → Stops 12 rest
    → ((x ∷ []) ≡ ys) × (us ≡ rest)
last_only lt a g ys rest (last p) h = let e = a.only _ _ p (stops_more (omega arith) rest h) in (cc, e.1)
last_only lt a g ys rest (next p l) h = absurd (g _ (a.only _ _ p lt).1)

pub listed_last : {X : Type 0} {P : Row X} {j : ℕ} {ts us : Tokens} {x : X} → 12 < j → Answers P j ts (Got x us)
    → ((vs : Tokens) → us ≡ CommaSign ∷ vs → ⊥) → Answers (Listed P) 12 ts (Got (x ∷ []) us)
listed_last lt a g = record { found = last a.found; only = last_only lt a g }

listed_fails : {X : Type 0} {P : Row X} {j : ℕ} {ts : Tokens} (f : ParseFault) → 12 < j → Answers P j ts (failed f)
    → (ys : List X) (rest : Tokens) → Listed P ys ts rest → Stops 12 rest → Agrees {X = List X} (failed f) ys rest
listed_fails f lt a ys rest (last p) h = failed_agrees f _ ys rest rest (a.only _ _ p (stops_more (omega arith) rest h))
listed_fails f lt a ys rest (next {us = us} p l) h = failed_agrees f _ ys (CommaSign ∷ us) rest (a.only _ _ p lt)

pub listed_refused : {X : Type 0} {P : Row X} {j : ℕ} {ts : Tokens} (f : ParseFault) → 12 < j → Answers P j ts (failed f)
    → Answers (Listed P) 12 ts (failed f)
listed_refused f lt a = never f (listed_fails f lt a)

-- one more item
prefixed_more : {X : Type 0} {P : Row X} {ts : Tokens} (front : List X) (x : X) (o : Outcome (List X))
    → Answers (Listed P) 12 ts (prefixed front (prefixed (x ∷ []) o)) → Answers (Listed P) 12 ts (prefixed (front ++ (x ∷ [])) o)
prefixed_more front x (Got xs rest) a = got_along (append_assoc front (x ∷ []) xs) refl a
prefixed_more front x Refused a = a
prefixed_more front x Short a = a

pub listing_more : {X : Type 0} {P : Row X} {j : ℕ} {ts left us vs : Tokens} {front new : List X} {x : X} → 12 < j
    → Listing P ts front left → Answers P j left (Got x us) → us ≡ CommaSign ∷ vs → new ≡ front ++ (x ∷ []) → Listing P ts new vs
listing_more {X = X} {P = P} {ts = ts} {front = front} {x = x} lt inv a e n = record {
  go = λ o b.
      subst (λ (z : List X). Answers (Listed P) 12 ts (prefixed z o)) (sym n)
      (prefixed_more front x o (inv.go (prefixed (x ∷ []) o) (listed_next lt (got_along refl (sym e) a) b)));
}

pub listing_got : {X : Type 0} {P : Row X} {j : ℕ} {ts left us : Tokens} {front new : List X} {x : X} → 12 < j
    → Listing P ts front left → Answers P j left (Got x us) → ((vs : Tokens) → us ≡ CommaSign ∷ vs → ⊥)
    → new ≡ front ++ (x ∷ []) → Answers (Listed P) 12 ts (Got new us)
listing_got {us = us} {x = x} lt inv a g n = got_along n refl (inv.go (Got (x ∷ []) us) (listed_last lt a g))

pub listing_refused : {X : Type 0} {P : Row X} {j : ℕ} {ts left : Tokens} {front : List X} (f : ParseFault) → 12 < j
    → Listing P ts front left → Answers P j left (failed f) → Answers (Listed P) 12 ts (failed f)
listing_refused Syntax lt inv a = inv.go Refused (listed_refused Syntax lt a)
listing_refused NoMemory lt inv a = inv.go Short (listed_refused NoMemory lt a)

-- a reading that ends at more tokens ends at fewer
pub answers_less : {X : Type 0} {P : Row X} {j k : ℕ} {ts : Tokens} {o : Outcome X} → k ≤ j → Answers P j ts o → Answers P k ts o
answers_less le a = record { found = a.found; only = λ y rest p h. a.only y rest p (stops_more le rest h) }

-- a token with at least this grip goes on
pub grips : {k : ℕ} {token : TokenMeaning} {ts us : Tokens} → ts ≡ token ∷ us → k ≤ grip token → Stops k ts → ⊥
grips {k} {token} {ts} {us} e le h = let g : Stops k (token ∷ us) = subst (λ (x : Tokens). Stops k x) e h in omega arith

-- where rows read nothing
heads : {a b : TokenMeaning} {xs ys : Tokens} → a ∷ xs ≡ b ∷ ys → a ≡ b
heads e = cc

pub other_token : {X : Type 0} {P : Row X} {token other : TokenMeaning} {ts us : Tokens} → ts ≡ token ∷ us
    → (token ≡ other → ⊥) → Never (After other P) ts
other_token e g x rest p = let f = after_parts p in g (heads (sym e ∙ f.1))

pub one_parts : {X : Type 0} {says : TokenMeaning → Option X} {x : X} {ts rest : Tokens} → One says x ts rest
    → (token : TokenMeaning) × (ts ≡ token ∷ rest) × (says token ≡ Some x)
one_parts (one {token = token} e) = (token, refl, e)

none_some : {X : Type 0} {x : X} → ◌≡◌ {A = Option X} None (Some x) → ⊥
none_some e = cc

pub not_said : {X : Type 0} {says : TokenMeaning → Option X} {token : TokenMeaning} {ts us : Tokens} → ts ≡ token ∷ us
    → says token ≡ None → Never (One says) ts
not_said {says = says} e g x rest p = let f = one_parts p in none_some (sym g ∙ ap says (heads (sym e ∙ f.1)) ∙ f.2)

pub never_either : {X : Type 0} {P Q : Row X} {ts : Tokens} → Never P ts → Never Q ts → Never (Either P Q) ts
never_either g h x rest (first p) = g x rest p
never_either g h x rest (second q) = h x rest q

pub never_then : {X Y : Type 0} {P : Row X} {Q : X → Row Y} {ts : Tokens} → Never P ts → Never (Then P Q) ts
never_then g y rest (before {x = x} {us = us} p q) = g x us p

never_room' : {X : Type 0} {n : ℕ} {P : Row X} {ts : Tokens} → Never P ts → (x : X) (rest : Tokens) → Room n P x ts rest → ⊥
never_room' g x rest (room lt p) = g x rest p

pub never_room : {X : Type 0} {n : ℕ} {P : Row X} {ts : Tokens} → Never P ts → Never (Room n P) ts
never_room g x rest p = never_room' g x rest p

pub never_listed : {X : Type 0} {P : Row X} {ts : Tokens} → Never P ts → Never (Listed P) ts
never_listed g y rest (last {x = x} p) = g x rest p
never_listed g y rest (next {x = x} {us = us} p l) = g x (CommaSign ∷ us) p

-- no token grips more than 30
any_keyword : (k : Keyword) → keyword_grip k < 31
any_keyword keywords.Not = omega arith
any_keyword _ = omega arith

any_symbol : (s : Symbol) → symbol_grip s < 31
any_symbol symbols.Comma = omega arith
any_symbol _ = omega arith

any_token : (token : TokenMeaning) → grip token < 31
any_token (KeywordToken k) = any_keyword k
any_token (NameToken name) = omega arith
any_token (NumberToken n) = omega arith
any_token (TextToken text) = omega arith
any_token (SymbolToken s) = any_symbol s

any_stops : (ts : Tokens) → Stops 31 ts
any_stops [] = tt
any_stops (token ∷ ts) = any_token token

pub any_leads : {X : Type 0} {P : Row X} {k : ℕ} → Leads P k 31
any_leads = record { stops = λ x ts rest p h. any_stops ts }

one_then_stops : {X Y : Type 0} {says : TokenMeaning → Option X} {Q : X → Row Y} {j : ℕ} (k : ℕ)
    → ((token : TokenMeaning) (x : X) → says token ≡ Some x → grip token < j) → (y : Y) (ts rest : Tokens)
    → Then (One says) Q y ts rest → Stops k rest → Stops j ts
one_then_stops k g y ts rest (before {x = x} (one {token = token} e) q) h = g token x e

pub one_then_leads : {X Y : Type 0} {says : TokenMeaning → Option X} {Q : X → Row Y} {j k : ℕ}
    → ((token : TokenMeaning) (x : X) → says token ≡ Some x → grip token < j) → Leads (Then (One says) Q) k j
one_then_leads {k = k} g = record { stops = one_then_stops k g }

-- an optional row, and then one that may follow it
pub never_perhaps_then : {X Y : Type 0} {d : X} {P : Row X} {Q : X → Row Y} {ts : Tokens} → Never P ts
    → ((x : X) → Never (Q x) ts) → Never (Then (Perhaps d P) Q) ts
never_perhaps_then {d = d} g h y rest (before absent q) = h d y rest q
never_perhaps_then g h y rest (before {x = x} {us = us} (present p) q) = absurd (g x us p)
