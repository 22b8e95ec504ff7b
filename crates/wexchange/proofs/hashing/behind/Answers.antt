use Rattle.std.proofs.Common.{◌≢◌, ◌≡◌, ◌++◌, ℕ, List, Option, Some, None, MatchOption, IfSome, IfNone, Bor}
use Rattle.std.proofs.lemmas.Bool.Decides.{Decides-eqb}
use Rattle.std.proofs.lemmas.Slice.Eq.{strip_prefix_is}
use Rattle.wexchange.proofs.hashing.behind.Goals as goal

some_of : (r : Option (Bor (List ℕ))) (P : Type 0) (Q : Bor (List ℕ) → Type 0) → MatchOption r P Q → IfSome r Q
some_of None P Q h = tt
some_of (Some x) P Q h = h

none_of : (r : Option (Bor (List ℕ))) (P : Type 0) (Q : Bor (List ℕ) → Type 0) → MatchOption r P Q → IfNone r P
none_of None P Q h = h
none_of (Some x) P Q h = tt

pub returns-clause-found : goal.returns-clause-found
returns-clause-found c =
    some_of c.strip_prefix.result ((rest : List ℕ) → c.args.bytes.now ≢ c.args.front.now ++ rest)
    (λ rest. c.args.bytes.now ≡ c.args.front.now ++ rest.now)
    (strip_prefix_is Decides-eqb c.args.bytes.now c.args.front.now c.strip_prefix.result c.strip_prefix.ensures.cases)

pub returns-clause-none : goal.returns-clause-none
returns-clause-none c =
    none_of c.strip_prefix.result ((rest : List ℕ) → c.args.bytes.now ≢ c.args.front.now ++ rest)
    (λ rest. c.args.bytes.now ≡ c.args.front.now ++ rest.now)
    (strip_prefix_is Decides-eqb c.args.bytes.now c.args.front.now c.strip_prefix.result c.strip_prefix.ensures.cases)
