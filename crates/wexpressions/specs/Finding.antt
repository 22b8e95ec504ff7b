-- What a function that reads answers.
use Rattle.std.specs.Prelude.{◌≡◌, ◌≢◌, ℕ, List, ◌∷◌, Option, Some, None, Result, Ok, Err}
use Rattle.wlexer.specs.Token.{TokenMeaning, KeywordToken}
use Rattle.wlexer.specs.declared.keyword.Keyword.TheVariants as keywords
use Rattle.wlexer.specs.declared.token.Token.{Token}
use Rattle.wexpressions.specs.declared.fault.ParseFault.{ParseFault}
use Rattle.wexpressions.specs.declared.fault.ParseFault.TheVariants.{NoMemory, Syntax}
use Rattle.wtokens.specs.Notation.{Tokens, Row, meanings}
use Rattle.wexpressions.specs.Grips.{Stops}

-- a value with a rest, a refusal, or want of memory
pub data Outcome (X : Type 0) : Type 0 where
  Got : X → List TokenMeaning → Outcome X
  Refused : Outcome X
  Short : Outcome X

abbrev pub failed : {X : Type 0} → ParseFault → Outcome X
failed Syntax = Refused
failed NoMemory = Short

abbrev pub outcome : {A X : Type 0} → (A → X) → (A → List Token) → Result A ParseFault → Outcome X
outcome value left (Ok x) = Got (value x) (meanings (left x))
outcome value left (Err f) = failed f

-- the same of a function that asks for no memory
abbrev pub got_or_refused : {A X : Type 0} → (A → X) → (A → List Token) → Option A → Outcome X
got_or_refused value left (Some x) = Got (value x) (meanings (left x))
got_or_refused value left None = Refused

-- what was got is what the row reads
abbrev pub IsRead : {X : Type 0} → Row X → Tokens → Outcome X → Type 0
IsRead P ts (Got x rest) = P x ts rest
IsRead P ts Refused = Unit {0}
IsRead P ts Short = Unit {0}

-- this value and this rest were got, unless memory ran out
abbrev pub Agrees : {X : Type 0} → Outcome X → X → Tokens → Type 0
Agrees (Got x rest) y rest' = (x ≡ y) × (rest ≡ rest')
Agrees Refused y rest' = ⊥
Agrees Short y rest' = Unit {0}

-- The outcome is what the row reads, and all that it reads up to a rest that cannot go on with it.
pub record Answers {X : Type 0} (P : Row X) (k : ℕ) (ts : Tokens) (o : Outcome X) : Type 0 where
  pub found : IsRead P ts o
  pub only : (y : X) (rest : Tokens) → P y ts rest → Stops k rest → Agrees o y rest

-- none of NOT, BETWEEN and IN comes first
abbrev pub IsNoTest : Tokens → Type 0
IsNoTest ts = (us : Tokens) → (ts ≢ KeywordToken keywords.Not ∷ us) × (ts ≢ KeywordToken keywords.Between ∷ us)
    × (ts ≢ KeywordToken keywords.In ∷ us)

-- the token does not come first, and all is left
abbrev pub IsWithout : TokenMeaning → Tokens → Tokens → Type 0
IsWithout token ts rest = ((us : Tokens) → ts ≢ token ∷ us) × (ts ≡ rest)
