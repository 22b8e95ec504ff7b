-- The notation of the grammar: what it means that tokens are read by a row, up to a rest.
use Rattle.std.specs.Prelude.{◌≡◌, ℕ, ◌<◌, List, [], ◌∷◌, Option, Some, map}
use Rattle.wlexer.specs.Token.{TokenMeaning, meaning_of}
use Rattle.wlexer.specs.declared.token.Token.{Token}
use Rattle.wquery.specs.declared.expression.ChainKind.{ChainKind}
use Rattle.wquery.specs.declared.expression.Operator.{Operator}
use Rattle.wquery.specs.Tree.{Tree, joined}
use Rattle.wtokens.specs.Words.{operator_of, CommaSign}

abbrev pub Tokens : Type 0
Tokens = List TokenMeaning

-- what tokens say
abbrev pub meanings : List Token → Tokens
meanings ts = map meaning_of ts

-- how a row reads tokens as a value, up to a rest
abbrev pub Row : Type 0 → Type 1
Row X = X → Tokens → Tokens → Type 0

-- one token of a kind, for what it says
pub data One {X : Type 0} (says : TokenMeaning → Option X) : X → List TokenMeaning → List TokenMeaning → Type 0 where
  one : {x : X} {token : TokenMeaning} {rest : List TokenMeaning} → says token ≡ Some x → One says x (token ∷ rest) rest

-- this token, and then the row
pub data After {X : Type 0} (token : TokenMeaning) (P : Row X) : X → List TokenMeaning → List TokenMeaning → Type 0 where
  after : {x : X} {ts rest : List TokenMeaning} → P x ts rest → After token P x (token ∷ ts) rest

-- a row, and then one that knows what the first has read
pub data Then {X Y : Type 0} (P : Row X) (Q : X → Row Y) : Y → List TokenMeaning → List TokenMeaning → Type 0 where
  before : {x : X} {y : Y} {ts us rest : List TokenMeaning} → P x ts us → Q x y us rest → Then P Q y ts rest

-- nothing more
pub data Done {X : Type 0} (x : X) : X → List TokenMeaning → List TokenMeaning → Type 0 where
  done : {rest : List TokenMeaning} → Done x x rest rest

-- [ row ]
pub data Perhaps {X : Type 0} (otherwise : X) (P : Row X) : X → List TokenMeaning → List TokenMeaning → Type 0 where
  absent : {rest : List TokenMeaning} → Perhaps otherwise P otherwise rest rest
  present : {x : X} {ts rest : List TokenMeaning} → P x ts rest → Perhaps otherwise P x ts rest

-- row | row
pub data Either {X : Type 0} (P Q : Row X) : X → List TokenMeaning → List TokenMeaning → Type 0 where
  first : {x : X} {ts rest : List TokenMeaning} → P x ts rest → Either P Q x ts rest
  second : {x : X} {ts rest : List TokenMeaning} → Q x ts rest → Either P Q x ts rest

-- a row that takes a level of nesting, where `n` are left
pub data Room {X : Type 0} (n : ℕ) (P : Row X) : X → List TokenMeaning → List TokenMeaning → Type 0 where
  room : {x : X} {ts rest : List TokenMeaning} → 0 < n → P x ts rest → Room n P x ts rest

-- row {, row}
pub data Listed {X : Type 0} (P : Row X) : List X → List TokenMeaning → List TokenMeaning → Type 0 where
  last : {x : X} {ts rest : List TokenMeaning} → P x ts rest → Listed P (x ∷ []) ts rest
  next : {x : X} {xs : List X} {ts us rest : List TokenMeaning} → P x ts (CommaSign ∷ us) → Listed P xs us rest → Listed P (x ∷ xs) ts rest

-- {operator row} behind a first operand, joined from the left
pub data GoesOn (kind : ChainKind) (P : Row Tree) : Tree → Tree → List TokenMeaning → List TokenMeaning → Type 0 where
  ended : {tree : Tree} {rest : List TokenMeaning} → GoesOn kind P tree tree rest rest
  further : {token : TokenMeaning} {operator : Operator} {first operand tree : Tree} {ts us rest : List TokenMeaning}
      → operator_of kind token ≡ Some operator → P operand ts us → GoesOn kind P (joined kind first operator operand) tree
      us rest → GoesOn kind P first tree (token ∷ ts) rest

-- row {operator row}
pub data Chain (kind : ChainKind) (P : Row Tree) : Tree → List TokenMeaning → List TokenMeaning → Type 0 where
  chaining : {first tree : Tree} {ts us rest : List TokenMeaning} → P first ts us → GoesOn kind P first tree us rest
      → Chain kind P tree ts rest

-- a row, for something made of what it has read
abbrev pub As : {X Y : Type 0} → (X → Y) → Row X → Row Y
As f P = Then P (λ x. Done (f x))

-- the row reads nothing here
abbrev pub Never : {X : Type 0} → Row X → Tokens → Type 0
Never {X} P ts = (x : X) (rest : Tokens) → P x ts rest → ⊥
