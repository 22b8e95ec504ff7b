-- What is meant where nothing is at fault, else the first fault.
use Rattle.std.specs.Prelude.{◌≡◌, Bool, List, [], ◌∷◌, Result, Ok, Err, if◌then◌else◌}
use Rattle.wrows.specs.declared.fault.AnswerFault.{AnswerFault}
use Rattle.wrows.specs.declared.fault.AnswerFault.TheVariants.{OutOfRange, TooManyRows, NoMemory}

-- one after the other, up to the first fault
infixl 10 ◌>>=◌
abbrev pub ◌>>=◌ : {A B : Type 0} → Result A AnswerFault → (A → Result B AnswerFault) → Result B AnswerFault
(Ok x) >>= f = f x
(Err e) >>= f = Err e

-- a fault where it applies, else what is meant
abbrev pub unless : {A : Type 0} → Bool → AnswerFault → A → Result A AnswerFault
unless at_fault fault meant = if at_fault then Err fault else Ok meant

-- what each element means, or the fault of the first that has one
abbrev pub each : {A B : Type 0} → (A → Result B AnswerFault) → List A → Result (List B) AnswerFault
each f [] = Ok []
each f (x ∷ xs) = f x >>= λ y. each f xs >>= λ ys. Ok (y ∷ ys)

-- what a call answers, seen by view, is what is meant, unless memory ran out
abbrev pub Gives : {X Y : Type 0} → (X → Y) → Result X AnswerFault → Result Y AnswerFault → Type 0
Gives view (Ok x) meant = meant ≡ Ok (view x)
Gives view (Err OutOfRange) meant = meant ≡ Err OutOfRange
Gives view (Err TooManyRows) meant = meant ≡ Err TooManyRows
Gives view (Err NoMemory) meant = Unit {0}
