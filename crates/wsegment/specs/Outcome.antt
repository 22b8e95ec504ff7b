-- What a reader answers, beside what its bytes mean.
use Rattle.std.specs.Prelude.{◌≡◌, ◌⊎◌, Result, Ok, Err}
use Rattle.wsegment.specs.declared.fault.SegmentFault.{SegmentFault}
use Rattle.wsegment.specs.declared.fault.SegmentFault.TheVariants.{NoMemory}

-- one after the other, up to the first fault
infixl 10 ◌>>=◌
abbrev pub ◌>>=◌ : {A B : Type 0} → Result A SegmentFault → (A → Result B SegmentFault) → Result B SegmentFault
(Ok x) >>= f = f x
(Err e) >>= f = Err e

-- memory ran out, or this is the fault of what was read
abbrev pub Fails : {Y : Type 0} → SegmentFault → Result Y SegmentFault → Type 0
Fails fault meant = (fault ≡ NoMemory) ⊎ (meant ≡ Err fault)

-- an answer, seen by view, is what was meant, unless memory ran out
abbrev pub Gives : {X Y : Type 0} → (X → Y) → Result X SegmentFault → Result Y SegmentFault → Type 0
Gives view (Ok x) meant = meant ≡ Ok (view x)
Gives view (Err fault) meant = Fails fault meant
