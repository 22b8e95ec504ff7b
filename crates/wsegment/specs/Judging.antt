-- What is left of the rows of bytes once their cells are forgotten: that they are good, and how many they are, or the first fault.
use Rattle.std.specs.Prelude.{◌≡◌, ℕ, List, [], length, Result, Ok, Err}
use Rattle.wsegment.specs.Declaration.{Declaration}
use Rattle.wsegment.specs.Rows.{rows_of}
use Rattle.wsegment.specs.declared.fault.SegmentFault.{SegmentFault}

-- whether something is good, or its fault
abbrev pub verdict : {A : Type 0} → Result A SegmentFault → Result (Unit {0}) SegmentFault
verdict (Ok x) = Ok tt
verdict (Err fault) = Err fault

-- how many there are, or the fault
abbrev pub counted : {A : Type 0} → Result (List A) SegmentFault → Result ℕ SegmentFault
counted (Ok xs) = Ok (length xs)
counted (Err fault) = Err fault

-- these bytes have so many rows by the declaration, each of them good
abbrev pub IsJudged : Declaration → List ℕ → ℕ → Type 0
IsJudged d bytes count = counted (rows_of d bytes) ≡ Ok count

-- what was read, where it is good
abbrev pub where_good : {A : Type 0} → Result (List A) SegmentFault → List A
where_good (Ok xs) = xs
where_good (Err fault) = []
