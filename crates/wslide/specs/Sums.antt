-- Sums of whole numbers, wrapped at 127 bits, where some number is added.
use Rattle.std.specs.Prelude.{ℤ, pos, neg_ℤ, ◌+ℤ◌, ◌-ℤ◌, ◌≤ℤ◌, ◌<ℤ◌, ◌^◌, int_lt, if◌then◌else◌, Option, Some, None, IfSome}
use Rattle.wvalues.specs.Meaning.{Meaning, Null, Int, Text}

-- a whole number of 127 bits
abbrev pub IsShort : ℤ → Type 0
IsShort z = (neg_ℤ (pos (2 ^ 126)) ≤ℤ z) × (z <ℤ pos (2 ^ 126))

-- such a number, or none
abbrev pub IsSum : Option ℤ → Type 0
IsSum sum = IfSome sum IsShort

-- the sum of two such numbers, wrapped at 127 bits
abbrev pub wrapped : ℤ → ℤ
wrapped z = if int_lt z (neg_ℤ (pos (2 ^ 126))) then z +ℤ pos (2 ^ 127) else (if int_lt z (pos (2 ^ 126)) then z else z -ℤ pos (2 ^ 127))

-- the sum, wrapped at 127 bits; none where both are none
abbrev pub sums_joined : Option ℤ → Option ℤ → Option ℤ
sums_joined None right = right
sums_joined (Some x) None = Some x
sums_joined (Some x) (Some y) = Some (wrapped (x +ℤ y))

-- what a value adds to a sum; a null adds nothing
abbrev pub sum_part : Meaning → Option ℤ
sum_part Null = None
sum_part (Int x) = Some x
sum_part (Text x) = Some (pos 0)
