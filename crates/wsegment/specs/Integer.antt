-- The language of integer cells: one sign at most, then one digit or more, in the range of 64 bits.
use Rattle.std.specs.Prelude.{ℕ, ℤ, pos, neg_ℤ, ◌==◌, ◌&&◌, Bool, List, drop, length, nat_le}
use Rattle.std.specs.Prelude.{nat_lt, slice_index, if◌then◌else◌, Option, Some, None}
use Rattle.std.specs.Str.{all_ascii_digits}
use Rattle.std.specs.Str.Parse.{digits_value}

-- one digit or more, and nothing else
abbrev pub is_number : List ℕ → Bool
is_number ds = nat_lt 0 (length ds) && all_ascii_digits ds

-- what digits write, where they are digits and write n at most
abbrev pub number_of : ℕ → List ℕ → Option ℕ
number_of most ds = if is_number ds && nat_le (digits_value 10 ds) most then Some (digits_value 10 ds) else None

abbrev pub below_zero : Option ℕ → Option ℤ
below_zero None = None
below_zero (Some n) = Some (neg_ℤ (pos n))

abbrev pub from_zero : Option ℕ → Option ℤ
from_zero None = None
from_zero (Some n) = Some (pos n)

-- the number that a text spells: behind '-' down to -2^63, and else up to 2^63 - 1
abbrev pub integer_of : List ℕ → Option ℤ
integer_of bs =
    if slice_index bs 0 == 45 then below_zero (number_of 9223372036854775808 (drop 1 bs))
    else if slice_index bs 0 == 43 then from_zero (number_of 9223372036854775807 (drop 1 bs))
    else from_zero (number_of 9223372036854775807 bs)
