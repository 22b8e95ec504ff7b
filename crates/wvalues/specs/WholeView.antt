-- How a whole number is stored: 2^95 more than it, in three digits of 32 bits.
use Rattle.std.specs.Prelude.{◌≡◌, ℕ, ◌+◌, ◌*◌, ◌/◌, ◌%◌, ◌^◌, ℤ, pos, negsuc, ◌+ℤ◌, ◌-ℤ◌}
use Rattle.wvalues.specs.Whole.{IsWhole}
use Rattle.wvalues.specs.declared.whole.Whole.TheInside.{Inside}

abbrev pub total : Inside → ℕ
total a = a.high * 2 ^ 64 + a.middle * 2 ^ 32 + a.low

abbrev pub number_of : Inside → ℤ
number_of a = pos (total a) -ℤ pos (2 ^ 95)

abbrev pub digits : ℕ → Inside
digits n = record { high = n / 2 ^ 64; middle = n / 2 ^ 32 % 2 ^ 32; low = n % 2 ^ 32 }

abbrev pub natural : ℤ → ℕ
natural (pos n) = n
natural (negsuc n) = 0

abbrev pub stored : ℤ → Inside
stored z = digits (natural (z +ℤ pos (2 ^ 95)))

pub record IsStored (a : Inside) : Type 0 where
  pub back : stored (number_of a) ≡ a
  pub whole : IsWhole (number_of a)
