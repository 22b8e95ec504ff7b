-- How a sum is stored: twice as large and one more, so that it is odd; 0 where there is none.
use Rattle.std.specs.Prelude.{◌≡◌, ℤ, pos, ◌+ℤ◌, Option, Some, None, if◌then◌else◌}
use Rattle.std.specs.Ordering.{int_eq}
use Rattle.std.specs.Int.{int_shr}
use Rattle.wslide.specs.declared.partial_sum.PartialSum.TheInside.{Inside}

abbrev pub sum_of : Inside → Option ℤ
sum_of a = if int_eq a.number (pos 0) then None else Some (int_shr a.number 1)

abbrev pub stored : Option ℤ → Inside
stored None = record { number = pos 0 }
stored (Some z) = record { number = z +ℤ z +ℤ pos 1 }

pub record IsStored (a : Inside) : Type 0 where
  pub back : stored (sum_of a) ≡ a
