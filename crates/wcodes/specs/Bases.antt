-- The number of a column that its key puts first, from which codes are counted.
use Rattle.std.specs.Prelude.{ℤ, pos, List, fold, Option, Some, None, unwrap_or, if◌then◌else◌}
use Rattle.std.specs.Ordering.{int_cmp, is_lt}
use Rattle.wvalues.specs.declared.key.SortKey.{SortKey}
use Rattle.wvalues.specs.Meaning.{Meaning, Int}

-- the one of two numbers that a key puts first
abbrev pub sooner : SortKey → ℤ → ℤ → ℤ
sooner k a b = if (if k.desc then is_lt (int_cmp b a) else is_lt (int_cmp a b)) then a else b

-- the number that it puts first, with one more value
abbrev pub first_yet : SortKey → Option ℤ → Meaning → Option ℤ
first_yet k (Some a) (Int b) = Some (sooner k a b)
first_yet k None (Int b) = Some b
first_yet k first _ = first

-- 0 where there is no number
abbrev pub base_in : SortKey → List Meaning → ℤ
base_in k column = unwrap_or (fold (first_yet k) None column) (pos 0)
