-- The constants of a list: which of them are equal to a value, and which stand in no order to it (<comparison predicate>).
use Rattle.std.specs.Prelude.{◌≡◌, ℕ, ℤ, Bool, true, false, List, map}
use Rattle.std.specs.BTreeSet.{contains, contains_text}
use Rattle.std.specs.List.{list_any}
use Rattle.std.specs.Ordering.{int_cmp, int_eq}
use Rattle.std.specs.Str.{bytes_eq}
use Rattle.wvalues.specs.Meaning.{Meaning, Null, Int, Text, meaning}
use Rattle.wplan.specs.declared.constants.Constants.TheInside.{Inside}

-- a null is equal to nothing, nor is a number to a text
abbrev pub are_equal : Meaning → Meaning → Bool
are_equal (Int x) (Int y) = int_eq x y
are_equal (Text x) (Text y) = bytes_eq x y
are_equal _ _ = false

abbrev pub is_no_number : Meaning → Bool
is_no_number (Int x) = false
is_no_number _ = true

abbrev pub is_no_text : Meaning → Bool
is_no_text (Text t) = false
is_no_text _ = true

-- a null stands in no order to anything, nor does a number to a text
abbrev pub stand_apart : Meaning → Meaning → Bool
stand_apart Null y = true
stand_apart (Int x) y = is_no_number y
stand_apart (Text x) y = is_no_text y

-- the values as they are written
abbrev pub values_of : Inside → List Meaning
values_of c = map meaning c.written.items

-- each number and each text is found in a set, and it is known whether there is anything else
pub record AreFound (c : Inside) : Type 0 where
  pub numbers : (x : ℤ) → contains int_cmp c.numbers x ≡ list_any (are_equal (Int x)) (values_of c)
  pub texts : (x : List ℕ) → contains_text c.texts x ≡ list_any (are_equal (Text x)) (values_of c)
  pub has_no_number : c.has_no_number ≡ list_any (λ v. is_no_number (meaning v)) c.written.items
  pub has_no_text : c.has_no_text ≡ list_any (λ v. is_no_text (meaning v)) c.written.items
