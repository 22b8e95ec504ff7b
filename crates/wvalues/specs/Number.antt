-- Words that spell a number.
use Rattle.std.specs.Prelude.{◌≡◌, ◌≢◌, ℕ, ◌<◌, ◌^◌, List, length, slice_index}
use Rattle.std.specs.Fmt.{decimal}

-- no sign in front, and a zero in front only if that is all
pub record IsPlain (word : List ℕ) : Type 0 where
  pub filled : 0 < length word
  pub unsigned : slice_index word 0 ≢ 43
  pub canonical : slice_index word 0 ≡ 48 → length word ≡ 1

-- the word is the decimal digits of a number of 32 bits, without leading zeros
pub record SpellsNumber (word : List ℕ) (n : ℕ) : Type 0 where
  pub fits : n < 2 ^ 32
  pub digits : word ≡ decimal n
