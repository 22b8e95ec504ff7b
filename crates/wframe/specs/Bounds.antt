-- Where the ends of a row's frame lie: <window frame bound>.
use Rattle.std.specs.Prelude.{ℕ, pos, ◌+◌, ◌+ℤ◌, ◌-ℤ◌, Bool, true, false, List, [], ◌∷◌, nat_lt, if◌then◌else◌}
use Rattle.std.specs.Ordering.{is_lt}
use Rattle.wvalues.specs.declared.key.SortKey.{SortKey}
use Rattle.wvalues.specs.Meaning.{Meaning, Null, Int, Text}
use Rattle.wvalues.specs.Order.{keys_cmp}
use Rattle.wframe.specs.declared.frame.FrameBound.{FrameBound}
use Rattle.wframe.specs.declared.frame.FrameBound.TheVariants.{UnboundedPreceding, Preceding, CurrentRow, Following, UnboundedFollowing}

-- whether number j lies before the start that a bound gives the row of number i
abbrev pub starts_after : FrameBound → ℕ → ℕ → Bool
starts_after UnboundedPreceding i j = false
starts_after (Preceding n) i j = nat_lt (j + n) i
starts_after CurrentRow i j = nat_lt j i
starts_after (Following n) i j = nat_lt j (i + n)
starts_after UnboundedFollowing i j = true

-- whether number j lies after the end that a bound gives the row of number i
abbrev pub ends_before : FrameBound → ℕ → ℕ → Bool
ends_before UnboundedPreceding i j = true
ends_before (Preceding n) i j = nat_lt i (j + n)
ends_before CurrentRow i j = nat_lt i j
ends_before (Following n) i j = nat_lt (i + n) j
ends_before UnboundedFollowing i j = false

-- a key moved along its order, among the unbounded whole numbers; a null stays that null
abbrev pub along : SortKey → ℕ → Meaning → Meaning
along k n Null = Null
along k n (Int z) = Int (if k.desc then z -ℤ pos n else z +ℤ pos n)
along k n (Text t) = Text t

-- a key moved against its order
abbrev pub against : SortKey → ℕ → Meaning → Meaning
against k n Null = Null
against k n (Int z) = Int (if k.desc then z +ℤ pos n else z -ℤ pos n)
against k n (Text t) = Text t

-- a list of one key, moved
abbrev pub moved : (SortKey → ℕ → Meaning → Meaning) → List SortKey → ℕ → List Meaning → List Meaning
moved move [] n key = key
moved move (k ∷ ks) n [] = []
moved move (k ∷ ks) n (x ∷ xs) = move k n x ∷ xs

-- whether the key list b lies before the start that a bound gives a row whose key list is a
abbrev pub key_starts_after : List SortKey → FrameBound → List Meaning → List Meaning → Bool
key_starts_after ks UnboundedPreceding a b = false
key_starts_after ks (Preceding n) a b = is_lt (keys_cmp ks b (moved against ks n a))
key_starts_after ks CurrentRow a b = is_lt (keys_cmp ks b a)
key_starts_after ks (Following n) a b = is_lt (keys_cmp ks b (moved along ks n a))
key_starts_after ks UnboundedFollowing a b = true

-- whether the key list b lies after the end that a bound gives a row whose key list is a
abbrev pub key_ends_before : List SortKey → FrameBound → List Meaning → List Meaning → Bool
key_ends_before ks UnboundedPreceding a b = true
key_ends_before ks (Preceding n) a b = is_lt (keys_cmp ks (moved against ks n a) b)
key_ends_before ks CurrentRow a b = is_lt (keys_cmp ks a b)
key_ends_before ks (Following n) a b = is_lt (keys_cmp ks (moved along ks n a) b)
key_ends_before ks UnboundedFollowing a b = false

-- whether a bound has an offset
abbrev pub is_offset : FrameBound → Bool
is_offset UnboundedPreceding = false
is_offset (Preceding n) = true
is_offset CurrentRow = false
is_offset (Following n) = true
is_offset UnboundedFollowing = false
