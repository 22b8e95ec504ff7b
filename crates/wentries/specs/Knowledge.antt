-- What is known of a name that is not unknown, by itself or by a floor of its origin, and what two who know it know together.
use Rattle.std.specs.Prelude.{ℕ, Bool, false, ◌&&◌, nat_eq, nat_lt, List, [], ◌∷◌, Option, None, Some, if◌then◌else◌}
use Rattle.std.specs.Ordering.{is_eq}
use Rattle.std.specs.Cmp.Lexicographic.{pointwise}
use Rattle.wvalues.specs.Names.{NameParts, name_cmp}

-- what is known under a name that is not unknown
pub data Known : Type 0 where
  Live : List ℕ → Known
  Disputed : Known
  Retired : Known
  -- it is retired, and so are all names of its origin with a smaller number
  Floor : Known

-- neither stands before the other
abbrev pub same_name : NameParts → NameParts → Bool
same_name a b = is_eq (name_cmp a b)

-- contents are the same where each byte is, and origins too
abbrev pub same_bytes : List ℕ → List ℕ → Bool
same_bytes a b = pointwise nat_eq a b

-- the second is a greater number of the same origin
abbrev pub is_above : NameParts → NameParts → Bool
is_above n m = same_bytes n.origin m.origin && nat_lt n.number m.number

-- the entry is a floor above the name
abbrev pub is_over : NameParts → (NameParts × Known) → Bool
is_over n (m, Live bytes) = false
is_over n (m, Disputed) = false
is_over n (m, Retired) = false
is_over n (m, Floor) = is_above n m

-- a floor beats all else under its name, retired beats disputed, disputed beats a content, and two different contents give disputed
abbrev pub join_known : Known → Known → Known
join_known Floor k = Floor
join_known Retired Floor = Floor
join_known Retired Retired = Retired
join_known Retired Disputed = Retired
join_known Retired (Live b) = Retired
join_known Disputed Floor = Floor
join_known Disputed Retired = Retired
join_known Disputed Disputed = Disputed
join_known Disputed (Live b) = Disputed
join_known (Live a) Floor = Floor
join_known (Live a) Retired = Retired
join_known (Live a) Disputed = Disputed
join_known (Live a) (Live b) = if same_bytes a b then Live a else Disputed

-- the number of a floor of this origin
abbrev pub floor_number : List ℕ → (NameParts × Known) → Option ℕ
floor_number o (n, Live bytes) = None
floor_number o (n, Disputed) = None
floor_number o (n, Retired) = None
floor_number o (n, Floor) = if same_bytes o n.origin then Some n.number else None

-- the first of some
abbrev pub first_of : List ℕ → Option ℕ
first_of [] = None
first_of (n ∷ ns) = Some n
