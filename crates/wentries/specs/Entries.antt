-- Entries in the order of their names.
use Rattle.std.specs.Prelude.{◌≡◌, zero, suc, ℕ, true, not, List, [], ◌∷◌, map, T, Option, None, Some, if◌then◌else◌}
use Rattle.std.specs.List.{AllByRecursion, filter, list_any}
use Rattle.std.specs.Ordering.{is_lt, nat_cmp}
use Rattle.std.specs.FinMap.{find, is_sorted}
use Rattle.std.specs.declared.cmp.Ordering.TheVariants.{Less, Equal, Greater}
use Rattle.wvalues.specs.Names.{NameParts, name_cmp}
use Rattle.wsegment.specs.Declaration.{Declaration}
use Rattle.wentries.specs.Knowledge.{Known, is_above, is_over}
use Rattle.wentries.specs.Holding.{status_of_known, IsHeldBy, known_of, row_count_of}
use Rattle.wentries.specs.declared.entries.Entry.{Entry}
use Rattle.wentries.specs.declared.status.Listed.{Listed}
use Rattle.std.specs.Cmp.Lexicographic.{slice_cmp}

-- a name with what is known of it
abbrev pub known_entry : Entry → NameParts × Known
known_entry e = (e.name, known_of e.held)

abbrev pub known_entries : List Entry → List (NameParts × Known)
known_entries es = map known_entry es

-- the names strictly rise
abbrev pub IsRising : List Entry → Type 0
IsRising es = T (is_sorted name_cmp (known_entries es))

-- these names stand before the name
abbrev pub AreBelow : NameParts → List (NameParts × Known) → Type 0
AreBelow n es = AllByRecursion (λ e. name_cmp e.0 n ≡ Less) es

-- these names stand behind the name
abbrev pub AreBehind : NameParts → List (NameParts × Known) → Type 0
AreBehind n es = AllByRecursion (λ e. name_cmp n e.0 ≡ Less) es

-- the origins of these names stand before this one
abbrev pub AreOriginsBelow : List ℕ → List (NameParts × Known) → Type 0
AreOriginsBelow o es = AllByRecursion (λ e. slice_cmp nat_cmp e.0.origin o ≡ Less) es

-- no name of these is below a floor
abbrev pub AreSettled : List (NameParts × Known) → Type 0
AreSettled es = (n : NameParts) → list_any (is_over n) es ≡ true → find name_cmp n es ≡ None

-- the entries without those below this floor
abbrev pub above_floor : NameParts → List (NameParts × Known) → List (NameParts × Known)
above_floor n es = filter (λ e. not (is_above e.0 n)) es

-- the entries without those below a floor
abbrev pub above_floors : List (NameParts × Known) → List (NameParts × Known)
above_floors es = filter (λ e. not (list_any (is_over e.0) es)) es

-- the first that does not stand before the name
abbrev pub first_from : NameParts → List Entry → Option Entry
first_from n [] = None
first_from n (e ∷ es) = if is_lt (name_cmp e.name n) then first_from n es else Some e

-- every segment that is held was read by the declaration
abbrev pub AllHeldBy : Declaration → List Entry → Type 0
AllHeldBy d es = AllByRecursion (λ e. IsHeldBy d e.held) es

-- what the list says of an entry
abbrev pub listing_of : Entry → Listed
listing_of e = record {
  name = e.name;
  status = status_of_known (known_of e.held);
  rows = row_count_of e.held;
}

-- the name is that of the entry at place i, and the names before it are smaller
abbrev pub IsPlace : List Entry → NameParts → ℕ → Type 0
IsPlace [] n i = ⊥
IsPlace (e ∷ es) n zero = name_cmp n e.name ≡ Equal
IsPlace (e ∷ es) n (suc i) = (name_cmp n e.name ≡ Greater) × IsPlace es n i

-- the name goes before place i: the names before it are smaller, and the one there is greater
abbrev pub IsGap : List Entry → NameParts → ℕ → Type 0
IsGap [] n zero = Unit {0}
IsGap [] n (suc i) = ⊥
IsGap (e ∷ es) n zero = name_cmp n e.name ≡ Less
IsGap (e ∷ es) n (suc i) = (name_cmp n e.name ≡ Greater) × IsGap es n i
