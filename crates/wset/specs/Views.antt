-- What is known of each name, the floors of origins among them, and what two who know it know together.
use Rattle.std.specs.Prelude.{◌≡◌, ℕ, Bool, true, not, List, ◌++◌, Option, None, Some, option_map, if◌then◌else◌}
use Rattle.std.specs.List.{filter_map, list_any}
use Rattle.std.specs.FinMap.{FinMap, from_entries, get, keys, entries, retain_keys}
use Rattle.wvalues.specs.Names.{NameParts, name_cmp}
use Rattle.wentries.specs.Knowledge.{Known, is_over, join_known, floor_number, first_of, Live, Disputed, Retired, Floor}

-- what is known under all names: one of which nothing is told has no entry
abbrev pub View : Type 0
View = FinMap name_cmp Known

-- a floor of the view is above the name
abbrev pub is_below : View → NameParts → Bool
is_below v n = list_any (is_over n) (entries v)

-- the greatest floor of each origin, and no name below it
abbrev pub IsSettled : View → Type 0
IsSettled v = (n : NameParts) → is_below v n ≡ true → get v n ≡ None

-- what an entry says of its own name: a floor retires it
abbrev pub own_status : Option Known → Option Known
own_status None = None
own_status (Some (Live bytes)) = Some (Live bytes)
own_status (Some Disputed) = Some Disputed
own_status (Some Retired) = Some Retired
own_status (Some Floor) = Some Retired

-- how a name is known: live, disputed or retired, and retired too where a floor of its origin is not below it
abbrev pub known_in : View → NameParts → Option Known
known_in v n = if is_below v n then Some Retired else own_status (get v n)

-- without the names that are below a floor
abbrev pub settled : View → View
settled v = retain_keys v (λ n. not (is_below v n))

-- the view that knows of each of these names what is told of it
abbrev pub view_telling : (NameParts → Option Known) → List NameParts → View
view_telling told names = from_entries (filter_map (λ n. option_map (λ k. (n, k)) (told n)) names)

-- what two who know it know together under a name, of which either may know nothing
abbrev pub join_told : Option Known → Option Known → Option Known
join_told None k = k
join_told (Some j) None = Some j
join_told (Some j) (Some k) = Some (join_known j k)

-- both views, name by name
abbrev pub join_names : View → View → View
join_names v w = view_telling (λ n. join_told (get v n) (get w n)) (keys v ++ keys w)

-- what two views tell together: name by name, without the names that are then below a floor
abbrev pub join : View → View → View
join v w = settled (join_names v w)

-- a live name with its content
abbrev pub live_of : (NameParts × Known) → Option (NameParts × List ℕ)
live_of (n, Live bytes) = Some (n, bytes)
live_of (n, Disputed) = None
live_of (n, Retired) = None
live_of (n, Floor) = None

-- the live names with their contents, in the order of names
abbrev pub lives : View → List (NameParts × List ℕ)
lives v = filter_map live_of (entries v)

-- the floor of an origin
abbrev pub floor_of : View → List ℕ → Option ℕ
floor_of v o = first_of (filter_map (floor_number o) (entries v))
