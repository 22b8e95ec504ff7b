-- What a set lends of its live names, and names that stand behind all that it knows.
use Rattle.std.specs.Prelude.{◌≡◌, List, map as list_map}
use Rattle.std.specs.List.{AllByRecursion}
use Rattle.std.specs.FinMap as map
use Rattle.wvalues.specs.Names.{NameParts}
use Rattle.wsegment.specs.Rows.{Content}
use Rattle.wentries.specs.Knowledge.{Disputed}
use Rattle.wset.specs.Views.{View, lives}
use Rattle.wset.specs.Sets.{DeclaredView}
use Rattle.wentries.specs.Holding.{IsReadBy}
use Rattle.wentries.specs.Entries.{AreBelow, AreOriginsBelow}

-- these are the live names in their order, each with the segment that was read from its content
pub record AreLivesOf (s : DeclaredView) (segments : List (NameParts × Content)) : Type 0 where
  pub known : list_map (λ e. (e.0, e.1.bytes)) segments ≡ lives s.view
  pub read : AllByRecursion (λ e. IsReadBy s.schema e.1) segments

-- the view in which this name alone is known
abbrev pub only_disputed : NameParts → View
only_disputed n = map.insert map.empty n Disputed

-- the name stands behind all that are known
abbrev pub IsAbove : View → NameParts → Type 0
IsAbove v n = AreBelow n (map.entries v)

-- the name's origin stands behind those of all that are known
abbrev pub IsBehindOrigins : View → NameParts → Type 0
IsBehindOrigins v n = AreOriginsBelow n.origin (map.entries v)
