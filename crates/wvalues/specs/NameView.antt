-- How a name is stored, and what reading its two words gives.
use Rattle.std.specs.Prelude.{◌≡◌, ◌≤◌, take, length}
use Rattle.wvalues.specs.Names.{NameParts, IsName}
use Rattle.wvalues.specs.Padded.{padded}
use Rattle.wvalues.specs.declared.name.Name.TheInside.{Inside}

abbrev pub parts_of : Inside → NameParts
parts_of a = record { origin = take a.len a.origin; number = a.number }

abbrev pub stored : NameParts → Inside
stored n = record { origin = padded 32 n.origin; len = length n.origin; number = n.number }

pub record IsStored (a : Inside) : Type 0 where
  pub back : stored (parts_of a) ≡ a
  pub short : a.len ≤ 32
  pub name : IsName (parts_of a)
