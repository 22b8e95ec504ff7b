-- What reading the two words of a name gives.
use Rattle.std.specs.Prelude.{◌≡◌, ◌≢◌, ℕ, List, Result, Ok, Err}
use Rattle.std.specs.Fmt.{decimal}
use Rattle.wvalues.specs.Names.{NameParts, IsName, IsOrigin, IsSegmentNumber}
use Rattle.wvalues.specs.declared.name.NameFault.{NameFault}
use Rattle.wvalues.specs.declared.name.NameFault.TheVariants.{BadOrigin, BadNumber}

-- the two words are the spelling of the name
pub record SpellsName (origin number : List ℕ) (n : NameParts) : Type 0 where
  pub is_name : IsName n
  pub origin_is : origin ≡ n.origin
  pub number_is : number ≡ decimal n.number

-- the name that the words spell, or else the first word that is at fault
abbrev pub ReadsName : List ℕ → List ℕ → Result NameParts NameFault → Type 0
ReadsName origin number (Ok name) = SpellsName origin number name
ReadsName origin number (Err BadOrigin) = ¬ (IsOrigin origin)
ReadsName origin number (Err BadNumber) = IsOrigin origin × ((n : ℕ) → IsSegmentNumber n → number ≢ decimal n)
