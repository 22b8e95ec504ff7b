-- Whether a store that was given can be read.
use Rattle.std.specs.Prelude.{◌≢◌, ⊤, ℕ, List, Option, None, Some}
use Rattle.wsegment.specs.Declaration.{Declaration}
use Rattle.wexchange.specs.Judging.{IsFault}
use Rattle.wexchange.specs.Reading.{IsFile}
use Rattle.wexchange.specs.declared.fault.FileFault.{FileFault}
use Rattle.wexchange.specs.declared.fault.FileFault.TheVariants as files

-- it is a file, or there is none
abbrev pub IsWhole : Declaration → Option (List ℕ) → Type 0
IsWhole d None = ⊤
IsWhole d (Some bytes) = IsFile d bytes

-- it has a fault, which is no want of memory
abbrev pub IsAtFault : Declaration → Option (List ℕ) → Type 0
IsAtFault d None = ⊥
IsAtFault d (Some bytes) = (fault : FileFault) × (fault ≢ files.NoMemory) × IsFault d bytes fault
