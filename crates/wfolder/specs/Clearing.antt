-- What runs that were killed have left in a folder is removed before a new file is made there.
use Rattle.std.specs.Prelude.{◌≡◌, ◌⊎◌, ⊤, ℕ, List, [], ◌∷◌, ◌++◌, All, Some}
use Rattle.wfolder.specs.Call.{Call}
use Rattle.wfolder.specs.Call as calls
use Rattle.wfolder.specs.Names.{IsNewName}

-- the file of a path was removed by one of these calls, or could not be
abbrev pub IsTried : List ℕ → List Call → Type 0
IsTried path [] = ⊥
IsTried path (calls.Removed name done ∷ cs) = (path ≡ name) ⊎ IsTried path cs
IsTried path (c ∷ cs) = IsTried path cs

-- the folder's names were listed by one of the calls, the newest first, and since then the file of each of some of them that new
-- files have was removed, or could not be
pub record IsClearing (folder : List ℕ) (names some : List (List ℕ)) (cs : List Call) : Type 0 where
  pub since : List Call
  pub before : List Call
  pub is : cs ≡ since ++ calls.Listed folder (Some names) ∷ before
  pub tried : All (λ name. IsNewName name → IsTried (folder ++ 47 ∷ name) since) some

-- of each of them
abbrev pub HasCleared : List ℕ → List Call → Type 0
HasCleared folder cs = (names : List (List ℕ)) × IsClearing folder names names cs

-- so it was before each new file was made, or tried to be
abbrev pub ClearsLeft : List ℕ → List Call → Type 0
ClearsLeft folder [] = ⊤
ClearsLeft folder (calls.Created name closed done ∷ cs) = HasCleared folder cs × ClearsLeft folder cs
ClearsLeft folder (calls.Taken name closed ∷ cs) = HasCleared folder cs × ClearsLeft folder cs
ClearsLeft folder (c ∷ cs) = ClearsLeft folder cs
