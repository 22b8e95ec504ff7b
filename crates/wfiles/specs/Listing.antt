-- The names that new files have, among those of a folder.
use Rattle.std.specs.Prelude.{◌≡◌, ◌⊎◌, ⊤, ℕ, zero, suc, List, [], ◌∷◌, ◌++◌, Option}
use Rattle.std.specs.Io.KnownBytes.{Consumes, IsAtEnd}
use Rattle.wfolder.specs.Names.{IsNewName}

-- the names in a listing, each ended by a zero byte, where the first bytes of one are read already
abbrev pub names_in : List ℕ → List ℕ → List (List ℕ)
names_in name [] = []
names_in name (zero ∷ bs) = name ∷ names_in [] bs
names_in name (suc b ∷ bs) = names_in (name ++ suc b ∷ []) bs

-- it is one of these
abbrev pub IsOneOf : List ℕ → List (List ℕ) → Type 0
IsOneOf name [] = ⊥
IsOneOf name (n ∷ ns) = (name ≡ n) ⊎ IsOneOf name ns

-- each of the names that is one of a new file is among those that were found
abbrev pub FindsNew : List (List ℕ) → List (List ℕ) → Type 0
FindsNew [] found = ⊤
FindsNew (n ∷ ns) found = (IsNewName n → IsOneOf n found) × FindsNew ns found

-- what was found is found still
abbrev pub Keeps : List (List ℕ) → List (List ℕ) → Type 0
Keeps old new = (name : List ℕ) → IsOneOf name old → IsOneOf name new

-- all that a reader of a folder's names had left was read, and those of the names that new files have are found
abbrev pub ListsNew : Option (List ℕ) → Option (List ℕ) → List (List ℕ) → Type 0
ListsNew left new_left found = IsAtEnd new_left × (bytes : List ℕ) × Consumes left new_left bytes × FindsNew (names_in [] bytes) found
