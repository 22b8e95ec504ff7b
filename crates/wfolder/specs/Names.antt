-- The names of new files, and of a store in its folder.
use Rattle.std.specs.Prelude.{◌≡◌, ◌||◌, ◌==◌, ℕ, Bool, true, false, List, ◌∷◌, ◌++◌, take, drop, codes, Option}
use Rattle.std.specs.List.{list_all, list_any}
use Rattle.std.specs.Fmt.{decimal}
use Rattle.std.specs.Char.{is_ascii_digit}
use Rattle.wfolder.specs.Call.{Rights}

-- a digit, or a - between two numbers
abbrev pub is_number_byte : ℕ → Bool
is_number_byte b = is_ascii_digit b || (b == 45)

-- .wstore- and then the number of a try
pub record IsNewName (name : List ℕ) : Type 0 where
  pub begins : take 8 name ≡ codes ".wstore-"
  pub numbers : list_all is_number_byte (drop 8 name) ≡ true

-- the path of the new file of a try, by its number
abbrev pub numbered_path : List ℕ → ℕ → List ℕ
numbered_path folder n = folder ++ 47 ∷ (codes ".wstore-" ++ decimal n)

-- a / stands in the name
abbrev pub has_slash : List ℕ → Bool
has_slash name = list_any (λ b. b == 47) name

-- the name of a file of a folder that no run takes for what a killed one has left
pub record IsStoreName (name : List ℕ) : Type 0 where
  pub plain : has_slash name ≡ false
  pub kept : IsNewName name → ⊥

-- the path of a store, that of its folder, and whose the file is that stands there, and what they and others may do, if there is one
pub record Site : Type 0 where
  pub path : List ℕ
  pub folder : List ℕ
  pub access : Option Rights

-- the store of this name in a folder
abbrev pub site_at : List ℕ → List ℕ → Option Rights → Site
site_at folder name access = record { path = folder ++ 47 ∷ name; folder = folder; access = access }

-- the same place, where the file is another
abbrev pub with_access : Site → Option Rights → Site
with_access site access = record { path = site.path; folder = site.folder; access = access }

-- the store stands in the folder, under such a name
pub record IsSited (site : Site) : Type 0 where
  pub name : List ℕ
  pub is : site.path ≡ site.folder ++ 47 ∷ name
  pub store_name : IsStoreName name

-- the path of a new file beside the store: such a name in the folder that the store's own path names
pub record IsNewBeside (store path : List ℕ) : Type 0 where
  pub folder : List ℕ
  pub own : List ℕ
  pub name : List ℕ
  pub store_is : store ≡ folder ++ 47 ∷ own
  pub plain : has_slash own ≡ false
  pub path_is : path ≡ folder ++ 47 ∷ name
  pub new : IsNewName name
