-- Where a store stands, and the lock of its folder.
use Rattle.std.specs.Prelude.{◌≡◌, ◌⊎◌, ℕ, Bool, true, false, ◌==◌, if◌then◌else◌, List, [], ◌∷◌, ◌++◌, Option, None, Some}
use Rattle.wfolder.specs.Call.{Call, Checked, Followed, Found, Locked}
use Rattle.wfolder.specs.Names.{Site}
use Rattle.wfiles.specs.Reading.{MayBegin}
use Rattle.wfiles.specs.declared.place.Place.{Place}

-- ---- which path it is

-- the path of what a path leads to: that which the link there leads to, or itself where no link stands there
abbrev pub path_behind : List ℕ → Option (List ℕ) → List ℕ
path_behind path None = path
path_behind path (Some behind) = behind

-- what stands before the last / of a path, and behind it, if there is one: by its first byte and the same of the other bytes
abbrev pub parts_by : ℕ → List ℕ → Option (List ℕ × List ℕ) → Option (List ℕ × List ℕ)
parts_by b bs (Some parts) = Some (b ∷ parts.0, parts.1)
parts_by b bs None = if b == 47 then Some ([], bs) else None

abbrev pub parts_of : List ℕ → Option (List ℕ × List ℕ)
parts_of [] = None
parts_of (b ∷ bs) = parts_by b bs (parts_of bs)

-- what stands before a / is the path of a folder; where nothing does, that is /
abbrev pub folder_before : List ℕ → List ℕ
folder_before [] = 47 ∷ []
folder_before (b ∷ bs) = b ∷ bs

-- the folder, by the parts of a path; where there is no /, it is .
abbrev pub folder_by : Option (List ℕ × List ℕ) → List ℕ
folder_by None = 46 ∷ []
folder_by (Some parts) = folder_before parts.0

-- the name, by the same; where there is no /, it is the path
abbrev pub name_by : List ℕ → Option (List ℕ × List ℕ) → List ℕ
name_by path None = path
name_by path (Some parts) = parts.1

-- the path of the folder that the file of a path stands in
abbrev pub folder_of : List ℕ → List ℕ
folder_of path = folder_by (parts_of path)

-- the name that it has there
abbrev pub name_of : List ℕ → List ℕ
name_of path = name_by path (parts_of path)

-- the site is that of the file of a path, once it is known which path the link there leads to, if one stands there
pub record StandsBehind (path : List ℕ) (behind : Option (List ℕ)) (site : Site) : Type 0 where
  pub folder_is : site.folder ≡ folder_of (path_behind path behind)
  pub path_is : site.path ≡ folder_of (path_behind path behind) ++ 47 ∷ name_of (path_behind path behind)

-- ---- how it is found and read

-- the path of the store, behind the links to it, and that of its folder
abbrev pub place_site : Place → Site
place_site place = place.target

-- the path of the store
abbrev pub place_path : Place → List ℕ
place_path place = place.target.path

-- it was looked at which path this one leads to, and the site is that of its file
abbrev pub FindsTarget : List ℕ → Site → List Call → List Call → Type 0
FindsTarget path site old new = (behind : Option (List ℕ)) × StandsBehind path behind site × (new ≡ Followed path behind ∷ old)

-- it was not looked at which path this one leads to, or nothing else is done than that
abbrev pub MissesTarget : List ℕ → List Call → List Call → Type 0
MissesTarget path old new = (new ≡ old) ⊎ ((behind : Option (List ℕ)) × (new ≡ Followed path behind ∷ old))

-- it was looked at which path a path leads to, and then the lock of a folder is had, or is not
abbrev pub lock_behind : List ℕ → Option (List ℕ) → List ℕ → Bool → List Call → List Call
lock_behind path behind folder done old = Locked folder done ∷ Followed path behind ∷ old

-- the site is that of the file of the path that this one leads to, as was looked at, and the lock of its folder is had
abbrev pub FindsSite : List ℕ → Site → List Call → List Call → Type 0
FindsSite path site old new = (behind : Option (List ℕ)) × StandsBehind path behind site
    × (new ≡ lock_behind path behind site.folder true old)

-- the lock was not tried for; or it was, of the folder of the path that this one leads to, and is not had. Nothing else is done
abbrev pub MissesLock : List ℕ → List Call → List Call → Type 0
MissesLock path old new = MissesTarget path old new
    ⊎ ((behind : Option (List ℕ)) × (new ≡ lock_behind path behind (folder_of (path_behind path behind)) false old))

-- what stands at a site was looked at, and has the site's access; and then it was found to hold this
abbrev pub read_at : Site → Option (List ℕ) → List Call → List Call
read_at site held old = Found site.path held ∷ Checked site.path site.access ∷ old

-- what stands there was not looked at, or it may not be replaced; or it may, and has this access, and it was not read, or only its first
-- bytes were
abbrev pub MissesFile : Site → List Call → List Call → Type 0
MissesFile site old new = (new ≡ old) ⊎ MayBegin site.path (Checked site.path site.access ∷ old) new
