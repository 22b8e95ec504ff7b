-- What the disk in memory holds.
use Rattle.std.specs.Prelude.{ℕ, Bool, List, [], ◌∷◌, ◌++◌, Some, None, if◌then◌else◌, length, map}
use Rattle.wfolder.specs.Memory.{File, Leading, as_disk, leading_of, leads, led, no_file, written_file}
use Rattle.wfolder.specs.Model.{Disk, IsSameFile, IsSameName}
use Rattle.wfolder.specs.declared.disk.Disk as memory

-- its paths
abbrev pub entries_of : memory.Disk → List Leading
entries_of d = map leading_of d.entries.items

-- its files
abbrev pub files_of : memory.Disk → List File
files_of d = map written_file d.files.items

-- as a disk of the model
abbrev pub disk_of : memory.Disk → Disk
disk_of d = as_disk (entries_of d) (files_of d)

-- nothing is changed
pub record IsAlike (d e : Disk) : Type 0 where
  pub names : (name : List ℕ) → IsSameName d e name
  pub files : (file : ℕ) → IsSameFile d e file

-- the paths and the files, where a file is made
abbrev pub entries_made : List ℕ → Bool → memory.Disk → List Leading
entries_made path made d = if made then led path (Some (length (files_of d))) (entries_of d) else entries_of d

abbrev pub files_made : Bool → memory.Disk → List File
files_made made d = if made then files_of d ++ no_file ∷ [] else files_of d

-- the paths, where the second leads to the file of the first
abbrev pub entries_linked : List ℕ → List ℕ → memory.Disk → List Leading
entries_linked from to d = led to (leads from (entries_of d)) (entries_of d)

-- and the first to none
abbrev pub entries_moved : List ℕ → List ℕ → memory.Disk → List Leading
entries_moved from to d = led from None (entries_linked from to d)

-- the paths, where one is removed
abbrev pub entries_left : List ℕ → Bool → memory.Disk → List Leading
entries_left path removed d = if removed then led path None (entries_of d) else entries_of d
