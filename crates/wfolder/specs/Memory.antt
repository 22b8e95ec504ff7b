-- The paths and the files of a disk in memory, as lists, what each call does to these, and what they are as a disk of the model.
use Rattle.std.specs.Prelude.{◌≡◌, ◌<◌, ◌&&◌, not, ℕ, Bool, true, false, if◌then◌else◌, List, [], ◌∷◌, ◌++◌, map, reverse, length, take}
use Rattle.std.specs.Prelude.{drop}
use Rattle.std.specs.Prelude.{Option, None, Some, IfSome, is_some, option_map, bytes_eq, codes, nat_eq, set, slice_get, slice_index_or}
use Rattle.std.specs.Prelude.{string_bytes}
use Rattle.std.specs.List.{filter_map, flat_map, list_any, range_with_len, starts_with}
use Rattle.std.specs.Borrow.{Bor}
use Rattle.wfolder.specs.Model.{Disk, IsAmong}
use Rattle.wfolder.specs.declared.disk.Entry.{Entry}
use Rattle.wfolder.specs.declared.disk.Written.{Written}

-- a path, the file where it leads, and those where it led, the oldest first, and where a crash may leave it leading: files as numbers
pub record Leading : Type 0 where
  pub path : List ℕ
  pub earlier : List (Option ℕ)
  pub file : Option ℕ

-- the bytes of a file, and whether they were brought to the disk
pub record File : Type 0 where
  pub bytes : List ℕ
  pub synced : Bool

-- those of an entry
abbrev pub leading_of : Entry → Leading
leading_of e = record { path = string_bytes e.path; earlier = e.earlier.items; file = e.file }

-- and of a file that was written
abbrev pub written_file : Written → File
written_file f = record { bytes = f.bytes.items; synced = f.is_synced }

-- what a file has that nobody made
abbrev pub no_file : File
no_file = record { bytes = []; synced = false }

-- where a path leads
abbrev pub leads : List ℕ → List Leading → Option ℕ
leads path [] = None
leads path (e ∷ es) = if bytes_eq e.path path then e.file else leads path es

-- where a crash may leave it leading, first where it leads
abbrev pub may_lead : List ℕ → List Leading → List (Option ℕ)
may_lead path [] = None ∷ []
may_lead path (e ∷ es) = if bytes_eq e.path path then e.file ∷ reverse e.earlier else may_lead path es

-- it is the entry of its path
abbrev pub IsEntry : List Leading → Leading → Type 0
IsEntry es e = may_lead e.path es ≡ e.file ∷ reverse e.earlier

-- one of them has this path
abbrev pub has_path : List ℕ → List Leading → Bool
has_path path es = list_any (λ e. bytes_eq e.path path) es

-- no two have one path
abbrev pub are_distinct : List Leading → Bool
are_distinct [] = true
are_distinct (e ∷ es) = not (has_path e.path es) && are_distinct es

-- one path is led to a file or to none
abbrev pub relinked : Option ℕ → Leading → Leading
relinked file e = record { path = e.path; earlier = e.earlier ++ e.file ∷ []; file = file }

-- the paths, where one of them is led to a file or to none
abbrev pub led : List ℕ → Option ℕ → List Leading → List Leading
led path file [] = record { path = path; earlier = None ∷ []; file = file } ∷ []
led path file (e ∷ es) = if bytes_eq e.path path then relinked file e ∷ es else e ∷ led path file es

-- a path whose name was brought to the disk
abbrev pub settled : Leading → Leading
settled e = record { path = e.path; earlier = []; file = e.file }

-- bytes at the end of a file, all of them or none; nothing is promised of what it holds then
abbrev pub appended : List ℕ → Bool → File → File
appended written true f = record { bytes = f.bytes ++ written; synced = false }
appended written false f = record { bytes = f.bytes; synced = false }

-- a file that was brought to the disk
abbrev pub brought : File → File
brought f = record { bytes = f.bytes; synced = true }

-- the files, where one of them is changed
abbrev pub changed : Option ℕ → (File → File) → List File → List File
changed None change fs = fs
changed (Some number) change fs = set fs number (change (slice_index_or fs number no_file))

-- it is that of one of so many files, or of none
abbrev pub IsKnown : ℕ → Option ℕ → Type 0
IsKnown count file = IfSome file (λ number. number < count)

-- so is each to which a crash may leave a path leading
abbrev pub AreKnown : ℕ → List Leading → Type 0
AreKnown count es = (path : List ℕ) (number : ℕ) → IsAmong (Some number) (may_lead path es) → number < count

-- what is promised of a file
abbrev pub saved_of : File → Option (List ℕ)
saved_of f = if f.synced then Some f.bytes else None

-- as a disk of the model
abbrev pub as_disk : List Leading → List File → Disk
as_disk es fs = record {
  entry = λ path. leads path es;
  left = λ path. may_lead path es;
  bytes = λ file. (slice_index_or fs file no_file).bytes;
  saved = λ file. saved_of (slice_index_or fs file no_file);
}

-- the bytes that are lent, if any
abbrev pub held_by : List (Option (Bor (List ℕ))) → List (Option (List ℕ))
held_by left = map (option_map (λ bytes. bytes.now)) left

-- each beginning of a file that is shorter
abbrev pub shorter_states : File → List (Option (List ℕ))
shorter_states f = map (λ n. Some (take n f.bytes)) (range_with_len 0 (length f.bytes))

-- what is told that a crash may leave of a file: its bytes, and before them, where they were not brought to the disk, each shorter
-- beginning of them
abbrev pub states_of : File → List (Option (List ℕ))
states_of f = (if f.synced then [] else shorter_states f) ++ Some f.bytes ∷ []

-- nothing, where there is no file
abbrev pub states_if : Option File → List (Option (List ℕ))
states_if None = None ∷ []
states_if (Some f) = states_of f

-- the file of a number, if there is one
abbrev pub file_at : List File → Option ℕ → Option File
file_at fs None = None
file_at fs (Some number) = slice_get fs number

-- where a path is left leading to a file or to none
abbrev pub states_at : List File → Option ℕ → List (Option (List ℕ))
states_at fs file = states_if (file_at fs file)

-- what is told that a crash may leave under a path, the files where it led first
abbrev pub states_under : List File → Leading → List (Option (List ℕ))
states_under fs e = flat_map (states_at fs) (e.earlier ++ e.file ∷ [])

-- what a text has behind this, if it begins so
abbrev pub behind : List ℕ → List ℕ → Option (List ℕ)
behind front text = if starts_with nat_eq text front then Some (drop (length front) text) else None

-- the same of one that may be none
abbrev pub then_behind : List ℕ → Option (List ℕ) → Option (List ℕ)
then_behind front None = None
then_behind front (Some text) = behind front text

-- one that begins as the names of new files do
abbrev pub if_new : Option (List ℕ) → Option (List ℕ)
if_new None = None
if_new (Some name) = if starts_with nat_eq name (codes ".wstore-") then Some name else None

-- the name of a path in a folder, if it leads to a file and the name begins as those of new files do
abbrev pub new_name : List ℕ → Leading → Option (List ℕ)
new_name folder e = if is_some e.file then if_new (then_behind (codes "/") (behind folder e.path)) else None

-- the names of all such paths
abbrev pub new_names : List ℕ → List Leading → List (List ℕ)
new_names folder es = filter_map (new_name folder) es
