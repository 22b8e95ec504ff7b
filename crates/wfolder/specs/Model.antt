-- What a folder holds, what a crash may leave of it, and what each call does to it: the model on which the theorems rest.
--
-- It is that of POSIX. A name leads to a file or to none, and a file has bytes. Each of the two, the name and the bytes, is on
-- the disk only once it was brought there, and until then a crash may leave something else. What is relied on:
--
-- - a new file is made only under a name that leads to none, and no other name leads to it (`open` with O_CREAT and O_EXCL);
-- - of bytes that were written a crash may leave anything, until the file is synced: then it leaves them (`fsync`);
-- - a rename gives the name the other file at once: at no moment the name leads to none, and a crash leaves the one file or the
--   other; one that fails does nothing (`rename`);
-- - once the folder is synced, a crash leaves each of its names leading where it leads (`fsync` of a folder);
-- - a sync that fails promises nothing, nor does one that never came;
-- - while this run holds the lock of the folder that the store stands in, no other run changes the store, nor what this run made.
--   Another run of the same program does not: it changes a folder only while it holds its lock (`flock`).
--
-- Not relied on: the order in which the system itself writes, or that it writes at all before it is told to. Not promised: a
-- disk that tells of a sync that it did not do, a rename that fails with EIO and was done, and what other programs do.
use Rattle.std.specs.Prelude.{◌≡◌, ◌≢◌, ◌⊎◌, ⊤, ℕ, Bool, true, false, List, [], ◌∷◌, ◌++◌, Option, None, Some, option_map}
use Rattle.wfolder.specs.Call.{Call}
use Rattle.wfolder.specs.Call as calls

-- the names and files of a folder, files as numbers: where each name leads, where a crash may leave it leading, the bytes of each
-- file, and those that a crash leaves of it, if anything is promised
pub record Disk : Type 0 where
  pub entry : List ℕ → Option ℕ
  pub left : List ℕ → List (Option ℕ)
  pub bytes : ℕ → List ℕ
  pub saved : ℕ → Option (List ℕ)

-- it is one of the list
abbrev pub IsAmong : Option ℕ → List (Option ℕ) → Type 0
IsAmong x [] = ⊥
IsAmong x (y ∷ ys) = (x ≡ y) ⊎ IsAmong x ys

-- what a name holds: the bytes of its file, if there is one
abbrev pub holds : Disk → List ℕ → Option (List ℕ)
holds d name = option_map d.bytes (d.entry name)

-- what a crash may leave of a file
abbrev pub IsLeft : Option (List ℕ) → List ℕ → Type 0
IsLeft None bytes = ⊤
IsLeft (Some saved) bytes = bytes ≡ saved

-- what a crash may leave under a name that leads to this file then
abbrev pub Leaves : Disk → Option ℕ → Option (List ℕ) → Type 0
Leaves d None held = held ≡ None
Leaves d (Some file) None = ⊥
Leaves d (Some file) (Some bytes) = IsLeft (d.saved file) bytes

-- what a name may hold after a crash
pub record MayHold (d : Disk) (name : List ℕ) (held : Option (List ℕ)) : Type 0 where
  pub file : Option ℕ
  pub among : IsAmong file (d.left name)
  pub leaves : Leaves d file held

-- the name leads to the file, or a crash may leave it leading there
abbrev pub LeadsTo : Disk → List ℕ → ℕ → Type 0
LeadsTo d name file = (d.entry name ≡ Some file) ⊎ IsAmong (Some file) (d.left name)

-- the bytes of a file are the same, and what a crash leaves of them
abbrev pub IsSameFile : Disk → Disk → ℕ → Type 0
IsSameFile d e file = (e.bytes file ≡ d.bytes file) × (e.saved file ≡ d.saved file)

-- a name leads where it led, and a crash may leave it leading there
abbrev pub IsSameName : Disk → Disk → List ℕ → Type 0
IsSameName d e name = (e.entry name ≡ d.entry name) × (e.left name ≡ d.left name)

-- nothing that a name leads to is changed
pub record IsSame (name : List ℕ) (d e : Disk) : Type 0 where
  pub names : IsSameName d e name
  pub files : (file : ℕ) → LeadsTo d name file → IsSameFile d e file

-- a new file, empty, under a name that led to none; nothing is promised of it
pub record Creates (name : List ℕ) (d e : Disk) : Type 0 where
  pub file : ℕ
  pub free : d.entry name ≡ None
  pub fresh : (other : List ℕ) → LeadsTo d other file → ⊥
  pub entry : e.entry name ≡ Some file
  pub left : e.left name ≡ Some file ∷ d.left name
  pub empty : e.bytes file ≡ []
  pub names : (other : List ℕ) → other ≢ name → IsSameName d e other
  pub files : (other : ℕ) → other ≢ file → IsSameFile d e other

-- bytes at the end of the file of a name, all of them if it is done; nothing is promised of them
pub record Writes (name written : List ℕ) (done : Bool) (d e : Disk) : Type 0 where
  pub file : ℕ
  pub leads : d.entry name ≡ Some file
  pub appends : done ≡ true → e.bytes file ≡ d.bytes file ++ written
  pub names : (other : List ℕ) → IsSameName d e other
  pub files : (other : ℕ) → other ≢ file → IsSameFile d e other

-- the file of a name is brought to the disk, if it is done
pub record Syncs (name : List ℕ) (done : Bool) (d e : Disk) : Type 0 where
  pub file : ℕ
  pub leads : d.entry name ≡ Some file
  pub same : e.bytes file ≡ d.bytes file
  pub saved : done ≡ true → e.saved file ≡ Some (d.bytes file)
  pub names : (other : List ℕ) → IsSameName d e other
  pub files : (other : ℕ) → other ≢ file → IsSameFile d e other

-- a name leads where another led, which leads to none; a crash may leave either as it was
pub record Renames (from to : List ℕ) (d e : Disk) : Type 0 where
  pub entry : e.entry to ≡ d.entry from
  pub left : e.left to ≡ d.entry from ∷ d.left to
  pub none : e.entry from ≡ None
  pub left_none : e.left from ≡ None ∷ d.left from
  pub names : (other : List ℕ) → other ≢ from → other ≢ to → IsSameName d e other
  pub files : (other : ℕ) → IsSameFile d e other

-- each name is brought to the disk
pub record SyncsFolder (d e : Disk) : Type 0 where
  pub entry : (name : List ℕ) → e.entry name ≡ d.entry name
  pub left : (name : List ℕ) → e.left name ≡ d.entry name ∷ []
  pub files : (file : ℕ) → IsSameFile d e file

-- a name leads to none; a crash may leave it leading where it led
pub record Removes (name : List ℕ) (d e : Disk) : Type 0 where
  pub entry : e.entry name ≡ None
  pub left : e.left name ≡ None ∷ d.left name
  pub names : (other : List ℕ) → other ≢ name → IsSameName d e other
  pub files : (file : ℕ) → IsSameFile d e file

-- what a call does
abbrev pub Does : Call → Disk → Disk → Type 0
Does (calls.Followed path behind) d e = e ≡ d
Does (calls.Locked folder done) d e = e ≡ d
Does (calls.Checked name access) d e = e ≡ d
Does (calls.Found name held) d e = (e ≡ d) × (held ≡ holds d name)
Does (calls.Began name bytes) d e = e ≡ d
Does (calls.Listed folder names) d e = e ≡ d
Does (calls.Created name closed true) d e = Creates name d e
Does (calls.Created name closed false) d e = e ≡ d
Does (calls.Taken name closed) d e = e ≡ d
Does (calls.Permitted name rights done) d e = e ≡ d
Does (calls.Wrote name written done) d e = Writes name written done d e
Does (calls.Synced name done) d e = Syncs name done d e
Does (calls.Moved from to true) d e = Renames from to d e
Does (calls.Moved from to false) d e = e ≡ d
Does (calls.SyncedFolder true) d e = SyncsFolder d e
Does (calls.SyncedFolder false) d e = e ≡ d
Does (calls.Removed name true) d e = Removes name d e
Does (calls.Removed name false) d e = e ≡ d

-- the name is one under which this run made a file that still stands there, by its calls, the newest first
abbrev pub IsOwn : List Call → List ℕ → Type 0
IsOwn [] name = ⊥
IsOwn (calls.Created made closed true ∷ cs) name = (name ≡ made) ⊎ IsOwn cs name
IsOwn (calls.Moved from to true ∷ cs) name = (name ≢ from) × IsOwn cs name
IsOwn (calls.Removed gone true ∷ cs) name = (name ≢ gone) × IsOwn cs name
IsOwn (c ∷ cs) name = IsOwn cs name

-- the name is that of the file that was made last, which still stands there, by the calls, the newest first
abbrev pub IsMadeLast : List Call → List ℕ → Type 0
IsMadeLast [] name = ⊥
IsMadeLast (calls.Created made closed true ∷ cs) name = name ≡ made
IsMadeLast (calls.Moved from to true ∷ cs) name = (name ≢ from) × (name ≢ to) × IsMadeLast cs name
IsMadeLast (calls.Removed gone true ∷ cs) name = (name ≢ gone) × IsMadeLast cs name
IsMadeLast (c ∷ cs) name = IsMadeLast cs name

-- this run holds the lock of the folder under this path, by its calls, the newest first
abbrev pub IsLocked : List ℕ → List Call → Type 0
IsLocked folder [] = ⊥
IsLocked folder (calls.Locked locked true ∷ cs) = (folder ≡ locked) ⊎ IsLocked folder cs
IsLocked folder (c ∷ cs) = IsLocked folder cs

-- what others may do between two calls, behind these and those before them: while this run holds the lock of the store's folder,
-- anything but to the store and to what this run made; anything at all while it does not
pub record Others (store folder : List ℕ) (base cs : List Call) (d e : Disk) : Type 0 where
  pub store_stays : IsLocked folder (cs ++ base) → IsSame store d e
  pub own_stays : IsLocked folder (cs ++ base) → (name : List ℕ) → IsOwn cs name → IsSame name d e

-- the calls, the newest first, behind those before them, may lead from the one state to the other, whatever others do before,
-- between and behind them
abbrev pub Runs : List ℕ → List ℕ → List Call → Disk → List Call → Disk → Type 0
Runs store folder base d [] e = Others store folder base [] d e
Runs store folder base d (c ∷ cs) e = (mid : Disk) × (done : Disk) × Runs store folder base d cs mid × Does c mid done
    × Others store folder base (c ∷ cs) done e
