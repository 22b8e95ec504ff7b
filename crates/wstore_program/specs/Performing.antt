-- What a subcommand gives on the files that its words name, and what is done to the store's.
use Rattle.std.specs.Prelude.{◌≡◌, ◌≢◌, ◌<◌, ℕ, true, List, [], ◌∷◌, Option, None, Some, Result, Ok, Err, length, option_map}
use Rattle.wsegment.specs.Declaration.{Declaration}
use Rattle.wsegment.specs.Spelling.{ReadsDeclaration}
use Rattle.wbatch.specs.Streams.{Stops}
use Rattle.wbatch.specs.declared.stop.Stop.{Stop}
use Rattle.wbatch.specs.declared.stop.Stop.TheVariants as stops
use Rattle.wfolder.specs.Call.{Call, Began, Found}
use Rattle.wfolder.specs.Names.{IsSited, Site}
use Rattle.wfolder.specs.Replacing.{Replaces, fault_of}
use Rattle.wfiles.specs.Place.{MissesFile, MissesLock, StandsBehind, lock_behind, read_at}
use Rattle.wfiles.specs.Reading.{MayBegin, ReadsAtMost}
use Rattle.wfolder.specs.declared.fault.Fault.{Fault}
use Rattle.wfolder.specs.declared.fault.Fault.TheVariants as faults
use Rattle.wfolder.specs.declared.replacing.NotReplaced.{NotReplaced}
use Rattle.wcommand.specs.declared.choice.Choice.{Choice}
use Rattle.wcommand.specs.declared.choice.Paths.{Paths}
use Rattle.wcommand.specs.Inputs.{input_of, paths_of}
use Rattle.wreplies.specs.declared.text.Text.{Text}
use Rattle.wact.specs.declared.acted.Acted.{Acted}
use Rattle.wact.specs.declared.opening.Opened.TheVariants as opens
use Rattle.wact.specs.Acts.{Acts}
use Rattle.wact.specs.Delivering.{IsFeed}
use Rattle.wact.specs.Laws.{IsTake}
use Rattle.wact.specs.Opening.{Opens}

-- ---- what is read

-- the table and the store were read, under the paths that the words name. The table has these bytes; or it has more than a declaration
-- may have, and these are its first ones, more than so many, by which it is refused whatever follows them. The store has these, if it
-- is there
pub record ReadsFiles (paths : Paths) (table : List ℕ) (store : Option (List ℕ)) (old new : List Call) : Type 0 where
  pub between : List Call
  pub table_read : ReadsAtMost paths.table.now 65536 table old between
  pub store_read : new ≡ Found paths.store.now store ∷ between

-- the path of CSV, OTHER or STREAM
abbrev pub input_path : Choice → Option (List ℕ)
input_path choice = option_map (λ path. path.now) (input_of choice)

-- CSV, OTHER or STREAM is read whole, and has these bytes; or of CSV these are the first, more than a segment may have, and so are
-- refused whatever follows them; where the choice has none, they are none, and nothing is read
pub data ReadsBytes (choice : Choice) (other : List ℕ) (old new : List Call) : Type 0 where
  NoInput : input_of choice ≡ None → other ≡ [] → new ≡ old → ReadsBytes choice other old new
  Input : (path : List ℕ) → input_path choice ≡ Some path → new ≡ Found path (Some other) ∷ old → ReadsBytes choice other old new
  Long : (path : List ℕ) → IsTake choice → input_path choice ≡ Some path → 67108864 < length other → new ≡ Began path other ∷ old
      → ReadsBytes choice other old new

-- what is read of CSV, OTHER or STREAM behind the table and the store: its bytes; or of a stream the first of them alone, where they
-- are not delivered whatever follows them, or nothing, where the table or the store is refused
pub data ReadsInput (choice : Choice) (table : List ℕ) (store : Option (List ℕ)) (other : List ℕ) (old new : List Call) : Type 0 where
  Bytes : ReadsBytes choice other old new → ReadsInput choice table store other old new
  Front : (path : List ℕ) (d : Declaration) (reason : Stop) → IsFeed choice → input_path choice ≡ Some path
      → new ≡ Began path other ∷ old → ReadsDeclaration table (Ok d) → Stops d other reason → reason ≢ stops.NoMemory
      → ReadsInput choice table store other old new
  Nothing : (text : Text) → IsFeed choice → Opens table store (opens.Refused text) → other ≡ [] → new ≡ old
      → ReadsInput choice table store other old new

-- the table was not read, or only its first bytes were; or it was, as far as it is, and the store behind it was not, or only its first
-- bytes were
pub data MissesFiles (paths : Paths) (old new : List Call) : Type 0 where
  Table : MayBegin paths.table.now old new → MissesFiles paths old new
  Store : (table : List ℕ) (between : List Call) → ReadsAtMost paths.table.now 65536 table old between
      → MayBegin paths.store.now between new → MissesFiles paths old new

-- CSV, OTHER or STREAM was not read, or only its first bytes were
abbrev pub MissesInput : Choice → List Call → List Call → Type 0
MissesInput choice old new = (path : List ℕ) × (input_path choice ≡ Some path) × MayBegin path old new

-- ---- what becomes of the store

-- the bytes of the new store, if there is one
abbrev pub new_store : Acted → Option (List ℕ)
new_store acted = option_map (λ store. store.items) acted.store

-- it was looked at which path the store's path leads to; and then the store that stands here was looked at, and has this access, and was
-- found to hold this, while this run held the lock of its folder
abbrev pub read_locked : List ℕ → Option (List ℕ) → Site → Option (List ℕ) → List Call → List Call
read_locked path behind site held old = read_at site held (lock_behind path behind site.folder true old)

-- where there is a new store, it is put in the place of the one that stands here
abbrev pub Puts : Site → Option (List ℕ) → Result (Unit {0}) NotReplaced → List Call → List Call → Type 0
Puts site None result old new = (result ≡ Ok tt) × (new ≡ old)
Puts site (Some bytes) result old new = Replaces site bytes result old new

-- the subcommand gives a new store on the store that was read
abbrev pub GivesNew : Choice → List ℕ → Option (List ℕ) → List ℕ → Type 0
GivesNew choice table store other = (first : Acted) × Acts choice table store other first × (new_store first ≢ None)

-- it is what the subcommand gives on this table and input, and on the store that was read, whose file is not touched where there is
-- no new store; or, where there is one, on the store that was found where the store's path leads, behind the links to it, under the lock
-- of the folder that it stands in, and in the place of that one the new store is put
pub data CarriesOut (choice : Choice) (path table : List ℕ) (store : Option (List ℕ)) (other : List ℕ) (acted : Acted)
    (old new : List Call) : Type 0 where
  Untouched : Acts choice table store other acted → new_store acted ≡ None → new ≡ old
      → CarriesOut choice path table store other acted old new
  Put : (behind : Option (List ℕ)) (site : Site) (held : Option (List ℕ)) → GivesNew choice table store other
      → StandsBehind path behind site → IsSited site → Acts choice table held other acted
      → Puts site (new_store acted) (Ok tt) (read_locked path behind site held old) new
      → CarriesOut choice path table store other acted old new

-- a new store does not take the place of the old one: the lock is not tried for, or not had; or it is had, of the folder of the store
-- where its path leads, and the store there is not looked at, or not read to its end; or it is read, and there is no memory to make what
-- the subcommand gives on the bytes that were found there, or the new store is not put in its place, or may not stay there
pub data IsNotPut (choice : Choice) (path table other : List ℕ) (fault : Fault) (old new : List Call) : Type 0 where
  Unlocked : MissesLock path old new → IsNotPut choice path table other fault old new
  Unfound : (behind : Option (List ℕ)) (site : Site) → StandsBehind path behind site → IsSited site
      → MissesFile site (lock_behind path behind site.folder true old) new → IsNotPut choice path table other fault old new
  Unchanged : (behind : Option (List ℕ)) (site : Site) (held : Option (List ℕ)) → StandsBehind path behind site → IsSited site
      → fault ≡ faults.NoMemory → new ≡ read_locked path behind site held old → IsNotPut choice path table other fault old new
  NotPut : (behind : Option (List ℕ)) (site : Site) (held : Option (List ℕ)) (acted : Acted) (why : NotReplaced)
      → StandsBehind path behind site → IsSited site → Acts choice table held other acted → fault ≡ fault_of why
      → Puts site (new_store acted) (Err why) (read_locked path behind site held old) new
      → IsNotPut choice path table other fault old new

-- there is no memory to make what the subcommand gives, and nothing is done; or it gives a new store on the store that was read, and
-- that is not put in its place
pub data IsNotCarriedOut (choice : Choice) (path table : List ℕ) (store : Option (List ℕ)) (other : List ℕ) (fault : Fault)
    (old new : List Call) : Type 0 where
  Unmade : fault ≡ faults.NoMemory → new ≡ old → IsNotCarriedOut choice path table store other fault old new
  Unput : GivesNew choice table store other → IsNotPut choice path table other fault old new
      → IsNotCarriedOut choice path table store other fault old new

-- it is carried out on the store of a path, or at a fault it is not
abbrev pub IsFinished : Choice → List ℕ → List ℕ → Option (List ℕ) → List ℕ → Result Acted Fault → List Call → List Call → Type 0
IsFinished choice path table store other (Ok acted) old new = CarriesOut choice path table store other acted old new
IsFinished choice path table store other (Err fault) old new = IsNotCarriedOut choice path table store other fault old new

-- ---- the whole subcommand

-- what is done once the table and the store are read
pub record IsDone (choice : Choice) (path table : List ℕ) (store : Option (List ℕ)) (acted : Acted) (old new : List Call) : Type 0 where
  pub other : List ℕ
  pub read : List Call
  pub input : ReadsInput choice table store other old read
  pub carried_out : CarriesOut choice path table store other acted read new

-- what is done then at a fault: the input is not read, or not to its end; or what the subcommand gives on it is not carried out
pub data IsUndone (choice : Choice) (path table : List ℕ) (store : Option (List ℕ)) (fault : Fault) (old new : List Call) : Type 0 where
  Unready : MissesInput choice old new → IsUndone choice path table store fault old new
  NotCarriedOut : (other : List ℕ) (read : List Call) → ReadsInput choice table store other old read
      → IsNotCarriedOut choice path table store other fault read new → IsUndone choice path table store fault old new

-- it is done, or at a fault it is undone
abbrev pub IsEnded : Choice → List ℕ → List ℕ → Option (List ℕ) → Result Acted Fault → List Call → List Call → Type 0
IsEnded choice path table store (Ok acted) old new = IsDone choice path table store acted old new
IsEnded choice path table store (Err fault) old new = IsUndone choice path table store fault old new

-- it is what the subcommand gives on the bytes of the table, the store and the input that the words name, as they were read there; a new
-- store is put in the place of the one that they name
pub record IsPerformed (choice : Choice) (acted : Acted) (old new : List Call) : Type 0 where
  pub paths : Paths
  pub named : paths_of choice ≡ Some paths
  pub table : List ℕ
  pub store : Option (List ℕ)
  pub read : List Call
  pub files : ReadsFiles paths table store old read
  pub done : IsDone choice paths.store.now table store acted read new

-- it is given up before the store is touched, while the files that the words name are read or behind that; or the new store is not put
-- in its place, or may not stay there
pub data IsGivenUp (choice : Choice) (fault : Fault) (old new : List Call) : Type 0 where
  Unread : (paths : Paths) → paths_of choice ≡ Some paths → MissesFiles paths old new → IsGivenUp choice fault old new
  Undone : (paths : Paths) (table : List ℕ) (store : Option (List ℕ)) (read : List Call) → paths_of choice ≡ Some paths
      → ReadsFiles paths table store old read → IsUndone choice paths.store.now table store fault read new
      → IsGivenUp choice fault old new

-- it is performed, or at a fault it is given up
abbrev pub Performs : Choice → Result Acted Fault → List Call → List Call → Type 0
Performs choice (Ok acted) old new = IsPerformed choice acted old new
Performs choice (Err fault) old new = IsGivenUp choice fault old new
