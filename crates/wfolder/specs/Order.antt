-- How far a run has come in replacing a store, by its calls alone.
use Rattle.std.specs.Prelude.{◌≡◌, ◌≢◌, ℕ, suc, Bool, true, false, List, [], ◌∷◌, ◌++◌, Option, None, Some, is_none, is_some}
use Rattle.wfolder.specs.Calls.{HasRefusal, HasTaken}
use Rattle.wfolder.specs.Clearing.{HasCleared, IsClearing}
use Rattle.wfolder.specs.Names.{IsNewBeside, Site, numbered_path}
use Rattle.wfolder.specs.Call.{Call, Rights, Locked, Found, Listed, Created, Taken, Permitted, Wrote, Synced, Moved, SyncedFolder, Removed}
use Rattle.wfolder.specs.declared.fault.Fault.{Fault}

pub data Stage : Type 0 where
  -- nothing of this run stands in the folder
  Idle : Stage
  -- a new file stands beside the store: whether it has the access of the one that it replaces, if there is one; its bytes, if they are
  -- known; and whether all of them were brought to the disk
  Beside : List ℕ → Bool → Option (List ℕ) → Bool → Stage
  -- the store is the new file, which has these bytes
  Placed : List ℕ → Stage
  -- and the folder was brought to the disk
  Durable : List ℕ → Stage

-- these calls, the newest first, bring a run from nothing to a stage, where the store under this path has this access
pub data Reaches (store folder : List ℕ) (access : Option Rights) : List Call → Stage → Type 0 where
  begins : Reaches store folder access [] Idle
  locks : {cs : List Call} {stage : Stage} {at : List ℕ} {done : Bool} → Reaches store folder access cs stage
      → Reaches store folder access (Locked at done ∷ cs) stage
  reads : {cs : List Call} {stage : Stage} {name : List ℕ} {held : Option (List ℕ)} → Reaches store folder access cs stage
      → Reaches store folder access (Found name held ∷ cs) stage
  lists : {cs : List Call} {at : List ℕ} {names : Option (List (List ℕ))} → Reaches store folder access cs Idle
      → Reaches store folder access (Listed at names ∷ cs) Idle
  -- what a run that was killed has left
  clears : {cs : List Call} {name : List ℕ} {done : Bool} → name ≢ store → IsNewBeside store name → Reaches store folder access cs Idle
      → Reaches store folder access (Removed name done ∷ cs) Idle
  -- a name that is taken
  misses : {cs : List Call} {name : List ℕ} {closed : Bool} → name ≢ store → IsNewBeside store name → closed ≡ is_some access
      → HasCleared folder cs → Reaches store folder access cs Idle → Reaches store folder access (Taken name closed ∷ cs) Idle
  -- a file that is not made
  fails : {cs : List Call} {name : List ℕ} {closed : Bool} → name ≢ store → IsNewBeside store name → closed ≡ is_some access
      → HasCleared folder cs → Reaches store folder access cs Idle → Reaches store folder access (Created name closed false ∷ cs) Idle
  -- where the store has no access to be kept, there is none to be given
  makes : {cs : List Call} {name : List ℕ} {closed ready : Bool} → name ≢ store → IsNewBeside store name → closed ≡ is_some access
      → ready ≡ is_none access → HasCleared folder cs → Reaches store folder access cs Idle
      → Reaches store folder access (Created name closed true ∷ cs) (Beside name ready (Some []) false)
  permits : {cs : List Call} {name : List ℕ} {rights : Rights} {ready : Bool} {bytes : Option (List ℕ)} {durable : Bool}
      → access ≡ Some rights → Reaches store folder access cs (Beside name ready bytes durable)
      → Reaches store folder access (Permitted name rights true ∷ cs) (Beside name true bytes durable)
  forbids : {cs : List Call} {name : List ℕ} {rights : Rights} {ready : Bool} {bytes : Option (List ℕ)} {durable : Bool}
      → access ≡ Some rights → Reaches store folder access cs (Beside name ready bytes durable)
      → Reaches store folder access (Permitted name rights false ∷ cs) (Beside name ready bytes durable)
  -- only into a file that has its access
  writes : {cs : List Call} {name bytes written : List ℕ} {durable : Bool}
      → Reaches store folder access cs (Beside name true (Some bytes) durable)
      → Reaches store folder access (Wrote name written true ∷ cs) (Beside name true (Some (bytes ++ written)) false)
  spoils : {cs : List Call} {name written : List ℕ} {bytes : Option (List ℕ)} {durable : Bool}
      → Reaches store folder access cs (Beside name true bytes durable)
      → Reaches store folder access (Wrote name written false ∷ cs) (Beside name true None false)
  syncs : {cs : List Call} {name : List ℕ} {ready : Bool} {bytes : Option (List ℕ)} {durable done : Bool}
      → Reaches store folder access cs (Beside name ready bytes durable)
      → Reaches store folder access (Synced name done ∷ cs) (Beside name ready bytes done)
  -- only a file that has its access and was brought to the disk whole
  places : {cs : List Call} {name bytes : List ℕ} → Reaches store folder access cs (Beside name true (Some bytes) true)
      → Reaches store folder access (Moved name store true ∷ cs) (Placed bytes)
  stays : {cs : List Call} {name : List ℕ} {bytes : Option (List ℕ)} {durable : Bool}
      → Reaches store folder access cs (Beside name true bytes durable)
      → Reaches store folder access (Moved name store false ∷ cs) (Beside name true bytes durable)
  removes : {cs : List Call} {name : List ℕ} {ready : Bool} {bytes : Option (List ℕ)} {durable : Bool}
      → Reaches store folder access cs (Beside name ready bytes durable)
      → Reaches store folder access (Removed name true ∷ cs) Idle
  keeps : {cs : List Call} {name : List ℕ} {ready : Bool} {bytes : Option (List ℕ)} {durable : Bool}
      → Reaches store folder access cs (Beside name ready bytes durable)
      → Reaches store folder access (Removed name false ∷ cs) (Beside name ready bytes durable)
  folder_synced : {cs : List Call} {bytes : List ℕ} → Reaches store folder access cs (Placed bytes)
      → Reaches store folder access (SyncedFolder true ∷ cs) (Durable bytes)
  folder_unsynced : {cs : List Call} {bytes : List ℕ} → Reaches store folder access cs (Placed bytes)
      → Reaches store folder access (SyncedFolder false ∷ cs) (Placed bytes)

-- the calls since these brought the run to a stage
pub record After (site : Site) (base now : List Call) (stage : Stage) : Type 0 where
  pub since : List Call
  pub is : now ≡ since ++ base
  pub reaches : Reaches site.path site.folder site.access since stage

-- and the last of them was refused with this fault
pub record Refused (site : Site) (fault : Fault) (base now : List Call) (stage : Stage) : Type 0 where
  pub after : After site base now stage
  pub refusal : HasRefusal site.folder fault after.since

-- the calls since these left nothing of this run in the folder, the names of which were listed: some of them are cleared
pub record Clearing (site : Site) (names some : List (List ℕ)) (base now : List Call) : Type 0 where
  pub after : After site base now Idle
  pub clearing : IsClearing site.folder names some after.since

-- all of them are, and the last calls found the names of so many tries taken
pub record Tried (site : Site) (count : ℕ) (base now : List Call) : Type 0 where
  pub after : After site base now Idle
  pub cleared : HasCleared site.folder after.since
  pub taken : HasTaken site.folder count after.since

-- a new file stands beside the store, which may not be whole, and the last of the calls was refused
pub record Spoilt (site : Site) (name : List ℕ) (fault : Fault) (base now : List Call) : Type 0 where
  pub ready : Bool
  pub bytes : Option (List ℕ)
  pub durable : Bool
  pub refused : Refused site fault base now (Beside name ready bytes durable)

-- an empty file stands beside the store, and was given no access yet
abbrev pub new_file : Site → List ℕ → Stage
new_file site name = Beside name (is_none site.access) (Some []) false

-- from the one stage to the other
abbrev pub Brings : Site → List Call → Stage → List Call → Stage → Type 0
Brings site old from new to = (base : List Call) → After site base old from → After site base new to

-- nothing of this run stands in the folder, and at the fault nothing does
abbrev pub LeavesIdle : Site → Fault → List Call → List Call → Type 0
LeavesIdle site fault old new = (base : List Call) → After site base old Idle → Refused site fault base new Idle

-- a new file that may not be whole is left beside the store
abbrev pub LeavesBeside : Site → List ℕ → Fault → List Call → List Call → Type 0
LeavesBeside site name fault old new = (base : List Call) → After site base old (new_file site name) → Spoilt site name fault base new

-- where some names of the folder are cleared, this one is too
abbrev pub ClearsOne : Site → List ℕ → List Call → List Call → Type 0
ClearsOne site name old new = (names some : List (List ℕ)) (base : List Call) → Clearing site names some base old
    → Clearing site names (some ++ name ∷ []) base new

-- where nothing of this run stands in the folder, its names are listed, and cleared
abbrev pub Clears : Site → List Call → List Call → Type 0
Clears site old new = (base : List Call) → After site base old Idle → Tried site 0 base new

-- and then the names of so many tries are found taken
abbrev pub Tries : Site → ℕ → List Call → List Call → Type 0
Tries site count old new = (base : List Call) → Tried site 0 base old → Tried site count base new

-- a new file of this name stands beside the store
abbrev pub Makes : Site → List Call → List Call → List ℕ → Type 0
Makes site old new name = (count : ℕ) (base : List Call) → Tried site count base old → After site base new (new_file site name)

-- nothing of this run does, at the fault
abbrev pub GivesUp : Site → Fault → List Call → List Call → Type 0
GivesUp site fault old new = (count : ℕ) (base : List Call) → Tried site count base old → Refused site fault base new Idle

-- a new file of this name stands beside the store, if there is one; else this path was taken: where it is that of the next try, so many
-- are taken and one
abbrev pub MakesNew : Site → List ℕ → List Call → List Call → Option (List ℕ) → Type 0
MakesNew site path old new (Some name) = Makes site old new name
MakesNew site path old new None = (count : ℕ) → path ≡ numbered_path site.folder count → (base : List Call) → Tried site count base old
    → Tried site (suc count) base new
