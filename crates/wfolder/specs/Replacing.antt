-- What replacing a store does to it.
use Rattle.std.specs.Prelude.{◌≡◌, ◌≢◌, ◌⊎◌, ⊤, ℕ, true, false, List, [], ◌∷◌, ◌++◌, Option, None, Some, Result, Ok, Err, IfErr, is_some}
use Rattle.wfolder.specs.Call.{Call, Rights}
use Rattle.wfolder.specs.Call as calls
use Rattle.wfolder.specs.Calls.{HasRefusal}
use Rattle.wfolder.specs.Clearing.{ClearsLeft}
use Rattle.wfolder.specs.Names.{IsNewBeside, Site}
use Rattle.wfolder.specs.Model.{Disk, MayHold, IsOwn, Runs, holds}
use Rattle.wfolder.specs.declared.fault.Fault.{Fault}
use Rattle.wfolder.specs.declared.replacing.NotReplaced.{NotReplaced}
use Rattle.wfolder.specs.declared.replacing.NotReplaced.TheVariants.{Kept, Unsynced}

-- the fault behind it
abbrev pub fault_of : NotReplaced → Fault
fault_of (Kept fault) = fault
fault_of (Unsynced fault) = fault

-- the store is replaced, and only its folder was not brought to the disk
abbrev pub IsUnsynced : NotReplaced → Type 0
IsUnsynced (Kept fault) = ⊥
IsUnsynced (Unsynced fault) = ⊤

-- at each moment, before the first call, between two and behind the last
abbrev pub AtEachMoment : (List Call → Type 0) → List Call → Type 0
AtEachMoment P [] = P []
AtEachMoment P (c ∷ cs) = P (c ∷ cs) × AtEachMoment P cs

-- a crash behind these calls leaves under the store's name what it might have left before them, or these bytes, whole
abbrev pub LeavesOldOrNew : List ℕ → List ℕ → List ℕ → List Call → List Call → Type 0
LeavesOldOrNew store folder bytes base cs = (d e : Disk) → Runs store folder base d cs e → (held : Option (List ℕ))
    → MayHold e store held → MayHold d store held ⊎ (held ≡ Some bytes)

-- a new file beside the store, and not the store
abbrev pub IsNewHere : List ℕ → List ℕ → Type 0
IsNewHere store name = (name ≢ store) × IsNewBeside store name

-- new files are made beside the store alone, or tried to be; only what this run made, or there a run that was killed, is removed;
-- only what this run made is written and moved, over the store alone
abbrev pub ChangesOnlyOwn : List ℕ → List Call → Type 0
ChangesOnlyOwn store [] = ⊤
ChangesOnlyOwn store (calls.Created name closed done ∷ cs) = IsNewHere store name × ChangesOnlyOwn store cs
ChangesOnlyOwn store (calls.Taken name closed ∷ cs) = IsNewHere store name × ChangesOnlyOwn store cs
ChangesOnlyOwn store (calls.Permitted name rights done ∷ cs) = IsOwn cs name × ChangesOnlyOwn store cs
ChangesOnlyOwn store (calls.Wrote name written done ∷ cs) = IsOwn cs name × ChangesOnlyOwn store cs
ChangesOnlyOwn store (calls.Synced name done ∷ cs) = IsOwn cs name × ChangesOnlyOwn store cs
ChangesOnlyOwn store (calls.Moved from to done ∷ cs) = (IsOwn cs from × (to ≡ store)) × ChangesOnlyOwn store cs
ChangesOnlyOwn store (calls.Removed name done ∷ cs) = (IsOwn cs name ⊎ IsNewHere store name) × ChangesOnlyOwn store cs
ChangesOnlyOwn store (c ∷ cs) = ChangesOnlyOwn store cs

-- of what this run made nothing stands but where the last call was to remove it, and was refused
abbrev pub ClearsOwn : List Call → Type 0
ClearsOwn cs = (name : List ℕ) → IsOwn cs name → (before : List Call) × (cs ≡ calls.Removed name false ∷ before)

-- the new file of a name was given its access since it was made, by the calls, the newest first
abbrev pub IsPermitted : List Call → List ℕ → Type 0
IsPermitted [] name = ⊥
IsPermitted (calls.Created made closed true ∷ cs) name = (name ≢ made) × IsPermitted cs name
IsPermitted (calls.Permitted given rights true ∷ cs) name = (name ≡ given) ⊎ IsPermitted cs name
IsPermitted (c ∷ cs) name = IsPermitted cs name

-- where the store has an access, each new file is made for its owner alone, is given just this owner, group and mode, and has them before
-- anything is written into it and before it is moved; where it has none, no file is given any
abbrev pub KeepsAccess : Option Rights → List Call → Type 0
KeepsAccess access [] = ⊤
KeepsAccess access (calls.Created name closed done ∷ cs) = (closed ≡ is_some access) × KeepsAccess access cs
KeepsAccess access (calls.Taken name closed ∷ cs) = (closed ≡ is_some access) × KeepsAccess access cs
KeepsAccess access (calls.Permitted name rights done ∷ cs) = (access ≡ Some rights) × KeepsAccess access cs
KeepsAccess access (calls.Wrote name written done ∷ cs) = ((access ≡ None) ⊎ IsPermitted cs name) × KeepsAccess access cs
KeepsAccess access (calls.Moved from to done ∷ cs) = ((access ≡ None) ⊎ IsPermitted cs from) × KeepsAccess access cs
KeepsAccess access (c ∷ cs) = KeepsAccess access cs

-- the store holds what it held, and a crash leaves nothing else than it might have left
pub record IsUnchanged (store : List ℕ) (d e : Disk) : Type 0 where
  pub holds_old : holds e store ≡ holds d store
  pub leaves_old : (held : Option (List ℕ)) → MayHold e store held → MayHold d store held

-- the store holds these bytes, and a crash leaves them
pub record IsReplaced (store bytes : List ℕ) (e : Disk) : Type 0 where
  pub holds_new : holds e store ≡ Some bytes
  pub leaves_new : (held : Option (List ℕ)) → MayHold e store held → held ≡ Some bytes

-- how it ends: replaced; or kept at a fault, but where only the folder was not brought to the disk: then the store holds the new
-- bytes, and a crash may leave what it might have left before
abbrev pub IsEnd : List ℕ → List ℕ → Result (Unit {0}) NotReplaced → Disk → Disk → Type 0
IsEnd store bytes (Ok done) d e = IsReplaced store bytes e
IsEnd store bytes (Err (Kept fault)) d e = IsUnchanged store d e
IsEnd store bytes (Err (Unsynced fault)) d e = holds e store ≡ Some bytes

-- a store is replaced by the calls between the one record and the other; a read or a write fault is that of the last of them
pub record Replaces (site : Site) (bytes : List ℕ) (result : Result (Unit {0}) NotReplaced) (old new : List Call) : Type 0 where
  pub since : List Call
  pub is : new ≡ since ++ old
  pub own : ChangesOnlyOwn site.path since
  pub access : KeepsAccess site.access since
  pub cleared : ClearsLeft site.folder since
  pub clears : ClearsOwn since
  pub refusal : IfErr result (λ fault. HasRefusal site.folder (fault_of fault) since)
  pub moments : AtEachMoment (LeavesOldOrNew site.path site.folder bytes old) since
  pub end : (d e : Disk) → Runs site.path site.folder old d since e → IsEnd site.path bytes result d e
