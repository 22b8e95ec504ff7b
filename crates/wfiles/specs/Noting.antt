-- What is noted of calls.
use Rattle.std.specs.Prelude.{ℕ, Bool, List, [], ◌∷◌, ◌++◌, ◌==◌, true, false, cond, if◌then◌else◌, None, Some, slice_index}
use Rattle.wfolder.specs.Call.{Call, Rights, Locked, Checked, Found, Listed, Created, Permitted}
use Rattle.wfiles.specs.declared.record.CallKind.{CallKind}
use Rattle.wfiles.specs.declared.record.CallKind.TheVariants as kinds
use Rattle.wfolder.specs.Call.{Wrote, Synced, Moved, SyncedFolder, Removed, Began, Taken, Followed}

-- the number under which a kind of call is noted
abbrev pub call_number : CallKind → ℕ
call_number kinds.Locked = 0
call_number kinds.Found = 1
call_number kinds.Created = 2
call_number kinds.CreatedClosed = 3
call_number kinds.Wrote = 4
call_number kinds.Synced = 5
call_number kinds.Moved = 6
call_number kinds.SyncedFolder = 7
call_number kinds.Removed = 8
call_number kinds.Began = 9
call_number kinds.Listed = 10
call_number kinds.Taken = 11
call_number kinds.TakenClosed = 12
call_number kinds.Followed = 13

-- a call as it is noted: its number, and 1 where it was done
abbrev pub call_of : ℕ → Bool → List ℕ → List ℕ → Call
call_of n done name bytes =
    if n == 0 then Locked name done
    else if n == 1 then Found name (cond done (Some bytes) None)
    else if n == 2 then Created name false done
    else if n == 3 then Created name true done
    else if n == 4 then Wrote name bytes done
    else if n == 5 then Synced name done
    else if n == 6 then Moved name bytes done
    else if n == 7 then SyncedFolder done
    else if n == 8 then Removed name done
    else if n == 10 then Listed name (cond done (Some []) None)
    else if n == 11 then Taken name false
    else if n == 12 then Taken name true
    else if n == 13 then Followed name (cond done (Some bytes) None)
    else Began name bytes

-- a read of the file that the newest call began to read gave these bytes, none at its end
abbrev pub read_on : List ℕ → List Call → List Call
read_on [] (Began name bytes ∷ cs) = Found name (Some bytes) ∷ cs
read_on (b ∷ bs) (Began name bytes ∷ cs) = Began name (bytes ++ b ∷ bs) ∷ cs
read_on block cs = cs

-- the newest call listed this name too
abbrev pub name_on : List ℕ → List Call → List Call
name_on name (Listed folder (Some names) ∷ cs) = Listed folder (Some (names ++ name ∷ [])) ∷ cs
name_on name cs = cs

-- an owner, a group and a mode, behind three other numbers
abbrev pub rights_in : List ℕ → Rights
rights_in numbers = record { owner = slice_index numbers 3; group = slice_index numbers 4; mode = slice_index numbers 5 }

-- the calls with what is noted: by the third number what a read gave, a name that was listed, that an access was given, what a look at a
-- file that may be replaced found, or another call
abbrev pub noted : List ℕ → List ℕ → List ℕ → List Call → List Call
noted numbers name bytes cs =
    if slice_index numbers 2 == 1 then read_on bytes cs
    else if slice_index numbers 2 == 2 then name_on name cs
    else if slice_index numbers 2 == 3 then Permitted name (rights_in numbers) (slice_index numbers 1 == 1) ∷ cs
    else if slice_index numbers 2 == 4 then Checked name (cond (slice_index numbers 1 == 1) (Some (rights_in numbers)) None) ∷ cs
    else call_of (slice_index numbers 0) (slice_index numbers 1 == 1) name bytes ∷ cs
