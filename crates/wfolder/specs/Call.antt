-- A call on a file or a folder, with what it answered.
use Rattle.std.specs.Prelude.{ℕ, Bool, true, false, List, Option}
use Rattle.std.specs.Fs.{permissions_mode}
use Rattle.wfolder.specs.declared.folder.Access.{Access}

-- an owner, a group and a mode
pub record Rights : Type 0 where
  pub owner : ℕ
  pub group : ℕ
  pub mode : ℕ

-- those of an access
abbrev pub rights_of : Access → Rights
rights_of access = record { owner = access.owner; group = access.group; mode = permissions_mode access.permissions }

-- names and bytes as they were passed; a flag tells whether the call was done
pub data Call : Type 0 where
  -- it was looked at whether a link stands under a path, and, if one does, which path it leads to behind all links
  Followed : List ℕ → Option (List ℕ) → Call
  -- this run opens the folder under a path and takes its lock, which it keeps
  Locked : List ℕ → Bool → Call
  -- what stands under a name was looked at, and may be replaced: a plain file with leave to write, of this owner, group and mode, or none
  Checked : List ℕ → Option Rights → Call
  -- the file of a name was read whole, or there was none
  Found : List ℕ → Option (List ℕ) → Call
  -- the names of a folder's files that begin as those of new files do were listed, or could not be
  Listed : List ℕ → Option (List (List ℕ)) → Call
  -- a new file is made under a name that leads to none, by the first flag for its owner alone
  Created : List ℕ → Bool → Bool → Call
  -- none is made, since the name is taken
  Taken : List ℕ → Bool → Call
  -- the file of a name is given an owner, a group and a mode
  Permitted : List ℕ → Rights → Bool → Call
  -- bytes are written at the end of the file of a name
  Wrote : List ℕ → List ℕ → Bool → Call
  -- the file of a name is brought to the disk
  Synced : List ℕ → Bool → Call
  -- the file of the first name is moved over that of the second
  Moved : List ℕ → List ℕ → Bool → Call
  -- the names of the folder that is locked are brought to the disk
  SyncedFolder : Bool → Call
  -- a name is removed
  Removed : List ℕ → Bool → Call
  -- the first bytes of the file of a name were read
  Began : List ℕ → List ℕ → Call

-- a new file was made, or its name was taken
abbrev pub made_or_taken : List ℕ → Bool → Bool → Call
made_or_taken name closed true = Created name closed true
made_or_taken name closed false = Taken name closed
