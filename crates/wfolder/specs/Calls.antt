-- What is counted of the program's calls on files and streams, and the causes of its faults.
use Rattle.std.specs.Prelude.{◌≡◌, ◌⊎◌, ⊤, ℕ, zero, suc, ◌^◌, ◌≤◌, false, List, [], ◌∷◌, None}
use Rattle.wfolder.specs.Call.{Call}
use Rattle.wfolder.specs.Call as calls
use Rattle.wfolder.specs.Names.{numbered_path}
use Rattle.wfolder.specs.declared.fault.Fault.{Fault}
use Rattle.wfolder.specs.declared.fault.Fault.TheVariants as faults

-- the reads of files, and the calls that failed: those that open or read, and those that write, replace, or bring to the
-- disk; and the growths of memory that were refused. A path that leads to no place for a file counts as a failed write. A
-- call that found no memory counts as a refused growth alone
pub record CallCounts : Type 0 where
  pub reads : ℕ
  pub failed_reads : ℕ
  pub failed_writes : ℕ
  pub refused_growths : ℕ

-- how many reads the program may make
abbrev pub most_reads : ℕ
most_reads = 2 ^ 40

-- no call has failed, no growth was refused, and the reads are within their number
pub record NothingFailed (calls : CallCounts) : Type 0 where
  pub reads : calls.reads ≤ most_reads
  pub failed_reads : calls.failed_reads ≡ 0
  pub failed_writes : calls.failed_writes ≡ 0
  pub refused_growths : calls.refused_growths ≡ 0

-- one read failed, or none did and their number is used up; no write failed, and no growth was refused
pub record ReadFailed (calls : CallCounts) : Type 0 where
  pub cause : (calls.failed_reads ≡ 1) ⊎ ((calls.failed_reads ≡ 0) × (calls.reads ≡ most_reads))
  pub failed_writes : calls.failed_writes ≡ 0
  pub refused_growths : calls.refused_growths ≡ 0

-- one write failed, no read did, and no growth was refused
pub record WriteFailed (calls : CallCounts) : Type 0 where
  pub failed_reads : calls.failed_reads ≡ 0
  pub failed_writes : calls.failed_writes ≡ 1
  pub refused_growths : calls.refused_growths ≡ 0

-- one growth was refused, and no call failed
pub record LacksMemory (calls : CallCounts) : Type 0 where
  pub failed_reads : calls.failed_reads ≡ 0
  pub failed_writes : calls.failed_writes ≡ 0
  pub refused_growths : calls.refused_growths ≡ 1

-- each fault has its cause, and nothing else has failed
abbrev pub HasCause : Fault → CallCounts → Type 0
HasCause faults.Read calls = ReadFailed calls
HasCause faults.Write calls = WriteFailed calls
HasCause faults.NoMemory calls = LacksMemory calls

-- this call was refused, with a fault of its kind
abbrev pub IsRefused : Fault → Call → Type 0
IsRefused faults.Read (calls.Listed folder None) = ⊤
IsRefused faults.Write (calls.Created name closed false) = ⊤
IsRefused faults.Write (calls.Permitted name rights false) = ⊤
IsRefused faults.Write (calls.Wrote name written false) = ⊤
IsRefused faults.Write (calls.Synced name false) = ⊤
IsRefused faults.Write (calls.Moved from to false) = ⊤
IsRefused faults.Write (calls.SyncedFolder false) = ⊤
IsRefused fault c = ⊥

-- how many names are tried for a new file
abbrev pub tries : ℕ
tries = 1_000

-- the last calls found the names of so many tries taken, each with the number of its try, from 0 on
abbrev pub HasTaken : List ℕ → ℕ → List Call → Type 0
HasTaken folder zero cs = ⊤
HasTaken folder (suc n) (calls.Taken name closed ∷ cs) = (name ≡ numbered_path folder n) × HasTaken folder n cs
HasTaken folder (suc n) cs = ⊥

-- the last of the calls, but for removals, was refused, with a fault of its kind; or the names of all tries in the folder were taken.
-- A name that is taken is no refusal by itself. Of a growth that was refused no call tells
abbrev pub HasRefusal : List ℕ → Fault → List Call → Type 0
HasRefusal folder faults.NoMemory cs = ⊤
HasRefusal folder fault [] = ⊥
HasRefusal folder fault (calls.Removed name done ∷ cs) = HasRefusal folder fault cs
HasRefusal folder faults.Write (calls.Taken name closed ∷ cs) = HasTaken folder tries (calls.Taken name closed ∷ cs)
HasRefusal folder fault (c ∷ cs) = IsRefused fault c
