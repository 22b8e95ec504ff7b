-- The status with which the program ends, and what it has written to standard output then.
use Rattle.std.specs.Prelude.{◌≡◌, ◌<◌, ℕ, List, Option, Result, Ok, Err, length, take, string_bytes}
use Rattle.std.specs.Io.KnownBytes.{Appends, Keeps}
use Rattle.wreplies.specs.Texts.{bytes_of}
use Rattle.wcommand.specs.declared.choice.Choice.{Choice}
use Rattle.wcommand.specs.declared.fault.WordsFault.{WordsFault}
use Rattle.wcommand.specs.declared.fault.WordsFault.TheVariants as words
use Rattle.wact.specs.declared.acted.Acted.{Acted}
use Rattle.wstore.specs.declared.script_run.End.{End}
use Rattle.wstore.specs.declared.script_run.End.TheVariants as ends
use Rattle.wstore.specs.declared.script_run.RunFault.{RunFault}
use Rattle.wfolder.specs.Calls.{CallCounts, HasCause, NothingFailed}
use Rattle.wfolder.specs.Call.{Call}
use Rattle.wstore_program.specs.Performing.{IsGivenUp, IsPerformed}
use Rattle.wfolder.specs.declared.fault.Fault.{Fault}

-- of a script
abbrev pub script_status : Result End RunFault → ℕ
script_status (Ok ends.Done) = 0
script_status (Ok ends.Bad) = 2
script_status (Err fault) = 3

-- a front of a text was written, and not all of it
abbrev pub WritesFront : List ℕ → Option (List ℕ) → Option (List ℕ) → Type 0
WritesFront text old new = (n : ℕ) × (n < length text) × Appends old new (take n text)

-- a text that is printed: whole, with the status of what was done; or a front of it, and then the writer failed
pub data IsPrinted (text : List ℕ) (done : ℕ) (old new : Option (List ℕ)) (failures status : ℕ) : Type 0 where
  Whole : Appends old new text → failures ≡ 0 → status ≡ done → IsPrinted text done old new failures status
  Unwritten : WritesFront text old new → failures ≡ 1 → status ≡ 3 → IsPrinted text done old new failures status

-- of words that choose nothing
abbrev pub HasWordsStatus : WordsFault → Option (List ℕ) → Option (List ℕ) → ℕ → ℕ → Type 0
HasWordsStatus (words.Help text) old new failures status = IsPrinted (string_bytes text) 0 old new failures status
HasWordsStatus (words.Refused text) old new failures status = Keeps old new × (status ≡ 2)
HasWordsStatus words.NoMemory old new failures status = Keeps old new × (status ≡ 3)

-- of a subcommand on files: a fault with its cause, of which nothing is printed; or what the subcommand gives, printed, with its
-- status, where no call on files failed. What was done to the store the calls on its folder tell, before and after
pub data HasFileStatus (choice : Choice) (counts : CallCounts) (before after : List Call) (old new : Option (List ℕ))
    (failures status : ℕ) : Type 0 where
  Failed : (fault : Fault) → HasCause fault counts → IsGivenUp choice fault before after → Keeps old new → status ≡ 3
      → HasFileStatus choice counts before after old new failures status
  Performed : (acted : Acted) → IsPerformed choice acted before after → NothingFailed counts
      → IsPrinted (bytes_of acted.output) acted.status old new failures status
      → HasFileStatus choice counts before after old new failures status
