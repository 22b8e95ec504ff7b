-- The status with which a shell ends, and what it has written then.
use Rattle.std.specs.Prelude.{◌≡◌, ℕ, Bool, true, false, List, Option, Result, Ok, Err, IfSome}
use Rattle.std.specs.Io.KnownBytes.{Appends, Keeps}
use Rattle.wvalues.specs.Counts.{Counts}
use Rattle.wlines.specs.Pending.{IsSound, IsSoundWriter}
use Rattle.wreplies.specs.Texts.{bytes_of}
use Rattle.wfolder.specs.Call.{Call}
use Rattle.wfolder.specs.Calls.{CallCounts, HasCause, NothingFailed}
use Rattle.wfolder.specs.declared.fault.Fault.{Fault}
use Rattle.wfolder.specs.declared.fault.Fault.TheVariants as causes
use Rattle.wcommand.specs.declared.choice.Paths.{Paths}
use Rattle.wact.specs.Opening.{Opens}
use Rattle.wact.specs.declared.opening.Opened.{Opened}
use Rattle.wact.specs.declared.opening.Opened.TheVariants as opens
use Rattle.wstore.specs.Nodes.{NodeState}
use Rattle.wstore_program.specs.Performing.{MissesFiles, ReadsFiles}
use Rattle.wstore_program.specs.Statuses.{IsPrinted}
use Rattle.wreplies.specs.declared.text.Text.{Text}
use Rattle.wshell.specs.Runs as runs
use Rattle.wshell.specs.declared.fault.ShellFault.{ShellFault}
use Rattle.wshell.specs.declared.fault.ShellFault.TheVariants as faults

-- of a shell's end: whether a query was refused, or a fault
abbrev pub shell_status : Result Bool ShellFault → ℕ
shell_status (Ok false) = 0
shell_status (Ok true) = 1
shell_status (Err fault) = 3

-- it is what the table and the store open that were read under these paths
pub record IsOpened (paths : Paths) (opened : Opened) (old new : List Call) : Type 0 where
  pub table : List ℕ
  pub store : Option (List ℕ)
  pub read : ReadsFiles paths table store old new
  pub opens : Opens table store opened

-- the table or the store is not read; or both are, and there is no memory to open them
pub data IsUnopened (paths : Paths) (fault : Fault) (old new : List Call) : Type 0 where
  Missed : MissesFiles paths old new → IsUnopened paths fault old new
  Unmade : (table : List ℕ) (store : Option (List ℕ)) → fault ≡ causes.NoMemory → ReadsFiles paths table store old new
      → IsUnopened paths fault old new

-- what a run on the queries of an input has written, where it ended so, and that nothing failed; or at a fault a beginning of that, and
-- the fault has its cause. Where a read failed, no reply waited for it
abbrev pub IsRun : {I W : Type 0} → NodeState → Option (List ℕ) → Option (List ℕ) → Counts I → Option (List ℕ)
    → Option (List ℕ) → Counts W → Result Bool ShellFault → Type 0
IsRun node left new_left input old new output (Ok is_refused) =
    IfSome left (λ bytes. (written : List ℕ) × Appends old new written × runs.Replies node.schema node.view bytes written is_refused)
    × (IsSound input × IsSoundWriter output)
IsRun node left new_left input old new output (Err fault) =
    IfSome left (λ bytes. (written : List ℕ) × Appends old new written × runs.RepliesBegun node.schema node.view fault bytes written)
    × (fault ≡ faults.Read → runs.KeepsUp node.schema node.view left new_left old new)
    × runs.HasCause fault input output

-- a node answers the queries of an input
pub record Answers {I W : Type 0} (node : NodeState) (left new_left : Option (List ℕ)) (input : Counts I)
    (old new : Option (List ℕ)) (output : Counts W) (status : ℕ) : Type 0 where
  pub end : Result Bool ShellFault
  pub ran : IsRun node left new_left input old new output end
  pub status_is : status ≡ shell_status end

-- the files are not opened, and a fault has its cause; or no call on them failed, and why the table or the store is refused is printed, or
-- the queries are answered on the node that they open. Which files were read the calls tell, before and after
pub data HasShellStatus {I W : Type 0} (paths : Paths) (counts : CallCounts) (before after : List Call)
    (left new_left : Option (List ℕ)) (input : Counts I) (old new : Option (List ℕ)) (output : Counts W) (status : ℕ) : Type 0 where
  NotOpened : (fault : Fault) → HasCause fault counts → IsUnopened paths fault before after → Keeps old new → status ≡ 3
      → HasShellStatus paths counts before after left new_left input old new output status
  Refused : (text : Text) → IsOpened paths (opens.Refused text) before after → NothingFailed counts
      → IsPrinted (bytes_of text) 1 old new output.failures status
      → HasShellStatus paths counts before after left new_left input old new output status
  Ran : (node : NodeState) → IsOpened paths (opens.Node node) before after → NothingFailed counts
      → Answers node left new_left input old new output status
      → HasShellStatus paths counts before after left new_left input old new output status
