-- What a shell gives on the files that it reads.
use Rattle.std.proofs.Common.{◌≡◌, ℕ, Bool, List, ◌∷◌, Option, Result, Ok, Err, IfOk, IfErr, OnOk, IfSome, subst}
use Rattle.std.specs.Io.KnownBytes.{Appends}
use Rattle.wvalues.specs.Counts.{Counts}
use Rattle.wlines.specs.Pending.{IsSound, IsSoundWriter}
use Rattle.wfolder.specs.Call.{Call, Found}
use Rattle.wfiles.specs.Reading.{ReadsAtMost}
use Rattle.wfolder.specs.declared.fault.Fault.{Fault}
use Rattle.wfolder.specs.declared.fault.Fault.TheVariants as causes
use Rattle.wcommand.specs.declared.choice.Paths.{Paths}
use Rattle.wact.specs.Opening.{Opens}
use Rattle.wact.specs.declared.opening.Opened.{Opened}
use Rattle.wstore.specs.Nodes.{NodeState}
use Rattle.wshell.specs.Runs as runs
use Rattle.wshell.specs.declared.fault.ShellFault.{ShellFault}
use Rattle.wshell.specs.declared.fault.ShellFault.TheVariants as ends
use Rattle.wstore_program.specs.Shelling.{IsOpened, IsRun, IsUnopened, Unmade}
use Rattle.wstore_program.proofs.Performed.{files_read}

-- what is opened on the files that were read
pub opened : (paths : Paths) (lent table : List ℕ) (store : Option (List ℕ)) (old first read : List Call)
    (result : Result Opened Fault) → lent ≡ table → ReadsAtMost paths.table.now 65536 table old first
    → read ≡ Found paths.store.now store ∷ first → IfOk result (λ o. Opens lent store o) → IfOk result (λ o. IsOpened paths o old read)
opened paths lent table store old first read (Ok o) same t s opens =
    record {
      table = table;
      store = store;
      read = files_read paths table store old first read t s;
      opens =
          subst (λ (bytes : List ℕ). Opens bytes store o) same opens;
    }
opened paths lent table store old first read (Err fault) same t s opens = tt

-- or there was no memory to open it
pub unopened : {A : Type 0} (paths : Paths) (table : List ℕ) (store : Option (List ℕ)) (old first read : List Call)
    (result : Result A Fault) → ReadsAtMost paths.table.now 65536 table old first → read ≡ Found paths.store.now store ∷ first
    → IfErr result (λ fault. fault ≡ causes.NoMemory) → IfErr result (λ fault. IsUnopened paths fault old read)
unopened paths table store old first read (Ok o) t s lacks = tt
unopened paths table store old first read (Err fault) t s lacks =
    Unmade table store lacks (files_read paths table store old first read t s)

-- how a run ended
pub run_outcome : {I W : Type 0} (node : NodeState) (left new_left : Option (List ℕ)) (input : Counts I)
    (old new : Option (List ℕ)) (output : Counts W) (end : Result Bool ShellFault)
    → IfOk end (λ is_refused. IfSome left (λ bytes. (written : List ℕ) × Appends old new written
    × runs.Replies node.schema node.view bytes written is_refused))
    → IfErr end (λ fault. IfSome left (λ bytes. (written : List ℕ) × Appends old new written
    × runs.RepliesBegun node.schema node.view fault bytes written))
    → IfErr end (λ fault. fault ≡ ends.Read → runs.KeepsUp node.schema node.view left new_left old new)
    → OnOk end (IsSound input × IsSoundWriter output) → IfErr end (λ fault. runs.HasCause fault input output)
    → IsRun node left new_left input old new output end
run_outcome node left new_left input old new output (Ok is_refused) replies begun prompt sound cause = (replies, sound)
run_outcome node left new_left input old new output (Err fault) replies begun prompt sound cause = (begun, prompt, cause)
