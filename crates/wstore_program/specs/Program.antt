-- What the program does of the words behind its name, with what it has written to standard output then, what was counted of that and
-- of standard input, and its status.
use Rattle.std.specs.Prelude.{◌≡◌, ℕ, true, List, Option, Result, Ok, Err, IfSome}
use Rattle.std.specs.Io.KnownBytes.{Appends}
use Rattle.wvalues.specs.Counts.{Counts}
use Rattle.wlines.specs.Pending.{IsSound, IsSoundWriter}
use Rattle.wfolder.specs.Call.{Call}
use Rattle.wfolder.specs.Calls.{CallCounts, NothingFailed}
use Rattle.wcommand.specs.Choices.{Chooses}
use Rattle.wcommand.specs.Inputs.{is_act}
use Rattle.wcommand.specs.declared.choice.Choice.{Choice}
use Rattle.wcommand.specs.declared.choice.Choice.TheVariants as choices
use Rattle.wcommand.specs.declared.choice.Paths.{Paths}
use Rattle.wcommand.specs.declared.fault.WordsFault.{WordsFault}
use Rattle.wstore.specs.Runs.{Replies, RepliesBegun}
use Rattle.wstore.specs.Steps.{HasCause}
use Rattle.wstore.specs.declared.script_run.End.{End}
use Rattle.wstore.specs.declared.script_run.RunFault.{RunFault}
use Rattle.wstore_program.specs.Shelling.{HasShellStatus}
use Rattle.wstore_program.specs.Statuses.{HasFileStatus, HasWordsStatus, script_status}

-- what a run of a script has written, where it ended so: the replies to its commands; or at a fault a beginning of them, and the
-- fault has its cause
abbrev pub IsScriptRun : {I W : Type 0} → Option (List ℕ) → Counts I → Option (List ℕ) → Option (List ℕ) → Counts W
    → Result End RunFault → Type 0
IsScriptRun left input old new output (Ok end) =
    IfSome left (λ bytes. (written : List ℕ) × Appends old new written × Replies end bytes written)
    × (IsSound input × IsSoundWriter output)
IsScriptRun left input old new output (Err fault) =
    IfSome left (λ bytes. (written : List ℕ) × Appends old new written × RepliesBegun fault input.reads bytes written)
    × HasCause fault input output

-- a script is run, which the input has, and the status is that of its end
pub record HasScriptStatus {I W : Type 0} (left : Option (List ℕ)) (input : Counts I) (old new : Option (List ℕ))
    (output : Counts W) (status : ℕ) : Type 0 where
  pub end : Result End RunFault
  pub ran : IsScriptRun left input old new output end
  pub status_is : status ≡ script_status end

-- what is chosen is done: a script is run, and no file is touched; or a shell answers the queries of the input on the files that
-- the words name; or any other subcommand is done on its files, and leaves the input alone
pub data DoesChoice {I W : Type 0} (choice : Choice) (counts : CallCounts) (before after : List Call)
    (left new_left : Option (List ℕ)) (input : Counts I) (old new : Option (List ℕ)) (output : Counts W) (status : ℕ) : Type 0 where
  Session : choice ≡ choices.Session → after ≡ before → HasScriptStatus left input old new output status
      → DoesChoice choice counts before after left new_left input old new output status
  Shell : (paths : Paths) → choice ≡ choices.Shell paths
      → HasShellStatus paths counts before after left new_left input old new output status
      → DoesChoice choice counts before after left new_left input old new output status
  Act : is_act choice ≡ true → new_left ≡ left → HasFileStatus choice counts before after old new output.failures status
      → DoesChoice choice counts before after left new_left input old new output status

-- what the words choose is done; or, where they choose nothing, what is wrong with them is told, or what they ask for, and neither
-- the input nor a file is touched
pub data DoesWords {I W : Type 0} (words : List (List ℕ)) (counts : CallCounts) (before after : List Call)
    (left new_left : Option (List ℕ)) (input : Counts I) (old new : Option (List ℕ)) (output : Counts W) (status : ℕ) : Type 0 where
  Chosen : (choice : Choice) → Chooses words (Ok choice)
      → DoesChoice choice counts before after left new_left input old new output status
      → DoesWords words counts before after left new_left input old new output status
  Told : (fault : WordsFault) → Chooses words (Err fault) → after ≡ before → new_left ≡ left → NothingFailed counts
      → HasWordsStatus fault old new output.failures status
      → DoesWords words counts before after left new_left input old new output status
