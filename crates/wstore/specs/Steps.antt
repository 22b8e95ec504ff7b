-- What one step of a run tells: old was left and held before it, new after it.
use Rattle.std.specs.Prelude.{◌≡◌, ℕ, List, [], ◌∷◌, take, Option, None, Some, IfSome, ◌⊎◌}
use Rattle.std.specs.List.{flat_map}
use Rattle.std.specs.Io.KnownBytes.{Keeps, Consumes, IsAtEnd}
use Rattle.wvalues.specs.Counts.{Counts}
use Rattle.wlines.specs.Pending.{IsSound, IsSoundWriter, ReadFailed}
use Rattle.wlines.specs.Sent.{Sent, Says, Waiting}
use Rattle.wsegment.specs.Declaration.{Declaration}
use Rattle.wscript.specs.Commands.{Command, Feed, IsCommand, IsShortDeclaration, IsMalformed, spell}
use Rattle.wstore.specs.Replies.{Reply, Line, line_text, text_of, bad_script}
use Rattle.wstore.specs.History.{Step, Answers, FeedBegins, declaration, is_declared}
use Rattle.wstore.specs.Runs.{Stops}
use Rattle.wstore.specs.Sessions.{Stands}
use Rattle.wstore.specs.declared.session.Session.{Session}
use Rattle.wstore.specs.declared.script_run.End.{End}
use Rattle.wstore.specs.declared.script_run.End.TheVariants.{Done, Bad}
use Rattle.wstore.specs.declared.script_run.RunFault.{RunFault}
use Rattle.wstore.specs.declared.script_run.RunFault.TheVariants.{Read, Write, NoMemory}

-- each fault has its cause, and nothing else has failed
abbrev pub HasCause : {R W : Type 0} → RunFault → Counts R → Counts W → Type 0
HasCause Read input output = ReadFailed input × IsSoundWriter output
HasCause Write input output = IsSound input × (output.failures ≡ 1)
HasCause NoMemory input output = IsSound input × IsSoundWriter output

-- and before the reader failed, all that waited was written
abbrev pub HasStepCause : {R W : Type 0} → RunFault → Counts R → Waiting → Counts W → Type 0
HasStepCause Read input outbox output = ReadFailed input × IsSoundWriter output × (outbox.bytes ≡ [])
HasStepCause Write input outbox output = IsSound input × (output.failures ≡ 1)
HasStepCause NoMemory input outbox output = IsSound input × IsSoundWriter output

-- a fault of a reply: the reader has no part in it
abbrev pub HasWriteCause : {W : Type 0} → RunFault → Counts W → Type 0
HasWriteCause Read output = ⊥
HasWriteCause Write output = output.failures ≡ 1
HasWriteCause NoMemory output = IsSoundWriter output

-- a command was answered in full, and the session stands behind it
pub record Answered (session : Session) (h : List Step) (c : Command) (held new_held : Sent) : Type 0 where
  pub reply : Reply
  pub answers : Answers h c reply
  pub appends : Says held new_held (text_of reply)
  pub stands : Stands session (record { command = c; reply = reply } ∷ h)

-- a front of a reply to the command was written
pub record AnsweredPart (h : List Step) (c : Command) (held new_held : Sent) : Type 0 where
  pub reply : Reply
  pub n : ℕ
  pub answers : Answers h c reply
  pub appends : Says held new_held (take n (text_of reply))

-- a front was written of what the first messages of a piece are told
pub record AnsweredLines (h : List Step) (c : Command) (held new_held : Sent) : Type 0 where
  pub d : Declaration
  pub node : ℕ
  pub piece : List ℕ
  pub lines : List Line
  pub n : ℕ
  pub declared : declaration h ≡ Some d
  pub command_is : c ≡ Feed node piece
  pub begins : FeedBegins d h node piece lines
  pub appends : Says held new_held (take n (flat_map line_text lines))

-- a front was written of the reply to a piece
abbrev pub FedPart : List Step → ℕ → List ℕ → Sent → Sent → Type 0
FedPart h n piece held new_held = AnsweredPart h (Feed n piece) held new_held ⊎ AnsweredLines h (Feed n piece) held new_held

-- a command was not answered in full: the writer failed, or a declaration within its limit found no memory
abbrev pub Unanswered : RunFault → List Step → Command → Sent → Sent → Type 0
Unanswered Read h c held new_held = ⊥
Unanswered Write h c held new_held = AnsweredPart h c held new_held ⊎ AnsweredLines h c held new_held
Unanswered NoMemory h c held new_held = IsShortDeclaration c × Says held new_held []

-- one step
pub record StepsOn (session : Session) (h : List Step) (left new_left : Option (List ℕ)) (held new_held : Sent) : Type 0 where
  pub command : Command
  pub is : IsCommand (is_declared h) command
  pub consumes : Consumes left new_left (spell command)
  pub answered : Answered session h command held new_held

abbrev pub StepEnds : End → List Step → Option (List ℕ) → Option (List ℕ) → Sent → Sent → Type 0
StepEnds Done h left new_left held new_held = Keeps left new_left × IsAtEnd new_left × Says held new_held []
StepEnds Bad h left new_left held new_held = IfSome left (λ xs. IsMalformed (is_declared h) xs) × Says held new_held bad_script

abbrev pub StepLeads : Option End → Session → List Step → Option (List ℕ) → Option (List ℕ) → Sent → Sent → Type 0
StepLeads None session h left new_left held new_held = StepsOn session h left new_left held new_held
StepLeads (Some end) session h left new_left held new_held = StepEnds end h left new_left held new_held

-- a step that failed
abbrev pub StepFails : RunFault → List Step → Option (List ℕ) → Sent → Sent → Type 0
StepFails fault h left held new_held = IfSome left (λ xs. (part : List ℕ) × Stops fault h xs part × Says held new_held part)
