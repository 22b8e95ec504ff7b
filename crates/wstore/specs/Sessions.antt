-- Where a session stands after a history.
use Rattle.std.specs.Prelude.{◌≡◌, ℕ, List, [], ◌∷◌, Option, None, Some, is_some, true, false}
use Rattle.wsegment.specs.Declaration.{Declaration}
use Rattle.wscript.specs.Commands.{Command}
use Rattle.wstore.specs.Replies.{Reply, text_of}
use Rattle.wstore.specs.History.{Step, Answers, declaration, known, is_put, is_bad, stream, handled}
use Rattle.wstore.specs.Standing.{Places, StandAt}
use Rattle.wscript.specs.declared.request.Command as code
use Rattle.wscript.specs.declared.request.Command.TheVariants as commands
use Rattle.wscript.specs.declared.request.Refusal.{Refusal}
use Rattle.wscript.specs.declared.request.Refusal.TheVariants as refusals
use Rattle.wsegment.specs.declared.schema_fault.SchemaFault.TheVariants as tables
use Rattle.wsegment.specs.declared.fault.SegmentFault.TheVariants as segments
use Rattle.wplanner.specs.declared.fault.AskFault.TheVariants as queries
use Rattle.wreplies.specs.Spelling.{name_text, query_text, segment_text, table_text}
use Rattle.wstore.specs.declared.session.Session.{Session}

-- a node was fed nothing
abbrev pub IsSilent : List Step → ℕ → Type 0
IsSilent h n = (is_bad h n ≡ false) × (stream h n ≡ []) × (handled h n ≡ [])

abbrev pub ClusterStands : Option Places → List Step → Type 0
ClusterStands None h = (declaration h ≡ None) × ((n : ℕ) → known h n ≡ []) × ((k : ℕ) → is_put h k ≡ false) × ((n : ℕ) → IsSilent h n)
ClusterStands (Some cluster) h = (d : Declaration) × StandAt d cluster h

-- nothing was declared, known or put, or the nodes and slots stand where the history led
abbrev pub Stands : Session → List Step → Type 0
Stands session h = ClusterStands session.cluster h

-- what is told of a command that its form refuses
abbrev pub refusal_text : Refusal → List ℕ
refusal_text refusals.LongDeclaration = table_text tables.Syntax
refusal_text (refusals.BadName fault) = name_text fault
refusal_text refusals.LongSegment = segment_text segments.TooLong
refusal_text refusals.LongQuery = query_text queries.TooLong

-- a command was answered by this text, and the session stands behind it
pub record RepliesWith (session : Session) (h : List Step) (c : Command) (text : List ℕ) : Type 0 where
  pub reply : Reply
  pub answers : Answers h c reply
  pub text_is : text ≡ text_of reply
  pub stands : Stands session (record { command = c; reply = reply } ∷ h)

-- a node is spoken to only once the table is declared
abbrev pub MayStand : Session → code.Command → Type 0
MayStand session (commands.Declare bytes) = Unit {0}
MayStand session (commands.Refused refusal) = Unit {0}
MayStand session (commands.At node order) = is_some session.cluster ≡ true
MayStand session (commands.Feed node piece) = is_some session.cluster ≡ true
