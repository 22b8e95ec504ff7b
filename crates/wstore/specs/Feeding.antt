-- What feeding a node writes.
use Rattle.std.specs.Prelude.{◌≡◌, ℕ, Bool, true, false, List, ◌∷◌, ◌++◌, take, length, ◌⊎◌}
use Rattle.std.specs.List.{flat_map}
use Rattle.wlines.specs.Sent.{Sent, Says}
use Rattle.wsegment.specs.Declaration.{Declaration}
use Rattle.wscript.specs.Commands.{Feed}
use Rattle.wstore.specs.Replies as history
use Rattle.wstore.specs.History.{Step, Answers}
use Rattle.wstore.specs.Standing.{Places, StandAt}
use Rattle.wstore.specs.Replies.{text_of, Line, line_text, fed_text}
use Rattle.wreplies.specs.Spelling.{taken_text, retired_text, segment_text, has_row, no_memory}
use Rattle.wstore.specs.Nodes.{NodeState, HandlesLines, HandlesAll}
use Rattle.wstore.specs.declared.node.Reply.{Reply}
use Rattle.wstore.specs.declared.node.Reply.TheVariants as replies

-- how it is spelled; a refusal that is told with a row may find no memory, and is told as a message that found none then
abbrev pub IsTextOf : Reply → List ℕ → Type 0
IsTextOf (replies.Taken word) text = text ≡ taken_text word
IsTextOf (replies.Retired word) text = text ≡ retired_text word
IsTextOf (replies.Refused fault) text = (text ≡ segment_text fault) ⊎ ((has_row fault ≡ true) × (text ≡ no_memory))
IsTextOf replies.NoMemory text = text ≡ no_memory

-- the messages that are whole were handled, and all that they are told was written
pub record SendsAll (old new : NodeState) (held new_held : Sent) : Type 0 where
  pub lines : List Line
  pub bad : Bool
  pub handles : HandlesAll old lines bad new
  pub appends : Says held new_held (flat_map line_text lines ++ fed_text (length lines) bad)

-- a front was written of what the first messages are told
pub record SendsSome (old : NodeState) (held new_held : Sent) : Type 0 where
  pub lines : List Line
  pub new : NodeState
  pub n : ℕ
  pub handles : HandlesLines old lines new
  pub appends : Says held new_held (take n (flat_map line_text lines))

-- or of all
pub record SendsFront (old : NodeState) (held new_held : Sent) : Type 0 where
  pub lines : List Line
  pub bad : Bool
  pub new : NodeState
  pub n : ℕ
  pub handles : HandlesAll old lines bad new
  pub appends : Says held new_held (take n (flat_map line_text lines ++ fed_text (length lines) bad))

abbrev pub SendsPart : NodeState → Sent → Sent → Type 0
SendsPart old held new_held = SendsSome old held new_held ⊎ SendsFront old held new_held

-- the piece entered the stream of the node, which was not bad, and all messages that are whole then were handled; or the
-- stream is bad, or memory ran out, and the node is as it was
abbrev pub Feeds : NodeState → List ℕ → NodeState → Sent → Sent → Type 0
Feeds old piece new held new_held =
    ((old.is_bad ≡ false) × SendsAll (record old { held = old.held ++ piece }) new held new_held)
    ⊎ ((old.is_bad ≡ true) × (new ≡ old) × Says held new_held (fed_text 0 true))
    ⊎ ((old.is_bad ≡ false) × (new ≡ old) × Says held new_held no_memory)

-- a front was written of what feeding the piece comes to
abbrev pub FeedsPart : NodeState → List ℕ → Sent → Sent → Type 0
FeedsPart old piece held new_held =
    ((old.is_bad ≡ false) × SendsPart (record old { held = old.held ++ piece }) held new_held)
    ⊎ ((old.is_bad ≡ true) × ((n : ℕ) × Says held new_held (take n (fed_text 0 true))))
    ⊎ ((old.is_bad ≡ false) × ((n : ℕ) × Says held new_held (take n no_memory)))

-- a node was fed a piece, which was answered in full, and the nodes and slots stand behind it
pub record FedAs (d : Declaration) (at : Places) (h : List Step) (n : ℕ) (piece : List ℕ) (held new_held : Sent) : Type 0 where
  pub reply : history.Reply
  pub answers : Answers h (Feed n piece) reply
  pub appends : Says held new_held (text_of reply)
  pub stand : StandAt d at (record { command = Feed n piece; reply = reply } ∷ h)
