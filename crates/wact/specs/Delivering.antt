-- What a node is told while a batch is delivered.
use Rattle.std.specs.Prelude.{◌≡◌, ⊤, ℕ, true, List, ◌++◌, codes}
use Rattle.wset.specs.Items.{Item}
use Rattle.wstore.specs.Nodes.{NodeState}
use Rattle.wbatch.specs.declared.stop.Stop.{Stop}
use Rattle.wbatch.specs.declared.stop.Stop.TheVariants as stops
use Rattle.wcommand.specs.declared.choice.Choice.{Choice}
use Rattle.wcommand.specs.declared.choice.Choice.TheVariants as choices
use Rattle.wreplies.specs.Spelling.{has_row, segment_text}
use Rattle.wact.specs.declared.acted.Acted.{Acted}
use Rattle.wact.specs.Outcomes.{IsRefused}
use Rattle.wact.specs.Streams.{delivered_view, lines_text}

-- items were delivered one after the other, and the line of each was added
pub record Delivers (items : List Item) (old new : NodeState) (text new_text : List ℕ) : Type 0 where
  pub schema_is : new.schema ≡ old.schema
  pub view_is : new.view ≡ delivered_view old.view items
  pub text_is : new_text ≡ text ++ lines_text old.view items

-- what is told of a stream that is not delivered; want of memory is no refusal
abbrev pub IsRefusedSo : Stop → Acted → Type 0
IsRefusedSo (stops.Segment fault) acted = IsRefused acted (segment_text fault)
IsRefusedSo stops.Bad acted = IsRefused acted (codes "refused B1\n")
IsRefusedSo stops.NoMemory acted = ⊥

-- why telling it may find no memory: it stopped for want of that, or a segment is refused with the number of a row
abbrev pub MayLackSo : Stop → Type 0
MayLackSo (stops.Segment fault) = has_row fault ≡ true
MayLackSo stops.Bad = ⊥
MayLackSo stops.NoMemory = ⊤

-- a stream is fed
abbrev pub IsFeed : Choice → Type 0
IsFeed (choices.Feed paths path) = ⊤
IsFeed _ = ⊥
