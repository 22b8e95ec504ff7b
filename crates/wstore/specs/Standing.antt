-- Where nodes stand after a history.
use Rattle.std.specs.Prelude.{◌≡◌, ℕ, ◌+◌, ◌<◌, false, refl, List, ◌∷◌, ◌++◌, length, slice_index_or, Some}
use Rattle.std.specs.List.{flat_map, AllByRecursion}
use Rattle.std.specs.FinMap.{get}
use Rattle.wvalues.specs.Names.{NameParts}
use Rattle.wsegment.specs.Declaration.{Declaration}
use Rattle.wset.specs.Items.{Item, view_of}
use Rattle.wentries.specs.Knowledge.{Known}
use Rattle.wexchange.specs.Files.{IsRecord}
use Rattle.wstream.specs.Messages.{IsMessage, message_text}
use Rattle.std.specs.Coded.{Coded, code_by, coded×, coded_ℕ, coded_list}
use Rattle.wstore.specs.Nodes.{NodeState, coded_node}
use Rattle.wscript.specs.Commands.{Command, node_count, slot_count}
use Rattle.wstore.specs.Replies.{Reply, text_of}
use Rattle.wstore.specs.History.{Step, Answers, declaration, known, held, slot_file, stream, handled, is_bad}

-- a node of this declaration whose view is that of these items
pub record KnowsThese (d : Declaration) (items : List Item) (node : NodeState) : Type 0 where
  pub schema_is : node.schema ≡ d
  pub view_is : node.view ≡ view_of items

-- each name of the view is a name, and each content a segment
abbrev pub HoldRecords : Declaration → List Item → Type 0
HoldRecords d items = (n : NameParts) (k : Known) → get (view_of items) n ≡ Some k → IsRecord d (n, k)

-- a node holds what its stream has behind the messages that were handled, unless the stream is bad
pub record Listens (h : List Step) (n : ℕ) (node : NodeState) : Type 0 where
  pub bad_is : node.is_bad ≡ is_bad h n
  pub held_is : is_bad h n ≡ false → stream h n ≡ flat_map message_text (handled h n) ++ node.held
  pub each : AllByRecursion IsMessage (handled h n)

-- the nodes and the slots of a script
pub record Places : Type 0 where
  pub nodes : List NodeState
  pub slots : List (List ℕ)

abbrev pub places : List NodeState → List (List ℕ) → Places
places nodes slots = record { nodes = nodes; slots = slots }

abbrev pub coded_places : Coded Places
coded_places =
    code_by (List NodeState × List (List ℕ)) (coded× (coded_list coded_node) (coded_list (coded_list coded_ℕ)))
    (λ at. (at.nodes, at.slots)) (λ p. record { nodes = p.0; slots = p.1 }) (λ _. refl)

-- they are of this declaration, and stand where the history led; a slot holds the bytes of its file
pub record StandAt (d : Declaration) (at : Places) (h : List Step) : Type 0 where
  pub declared : declaration h ≡ Some d
  pub count : length at.nodes ≡ node_count
  pub slot_number : length at.slots ≡ slot_count
  pub node : (n : ℕ) (e : NodeState) → n < node_count → KnowsThese d (known h (n + 1)) (slice_index_or at.nodes n e)
  pub listens : (n : ℕ) (e : NodeState) → n < node_count → Listens h (n + 1) (slice_index_or at.nodes n e)
  pub slot : (k : ℕ) (e : List ℕ) → k < slot_count → slice_index_or at.slots k e ≡ slot_file d h (k + 1)
  pub sound : (n : ℕ) → HoldRecords d (known h n)
  pub sound_slots : (k : ℕ) → HoldRecords d (held h k)

-- a command was answered by this text, and the nodes and slots stand behind it
pub record AnswersAs (d : Declaration) (at : Places) (h : List Step) (c : Command) (text : List ℕ) : Type 0 where
  pub reply : Reply
  pub answers : Answers h c reply
  pub text_is : text ≡ text_of reply
  pub stand : StandAt d at (record { command = c; reply = reply } ∷ h)
