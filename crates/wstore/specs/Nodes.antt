-- What a node stands for, and what its calls tell.
use Rattle.std.specs.Prelude.{◌≡◌, ℕ, Bool, List, [], ◌∷◌, ◌++◌, map, Option, None, Some, Result, Ok, Err, IsOk, ◌⊎◌, true, false, refl}
use Rattle.std.specs.Coded.{Coded, code_by, coded×, coded_bool, coded_ℕ, coded_list}
use Rattle.std.specs.List.{flat_map, AllByRecursion}
use Rattle.wsegment.specs.Declaration.{Declaration, coded_declaration}
use Rattle.wsegment.specs.Rows.{rows_of}
use Rattle.wset.specs.Views.{View, IsSettled, join, known_in}
use Rattle.wset.specs.Items.{Item, SegmentItem, RetirementItem, FloorItem, view_of, view_of_item}
use Rattle.wset.specs.Codes.{coded_view}
use Rattle.wset.specs.Words.{taken_word, retired_word, floor_word}
use Rattle.wexchange.specs.Judging.{IsFileOf}
use Rattle.wstream.specs.Messages.{IsMessage, IsOpen, IsBad, message_text}
use Rattle.wstream.specs.declared.message.BadStream.{BadStream}
use Rattle.wstore.specs.Replies.{Line, line_item, line_items}
use Rattle.wstore.specs.History.{IsRest, LinesAnswer, MayNeedMemory}
use Rattle.wstore.specs.declared.node.Reply.{Reply}
use Rattle.wstore.specs.declared.node.Reply.TheVariants as replies

-- the declaration and the view, the bytes of its stream that were not handled, and whether the stream was found bad
pub record NodeState : Type 0 where
  pub schema : Declaration
  pub view : View
  pub held : List ℕ
  pub is_bad : Bool

-- a node that knows nothing, and whose stream has not begun
abbrev pub fresh_node : Declaration → View → NodeState
fresh_node d v = record { schema = d; view = v; held = []; is_bad = false }

abbrev pub coded_node : Coded NodeState
coded_node =
    code_by ((Declaration × View) × (List ℕ × Bool)) (coded× (coded× coded_declaration coded_view) (coded× (coded_list coded_ℕ) coded_bool))
    (λ n. ((n.schema, n.view), (n.held, n.is_bad))) (λ p. record { schema = p.0.0; view = p.0.1; held = p.1.0; is_bad = p.1.1 }) (λ _. refl)

-- the bytes are the file of a view, which is joined into that of the node
pub record LearnsFile (old : NodeState) (bytes : List ℕ) (new : NodeState) : Type 0 where
  pub view : View
  pub file : IsFileOf old.schema view bytes
  pub new_is : new ≡ record old { view = join old.view view }

-- a message was told this, as its command would be, and the view is this then; what needs no memory is neither refused nor finds none
abbrev pub IsTold : Declaration → View → Item → Reply → View → Type 0
IsTold d v (SegmentItem n bytes) (replies.Taken word) w = IsOk (rows_of d bytes) × (word ≡ taken_word (known_in v n) bytes)
    × (w ≡ join v (view_of_item (SegmentItem n bytes)))
IsTold d v (SegmentItem n bytes) (replies.Refused fault) w = (rows_of d bytes ≡ Err fault) × (w ≡ v) × MayNeedMemory v (SegmentItem n bytes)
IsTold d v (RetirementItem n) (replies.Retired word) w = (word ≡ retired_word (known_in v n))
    × (w ≡ join v (view_of_item (RetirementItem n)))
IsTold d v (FloorItem n) (replies.Retired word) w = (word ≡ floor_word v n) × (w ≡ join v (view_of_item (FloorItem n)))
IsTold d v i replies.NoMemory w = (w ≡ v) × MayNeedMemory v i
IsTold d v i r w = ⊥

-- the next message was handled
pub record Handles (old : NodeState) (reply : Reply) (new : NodeState) : Type 0 where
  pub item : Item
  pub is : IsMessage item
  pub held_is : old.held ≡ message_text item ++ new.held
  pub schema_is : new.schema ≡ old.schema
  pub told : IsTold old.schema old.view item reply new.view
  pub good : (old.is_bad ≡ false) × (new.is_bad ≡ false)

-- the view behind messages that were told so
abbrev pub handled_view : View → List Line → View
handled_view v [] = v
handled_view v (l ∷ ls) = handled_view (join v (view_of (line_items l))) ls

-- messages were handled one after the other; the view of a node is settled, as each of items is
pub record HandlesLines (old : NodeState) (lines : List Line) (new : NodeState) : Type 0 where
  pub schema_is : new.schema ≡ old.schema
  pub view_is : IsSettled old.view → new.view ≡ handled_view old.view lines
  pub answers : IsSettled old.view → LinesAnswer old.schema old.view lines
  pub each : AllByRecursion IsMessage (map line_item lines)
  pub held_is : old.held ≡ flat_map message_text (map line_item lines) ++ new.held
  pub good : new.is_bad ≡ old.is_bad

-- all messages that are whole were handled, and what is left is open, or bad
pub record HandlesAll (old : NodeState) (lines : List Line) (bad : Bool) (new : NodeState) : Type 0 where
  pub last : NodeState
  pub handles : HandlesLines old lines last
  pub new_is : new ≡ record last { is_bad = bad }
  pub end : IsRest bad last.held

-- what handling the next message tells
abbrev pub NextReply : NodeState → Result (Option Reply) BadStream → NodeState → Type 0
NextReply old (Ok None) new = (old.is_bad ≡ false) × IsOpen old.held × (new ≡ old)
NextReply old (Ok (Some reply)) new = Handles old reply new
NextReply old (Err fault) new = ((old.is_bad ≡ true) ⊎ IsBad old.held) × (new ≡ record old { is_bad = true })
