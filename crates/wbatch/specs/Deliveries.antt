-- Deliveries as items, and how they are added to others.
use Rattle.std.specs.Prelude.{◌≡◌, ◌⊎◌, ⊤, ℕ, ◌++◌, ◌<◌, true, false, List, Option, None, Some, Result, Ok, Err, length, map}
use Rattle.std.specs.List.{AllByRecursion}
use Rattle.wsegment.specs.Declaration.{Declaration}
use Rattle.wsegment.specs.Rows.{rows_of}
use Rattle.wset.specs.Items.{Item, FloorItem, RetirementItem, SegmentItem}
use Rattle.wentries.specs.Holding.{IsReadBy}
use Rattle.wstream.specs.Inboxes.{Inbox}
use Rattle.wstream.specs.Messages.{IsBad, IsMessage, IsOpen, message_text}
use Rattle.wbatch.specs.Streams.{stream_text}
use Rattle.wbatch.specs.declared.delivery.Delivery.{Delivery}
use Rattle.wbatch.specs.declared.delivery.Delivery.TheVariants as deliveries
use Rattle.wbatch.specs.declared.stop.Stop.{Stop}
use Rattle.wbatch.specs.declared.stop.Stop.TheVariants as stops

-- the item that is delivered
abbrev pub item_of : Delivery → Item
item_of (deliveries.Segment name judged) = SegmentItem name judged.value.bytes
item_of (deliveries.Retirement name) = RetirementItem name
item_of (deliveries.Floor name) = FloorItem name

-- it stands in a message, and a segment was judged by the declaration
abbrev pub IsReady : Declaration → Delivery → Type 0
IsReady d (deliveries.Segment name judged) = IsMessage (SegmentItem name judged.value.bytes) × IsReadBy d judged.value
IsReady d (deliveries.Retirement name) = IsMessage (RetirementItem name)
IsReady d (deliveries.Floor name) = IsMessage (FloorItem name)

-- why an item is not delivered, where that is not want of memory
abbrev pub IsRefused : Declaration → Item → Stop → Type 0
IsRefused d (SegmentItem name bytes) (stops.Segment fault) = rows_of d bytes ≡ Err fault
IsRefused d item stops.NoMemory = ⊤
IsRefused d item reason = ⊥

-- the message in front of what is held is not delivered
pub record Meets (d : Declaration) (held : List ℕ) (reason : Stop) : Type 0 where
  pub item : Item
  pub left : List ℕ
  pub is : IsMessage item
  pub held_is : held ≡ message_text item ++ left
  pub refused : IsRefused d item reason

-- what the next message delivers, if it is whole, or why it does not
abbrev pub IsNext : Declaration → Inbox → Result (Option Delivery) Stop → Inbox → Type 0
IsNext d old (Ok None) new = IsOpen old.held × (new.held ≡ old.held) × (new.is_bad ≡ false)
IsNext d old (Ok (Some delivery)) new = IsReady d delivery × (old.held ≡ message_text (item_of delivery) ++ new.held) × (new.is_bad ≡ false)
IsNext d old (Err (stops.Segment fault)) new = Meets d old.held (stops.Segment fault)
IsNext d old (Err stops.Bad) new = (old.is_bad ≡ true) ⊎ IsBad old.held
IsNext d old (Err stops.NoMemory) new = ⊤

-- what is held stops a stream, whatever follows, where that is not want of memory
abbrev pub StopsNext : Declaration → List ℕ → Stop → Type 0
StopsNext d held (stops.Segment fault) = Meets d held (stops.Segment fault)
StopsNext d held stops.Bad = IsBad held
StopsNext d held stops.NoMemory = ⊤

-- the stream is the messages of these items, and then what stops it
pub record StopsBehind (d : Declaration) (items : List Item) (stream : List ℕ) (reason : Stop) : Type 0 where
  pub more : List ℕ
  pub stream_is : stream ≡ stream_text items more
  pub next : StopsNext d more reason

-- a message was taken off the front of what is held, and what it delivers stands behind the others
pub record Adds (d : Declaration) (old : List Delivery) (held : Inbox) (new : List Delivery) (left : Inbox) : Type 0 where
  pub ready : AllByRecursion (IsReady d) new
  pub same : stream_text (map item_of new) left.held ≡ stream_text (map item_of old) held.held
  pub falls : length left.held < length held.held
  pub good : left.is_bad ≡ false

-- all messages that are whole were
pub record AddsAll (d : Declaration) (old : List Delivery) (held : Inbox) (new : List Delivery) (left : Inbox) : Type 0 where
  pub ready : AllByRecursion (IsReady d) new
  pub same : stream_text (map item_of new) left.held ≡ stream_text (map item_of old) held.held
  pub unfinished : IsOpen left.held
  pub good : left.is_bad ≡ false
