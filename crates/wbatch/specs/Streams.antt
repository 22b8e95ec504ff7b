-- What of a delivery stream can be delivered, and what stops it.
use Rattle.std.specs.Prelude.{◌≡◌, ◌≢◌, ◌⊎◌, ⊤, ℕ, List, [], ◌++◌, Err, IsOk}
use Rattle.std.specs.List.{flat_map, AllByRecursion}
use Rattle.wvalues.specs.Names.{NameParts}
use Rattle.wsegment.specs.Declaration.{Declaration}
use Rattle.wsegment.specs.Rows.{rows_of}
use Rattle.wsegment.specs.declared.fault.SegmentFault.{SegmentFault}
use Rattle.wset.specs.Items.{Item, SegmentItem}
use Rattle.wstream.specs.Messages.{IsBad, IsMessage, IsOpen, message_text}
use Rattle.wbatch.specs.declared.stop.Stop.{Stop}
use Rattle.wbatch.specs.declared.stop.Stop.TheVariants as stops

-- a message that can be delivered: a segment is one that the declaration reads
abbrev pub IsDelivered : Declaration → Item → Type 0
IsDelivered d (SegmentItem name bytes) = IsMessage (SegmentItem name bytes) × IsOk (rows_of d bytes)
IsDelivered d item = IsMessage item

-- the messages of these items, and then this
abbrev pub stream_text : List Item → List ℕ → List ℕ
stream_text items rest = flat_map message_text items ++ rest

-- behind messages that can be delivered stands a segment that has a fault
pub record MeetsSegment (d : Declaration) (stream : List ℕ) (fault : SegmentFault) : Type 0 where
  pub items : List Item
  pub name : NameParts
  pub bytes : List ℕ
  pub more : List ℕ
  pub each : AllByRecursion (IsDelivered d) items
  pub is : IsMessage (SegmentItem name bytes)
  pub stream_is : stream ≡ flat_map message_text items ++ (message_text (SegmentItem name bytes) ++ more)
  pub has_fault : rows_of d bytes ≡ Err fault

-- behind messages that can be delivered stands what is no message, whatever follows it
pub record MeetsBad (d : Declaration) (stream : List ℕ) : Type 0 where
  pub items : List Item
  pub rest : List ℕ
  pub more : List ℕ
  pub each : AllByRecursion (IsDelivered d) items
  pub stream_is : stream ≡ flat_map message_text items ++ (rest ++ more)
  pub bad : IsBad rest

-- behind messages that can be delivered the stream ends inside one
pub record EndsInside (d : Declaration) (stream : List ℕ) : Type 0 where
  pub items : List Item
  pub rest : List ℕ
  pub each : AllByRecursion (IsDelivered d) items
  pub stream_is : stream ≡ flat_map message_text items ++ rest
  pub is_open : IsOpen rest
  pub some : rest ≢ []

-- why no more of a stream is delivered, whatever follows, where that is not want of memory
abbrev pub Stops : Declaration → List ℕ → Stop → Type 0
Stops d stream (stops.Segment fault) = MeetsSegment d stream fault
Stops d stream stops.Bad = MeetsBad d stream
Stops d stream stops.NoMemory = ⊤

-- why a whole stream is not delivered, where that is not want of memory
abbrev pub IsUndelivered : Declaration → List ℕ → Stop → Type 0
IsUndelivered d stream (stops.Segment fault) = MeetsSegment d stream fault
IsUndelivered d stream stops.Bad = MeetsBad d stream ⊎ EndsInside d stream
IsUndelivered d stream stops.NoMemory = ⊤
