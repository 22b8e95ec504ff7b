-- What a delivery stream delivers, all of it or nothing.
use Rattle.std.specs.Prelude.{◌≡◌, ℕ, List, [], ◌∷◌, ◌++◌, length, codes, Option, false}
use Rattle.std.specs.List.{flat_map, AllByRecursion}
use Rattle.wsegment.specs.Declaration.{Declaration}
use Rattle.wsegment.specs.declared.fault.SegmentFault.{SegmentFault}
use Rattle.wset.specs.Items.{FloorItem, Item, RetirementItem, SegmentItem, view_of_item}
use Rattle.wset.specs.Views.{View, join, known_in}
use Rattle.wset.specs.Words.{floor_word, retired_word, taken_word}
use Rattle.wstream.specs.Messages.{message_text}
use Rattle.wbatch.specs.Streams.{EndsInside, IsDelivered, MeetsBad, MeetsSegment}
use Rattle.wreplies.specs.Spelling.{retired_text, segment_text, taken_text}
use Rattle.wstore.specs.Replies.{fed_text}
use Rattle.wact.specs.declared.acted.Acted.{Acted}
use Rattle.wact.specs.Outcomes.{IsRefused, IsStored}

-- the view behind items that were delivered one after the other
abbrev pub delivered_view : View → List Item → View
delivered_view v [] = v
delivered_view v (item ∷ items) = delivered_view (join v (view_of_item item)) items

-- what delivering an item is told
abbrev pub line_text : View → Item → List ℕ
line_text v (SegmentItem name bytes) = taken_text (taken_word (known_in v name) bytes)
line_text v (RetirementItem name) = retired_text (retired_word (known_in v name))
line_text v (FloorItem name) = retired_text (floor_word v name)

-- the line of each, by the view that those before it have left
abbrev pub lines_text : View → List Item → List ℕ
lines_text v [] = []
lines_text v (item ∷ items) = line_text v item ++ lines_text (join v (view_of_item item)) items

-- a stream is its messages, which are delivered one after the other and told in lines, and then their number; or the first of
-- them that has a fault is told, and nothing is delivered
pub data Feeds (d : Declaration) (v : View) (old : Option (List ℕ)) (stream : List ℕ) (acted : Acted) : Type 0 where
  SegmentRefused : (fault : SegmentFault) → MeetsSegment d stream fault → IsRefused acted (segment_text fault) → Feeds d v old stream acted
  BadRefused : MeetsBad d stream → IsRefused acted (codes "refused B1\n") → Feeds d v old stream acted
  CutRefused : EndsInside d stream → IsRefused acted (codes "refused B1\n") → Feeds d v old stream acted
  Fed : (items : List Item) → AllByRecursion (IsDelivered d) items → stream ≡ flat_map message_text items
      → IsStored d (delivered_view v items) old acted (lines_text v items ++ fed_text (length items) false) → Feeds d v old stream acted
