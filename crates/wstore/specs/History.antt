-- What nodes are told by a history of commands and replies, item by item, and the replies that it allows. A history has its
-- newest step first.
use Rattle.std.specs.Prelude.{◌≡◌, ◌≢◌, ℕ, ◌≤◌, Bool, false, true, List, [], ◌∷◌, ◌++◌, length, map, ◌==◌, ◌⊎◌}
use Rattle.std.specs.Prelude.{if◌then◌else◌, Option, None, Some, is_some, Result, Ok, Err, IsOk, ⊤, ◌||◌}
use Rattle.std.specs.List.{flat_map, AllByRecursion}
use Rattle.std.specs.FinMap.{entries}
use Rattle.wvalues.specs.Names.{NameParts}
use Rattle.wvalues.specs.NameReading.{ReadsName}
use Rattle.wvalues.specs.Meaning.{Meaning}
use Rattle.wvalues.specs.declared.name.NameFault.{NameFault}
use Rattle.wsegment.specs.Declaration.{Declaration}
use Rattle.wsegment.specs.Spelling.{ReadsDeclaration}
use Rattle.wsegment.specs.Rows.{rows_of}
use Rattle.wsegment.specs.declared.fault.SegmentFault.{SegmentFault}
use Rattle.wsegment.specs.declared.schema_fault.SchemaFault.TheVariants as tables
use Rattle.wset.specs.Views.{View, join, known_in}
use Rattle.wentries.specs.Knowledge.{Live, Retired as Gone}
use Rattle.wset.specs.Items.{Item, SegmentItem, RetirementItem, FloorItem, view_of}
use Rattle.wset.specs.Words.{taken_word, retired_word, floor_word, is_reached}
use Rattle.wset.specs.Listing.{listed}
use Rattle.wexchange.specs.Files.{file_of}
use Rattle.wexchange.specs.Judging.{Judges}
use Rattle.wstream.specs.Messages.{IsMessage, IsOpen, IsBad, Splits, message_text}
use Rattle.wexchange.specs.declared.fault.FileFault.{FileFault}
use Rattle.wexchange.specs.declared.fault.FileFault.TheVariants as files
use Rattle.wscript.specs.Commands.{Command, Declare, Take, Retire, RetireTo, Listing, Ask}
use Rattle.wscript.specs.Commands.{Feed, Put, Get, AreName, longest_segment, longest_text}
use Rattle.wstore.specs.Replies.{Reply, Line, TookLine, WasLine, FloorLine, RefusedLine, SpentLine, line_item}
use Rattle.wstore.specs.Replies.{line_items, Fed, Declared, RefusedTable, Took, Was, RefusedName, RefusedSegment}
use Rattle.wstore.specs.Replies.{Names, Answered, RefusedQuery, Done, RefusedFile, NoMemory}
use Rattle.wask.specs.Answer.{IsAnswer}
use Rattle.wplanner.specs.declared.fault.AskFault.{AskFault}

pub record Step : Type 0 where
  pub command : Command
  pub reply : Reply

-- ---- what is known

-- the items that a step delivers to a node
abbrev pub delivers : Command → Reply → ℕ → List Item
delivers (Take m origin number bytes) (Took name word) n = if m == n then SegmentItem name bytes ∷ [] else []
delivers (Retire m origin number) (Was name word) n = if m == n then RetirementItem name ∷ [] else []
delivers (RetireTo m origin number) (Was name word) n = if m == n then FloorItem name ∷ [] else []
delivers (Feed m piece) (Fed lines bad) n = if m == n then flat_map line_items lines else []
delivers c r n = []

-- the slot that a step got into a node
abbrev pub gets : Command → Reply → ℕ → Option ℕ
gets (Get slot m) Done n = if m == n then Some slot else None
gets c r n = None

-- the node that a step put into a slot
abbrev pub puts : Command → Reply → ℕ → Option ℕ
puts (Put m slot) Done k = if slot == k then Some m else None
puts c r k = None

-- a piece that entered the stream of a node, the messages that were handled then, and whether the stream was found bad
pub record Heard : Type 0 where
  pub piece : List ℕ
  pub items : List Item
  pub is_bad : Bool

abbrev pub heard : Command → Reply → ℕ → Option Heard
heard (Feed m piece) (Fed lines bad) n = if m == n then Some (record { piece = piece; items = map line_item lines; is_bad = bad }) else None
heard c r n = None

abbrev pub heard_items : Option Heard → List Item
heard_items None = []
heard_items (Some x) = x.items

abbrev pub heard_bad : Option Heard → Bool
heard_bad None = false
heard_bad (Some x) = x.is_bad

-- what a piece adds to a stream: nothing once it is bad
abbrev pub entered : Bool → Option Heard → List ℕ
entered before None = []
entered true (Some x) = []
entered false (Some x) = x.piece

-- the stream of a node was found bad
abbrev pub is_bad : List Step → ℕ → Bool
is_bad [] n = false
is_bad (s ∷ h) n = is_bad h n || heard_bad (heard s.command s.reply n)

-- the pieces that a node was fed, joined
abbrev pub stream : List Step → ℕ → List ℕ
stream [] n = []
stream (s ∷ h) n = stream h n ++ entered (is_bad h n) (heard s.command s.reply n)

-- the messages that it has handled
abbrev pub handled : List Step → ℕ → List Item
handled [] n = []
handled (s ∷ h) n = handled h n ++ heard_items (heard s.command s.reply n)

-- what is drawn from another place, if from any
abbrev pub drawn : Option ℕ → (ℕ → List Item) → List Item
drawn None there = []
drawn (Some k) there = there k

-- what is drawn from another place, in the place of what was here
abbrev pub replaced : Option ℕ → (ℕ → List Item) → List Item → List Item
replaced None there here = here
replaced (Some n) there here = there n

-- the items that a node knows, and those that a slot holds
abbrev mutual
  pub known : List Step → ℕ → List Item
  known [] n = []
  known (s ∷ h) n = (known h n ++ drawn (gets s.command s.reply n) (λ k. held h k)) ++ delivers s.command s.reply n

  pub held : List Step → ℕ → List Item
  held [] k = []
  held (s ∷ h) k = replaced (puts s.command s.reply k) (λ n. known h n) (held h k)

-- a slot was put
abbrev pub is_put_by : Option ℕ → Bool → Bool
is_put_by None before = before
is_put_by (Some n) before = true

abbrev pub is_put : List Step → ℕ → Bool
is_put [] k = false
is_put (s ∷ h) k = is_put_by (puts s.command s.reply k) (is_put h k)

-- the file of the view of these items, where a slot was put, and no bytes where it was not
abbrev pub file_if : Bool → Declaration → List Item → List ℕ
file_if true d items = file_of d (view_of items)
file_if false d items = []

-- the bytes that a slot holds
abbrev pub slot_file : Declaration → List Step → ℕ → List ℕ
slot_file d h k = file_if (is_put h k) d (held h k)

-- the table that a reply declares, else the one before
abbrev pub declared_by : Reply → Option Declaration → Option Declaration
declared_by (Declared d) before = Some d
declared_by r before = before

abbrev pub declaration : List Step → Option Declaration
declaration [] = None
declaration (s ∷ h) = declared_by s.reply (declaration h)

abbrev pub is_declared : List Step → Bool
is_declared h = is_some (declaration h)

-- ---- what is answered

-- the declaration that the bytes spell, or why they spell none
abbrev pub DeclareAnswers : List ℕ → Reply → Type 0
DeclareAnswers bytes (Declared d) = ReadsDeclaration bytes (Ok d)
DeclareAnswers bytes (RefusedTable fault) = (fault ≢ tables.NoMemory) × ReadsDeclaration bytes (Err fault)
DeclareAnswers bytes r = ⊥

-- a segment that was read is taken, else its fault is told
abbrev pub segment_reply : Result (List (List Meaning)) SegmentFault → View → NameParts → List ℕ → Reply
segment_reply (Ok rows) v name bytes = Took name (taken_word (known_in v name) bytes)
segment_reply (Err fault) v name bytes = RefusedSegment fault

-- a bad name is told first
abbrev pub take_reply : Result NameParts NameFault → Declaration → View → List ℕ → Reply
take_reply (Ok name) d v bytes = segment_reply (rows_of d bytes) v name bytes
take_reply (Err fault) d v bytes = RefusedName fault

abbrev pub retire_reply : Result NameParts NameFault → View → Reply
retire_reply (Ok name) v = Was name (retired_word (known_in v name))
retire_reply (Err fault) v = RefusedName fault

abbrev pub floor_reply : Result NameParts NameFault → View → Reply
floor_reply (Ok name) v = Was name (floor_word v name)
floor_reply (Err fault) v = RefusedName fault

abbrev pub query_reply : Result (List ℕ) AskFault → Reply
query_reply (Ok bytes) = Answered bytes
query_reply (Err fault) = RefusedQuery fault

-- the reply to a command at a node of this view, under this declaration
abbrev pub NodeAnswers : Declaration → View → Command → Reply → Type 0
NodeAnswers d v (Take n origin number bytes) r = (name : Result NameParts NameFault) × ReadsName origin number name
    × (r ≡ take_reply name d v bytes)
NodeAnswers d v (Retire n origin number) r = (name : Result NameParts NameFault) × ReadsName origin number name × (r ≡ retire_reply name v)
NodeAnswers d v (RetireTo n origin number) r = (name : Result NameParts NameFault) × ReadsName origin number name × (r ≡ floor_reply name v)
NodeAnswers d v (Listing n) r = r ≡ Names (map (listed d) (entries v))
NodeAnswers d v (Ask n text) r = (answer : Result (List ℕ) AskFault) × IsAnswer d v text answer × (r ≡ query_reply answer)
NodeAnswers d v c r = ⊥

-- a file is joined, else its fault is told
abbrev pub file_reply : Result View FileFault → Reply
file_reply (Ok view) = Done
file_reply (Err fault) = RefusedFile fault

-- the bytes of a slot are judged
pub record FileAnswers (d : Declaration) (bytes : List ℕ) (r : Reply) : Type 0 where
  pub judged : Result View FileFault
  pub judges : Judges d bytes judged
  pub is_judged : judged ≢ Err files.NoMemory
  pub reply_is : r ≡ file_reply judged

-- taking an item may need memory, unless its name is live with these bytes, or is to be retired and is, or a floor is not to rise
abbrev pub MayNeedMemory : View → Item → Type 0
MayNeedMemory v (SegmentItem name bytes) = known_in v name ≢ Some (Live bytes)
MayNeedMemory v (RetirementItem name) = known_in v name ≢ Some Gone
MayNeedMemory v (FloorItem name) = is_reached v name ≢ true

-- a message is told what the command would be told that speaks of its item, or, where that may need memory, that it found none
abbrev pub LineAnswers : Declaration → View → Line → Type 0
LineAnswers d v (TookLine name bytes word) = IsOk (rows_of d bytes) × (word ≡ taken_word (known_in v name) bytes)
LineAnswers d v (WasLine name word) = word ≡ retired_word (known_in v name)
LineAnswers d v (FloorLine name word) = word ≡ floor_word v name
LineAnswers d v (RefusedLine name bytes fault) = rows_of d bytes ≡ Err fault
LineAnswers d v (SpentLine item) = MayNeedMemory v item

-- messages are told so one after the other, each by the view that those before it have left
abbrev pub LinesAnswer : Declaration → View → List Line → Type 0
LinesAnswer d v [] = ⊤
LinesAnswer d v (l ∷ ls) = LineAnswers d v l × LinesAnswer d (join v (view_of (line_items l))) ls

-- a rest that is open, or bad
abbrev pub IsRest : Bool → List ℕ → Type 0
IsRest true rest = IsBad rest
IsRest false rest = IsOpen rest

-- the messages that a piece makes whole are handled
pub record FeedAnswers (d : Declaration) (h : List Step) (n : ℕ) (piece : List ℕ) (lines : List Line) (bad : Bool) : Type 0 where
  pub rest : List ℕ
  pub splits : Splits (stream h n ++ piece) (handled h n ++ map line_item lines) rest
  pub end : IsRest bad rest
  pub lines_are : LinesAnswer d (view_of (known h n)) lines

-- the first messages of a piece are handled, whatever stands behind them
pub record FeedBegins (d : Declaration) (h : List Step) (n : ℕ) (piece : List ℕ) (lines : List Line) : Type 0 where
  pub rest : List ℕ
  pub good : is_bad h n ≡ false
  pub whole : stream h n ++ piece ≡ flat_map message_text (handled h n ++ map line_item lines) ++ rest
  pub each : AllByRecursion IsMessage (map line_item lines)
  pub lines_are : LinesAnswer d (view_of (known h n)) lines

-- a stream that was found bad stays bad
abbrev pub PieceAnswers : Bool → Declaration → List Step → ℕ → List ℕ → Reply → Type 0
PieceAnswers true d h n piece (Fed lines bad) = (lines ≡ []) × (bad ≡ true)
PieceAnswers false d h n piece (Fed lines bad) = FeedAnswers d h n piece lines bad
PieceAnswers before d h n piece r = ⊥

abbrev pub AnswersUnder : Option Declaration → List Step → Command → Reply → Type 0
AnswersUnder None h (Declare bytes) r = DeclareAnswers bytes r
AnswersUnder None h c r = ⊥
AnswersUnder (Some d) h (Declare bytes) r = ⊥
AnswersUnder (Some d) h (Take n origin number bytes) r = NodeAnswers d (view_of (known h n)) (Take n origin number bytes) r
AnswersUnder (Some d) h (Retire n origin number) r = NodeAnswers d (view_of (known h n)) (Retire n origin number) r
AnswersUnder (Some d) h (RetireTo n origin number) r = NodeAnswers d (view_of (known h n)) (RetireTo n origin number) r
AnswersUnder (Some d) h (Listing n) r = NodeAnswers d (view_of (known h n)) (Listing n) r
AnswersUnder (Some d) h (Ask n text) r = NodeAnswers d (view_of (known h n)) (Ask n text) r
AnswersUnder (Some d) h (Feed n piece) r = PieceAnswers (is_bad h n) d h n piece r
AnswersUnder (Some d) h (Put n slot) r = r ≡ Done
AnswersUnder (Some d) h (Get slot n) r = FileAnswers d (slot_file d h slot) r

-- the commands that may find no memory; any other is answered without it: a declaration, a name that is none, one that the node
-- knows as retired, a floor that it has reached, a body over its limit, and a slot that was not put
abbrev pub MayLackMemory : List Step → Command → Type 0
MayLackMemory h (Declare bytes) = ⊥
MayLackMemory h (Take n origin number bytes) = AreName origin number × (length bytes ≤ longest_segment)
MayLackMemory h (Retire n origin number) = (name : NameParts) × ReadsName origin number (Ok name)
    × MayNeedMemory (view_of (known h n)) (RetirementItem name)
MayLackMemory h (RetireTo n origin number) = (name : NameParts) × ReadsName origin number (Ok name)
    × MayNeedMemory (view_of (known h n)) (FloorItem name)
MayLackMemory h (Listing n) = ⊤
MayLackMemory h (Ask n text) = length text ≤ longest_text
MayLackMemory h (Feed n piece) = ⊤
MayLackMemory h (Put n slot) = ⊤
MayLackMemory h (Get slot n) = is_put h slot ≡ true

-- the reply that the history allows
abbrev pub Answers : List Step → Command → Reply → Type 0
Answers h c r = AnswersUnder (declaration h) h c r ⊎ (MayLackMemory h c × (r ≡ NoMemory))
