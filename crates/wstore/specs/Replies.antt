-- The replies to commands, and how each is spelled.
use Rattle.std.specs.Prelude.{ℕ, Bool, true, false, List, [], ◌∷◌, ◌++◌, codes, length, Result, Ok, Err, Vec}
use Rattle.std.specs.Fmt.{decimal}
use Rattle.std.specs.Global.{Global}
use Rattle.std.specs.List.{flat_map}
use Rattle.wvalues.specs.Names.{NameParts}
use Rattle.wvalues.specs.declared.name.NameFault.{NameFault}
use Rattle.wsegment.specs.Declaration.{Declaration}
use Rattle.wsegment.specs.declared.fault.SegmentFault.{SegmentFault}
use Rattle.wsegment.specs.declared.schema_fault.SchemaFault.{SchemaFault}
use Rattle.wset.specs.Items.{Item, SegmentItem, RetirementItem, FloorItem}
use Rattle.wset.specs.declared.outcomes.Taken.{Taken}
use Rattle.wset.specs.declared.outcomes.Retired.{Retired}
use Rattle.wentries.specs.declared.status.Listed.{Listed}
use Rattle.wexchange.specs.declared.fault.FileFault.{FileFault}
use Rattle.wplanner.specs.declared.fault.AskFault.{AskFault}
use Rattle.wreplies.specs.Spelling.{answer_text, file_text, name_text, names_text, no_memory, query_text}
use Rattle.wreplies.specs.Spelling.{retired_text, segment_text, table_text, taken_text}

-- a message of a delivery stream, and what it was told
pub data Line : Type 0 where
  TookLine : NameParts → List ℕ → Taken → Line
  WasLine : NameParts → Retired → Line
  FloorLine : NameParts → Retired → Line
  RefusedLine : NameParts → List ℕ → SegmentFault → Line
  -- it found no memory, and is spent
  SpentLine : Item → Line

abbrev pub line_item : Line → Item
line_item (TookLine name bytes word) = SegmentItem name bytes
line_item (WasLine name word) = RetirementItem name
line_item (FloorLine name word) = FloorItem name
line_item (RefusedLine name bytes fault) = SegmentItem name bytes
line_item (SpentLine item) = item

-- the items that it delivered
abbrev pub line_items : Line → List Item
line_items (TookLine name bytes word) = SegmentItem name bytes ∷ []
line_items (WasLine name word) = RetirementItem name ∷ []
line_items (FloorLine name word) = FloorItem name ∷ []
line_items (RefusedLine name bytes fault) = []
line_items (SpentLine item) = []

pub data Reply : Type 0 where
  Declared : Declaration → Reply
  RefusedTable : SchemaFault → Reply
  -- the name that was read, and the word
  Took : NameParts → Taken → Reply
  Was : NameParts → Retired → Reply
  RefusedName : NameFault → Reply
  RefusedSegment : SegmentFault → Reply
  Names : List Listed → Reply
  Answered : List ℕ → Reply
  RefusedQuery : AskFault → Reply
  -- the messages of a piece, and whether the stream is bad behind them
  Fed : List Line → Bool → Reply
  -- a node was put into a slot, or got one
  Done : Reply
  RefusedFile : FileFault → Reply
  NoMemory : Reply

abbrev pub bad_script : List ℕ
bad_script = codes "bad script\n"

abbrev pub line_text : Line → List ℕ
line_text (TookLine name bytes word) = taken_text word
line_text (WasLine name word) = retired_text word
line_text (FloorLine name word) = retired_text word
line_text (RefusedLine name bytes fault) = segment_text fault
line_text (SpentLine item) = no_memory

-- the last line: the number of messages, or that the stream is bad
abbrev pub fed_text : ℕ → Bool → List ℕ
fed_text n true = codes "refused B1\n"
fed_text n false = codes "fed " ++ (decimal n ++ 10 ∷ [])

abbrev pub text_of : Reply → List ℕ
text_of (Declared d) = codes "ok\n"
text_of (RefusedTable fault) = table_text fault
text_of (Took name word) = taken_text word
text_of (Was name word) = retired_text word
text_of (RefusedName fault) = name_text fault
text_of (RefusedSegment fault) = segment_text fault
text_of (Names all) = names_text all
text_of (Answered bytes) = answer_text bytes
text_of (RefusedQuery fault) = query_text fault
text_of (Fed lines bad) = flat_map line_text lines ++ fed_text (length lines) bad
text_of Done = codes "ok\n"
text_of (RefusedFile fault) = file_text fault
text_of NoMemory = no_memory

-- what a take came to, as it is spelled
abbrev pub take_text : Result Taken SegmentFault → List ℕ
take_text (Ok word) = taken_text word
take_text (Err fault) = segment_text fault

-- what a query came to
abbrev pub ask_text : Result (Vec ℕ Global) AskFault → List ℕ
ask_text (Ok bytes) = answer_text bytes.items
ask_text (Err fault) = query_text fault

-- what reading a slot came to
abbrev pub get_text : Result (Unit {0}) FileFault → List ℕ
get_text (Ok _) = text_of Done
get_text (Err fault) = file_text fault
