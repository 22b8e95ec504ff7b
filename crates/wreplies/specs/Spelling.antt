-- How words, refusals, lists and answers are spelled.
use Rattle.std.specs.Prelude.{ℕ, Bool, true, false, List, [], ◌∷◌, ◌++◌, codes, length}
use Rattle.std.specs.Fmt.{decimal}
use Rattle.std.specs.List.{flat_map}
use Rattle.wvalues.specs.declared.name.NameFault.{NameFault}
use Rattle.wvalues.specs.declared.name.NameFault.TheVariants as names
use Rattle.wsegment.specs.declared.fault.SegmentFault.{SegmentFault}
use Rattle.wsegment.specs.declared.fault.SegmentFault.TheVariants as segments
use Rattle.wsegment.specs.declared.schema_fault.SchemaFault.{SchemaFault}
use Rattle.wsegment.specs.declared.schema_fault.SchemaFault.TheVariants as tables
use Rattle.wset.specs.declared.outcomes.Taken.{Taken}
use Rattle.wset.specs.declared.outcomes.Taken.TheVariants as takings
use Rattle.wset.specs.declared.outcomes.Retired.{Retired}
use Rattle.wset.specs.declared.outcomes.Retired.TheVariants as retirements
use Rattle.wentries.specs.declared.status.Status.{Status}
use Rattle.wentries.specs.declared.status.Status.TheVariants as statuses
use Rattle.wentries.specs.declared.status.Listed.{Listed}
use Rattle.wexchange.specs.declared.fault.FileFault.{FileFault}
use Rattle.wexchange.specs.declared.fault.FileFault.TheVariants as files
use Rattle.wrules.specs.Rules.{number_of}
use Rattle.wplanner.specs.declared.fault.AskFault.{AskFault}
use Rattle.wplanner.specs.declared.fault.AskFault.TheVariants as queries

abbrev pub no_memory : List ℕ
no_memory = codes "no memory\n"

abbrev pub table_text : SchemaFault → List ℕ
table_text tables.Syntax = codes "refused T1\n"
table_text tables.RepeatedColumn = codes "refused T2\n"
table_text tables.ColumnCount = codes "refused T3\n"
table_text tables.NoMemory = no_memory

abbrev pub taken_text : Taken → List ℕ
taken_text takings.New = codes "taken\n"
taken_text takings.Same = codes "same\n"
taken_text takings.Disputed = codes "disputed\n"
taken_text takings.Ignored = codes "ignored\n"

abbrev pub retired_text : Retired → List ℕ
retired_text retirements.New = codes "retired\n"
retired_text retirements.Same = codes "same\n"

abbrev pub name_text : NameFault → List ℕ
name_text names.BadOrigin = codes "refused N1\n"
name_text names.BadNumber = codes "refused N2\n"

-- a refusal that ends in a number
abbrev pub at_number : List ℕ → ℕ → List ℕ
at_number words row = words ++ (decimal row ++ 10 ∷ [])

-- a fault of a segment, by its number, and the row where it has one
abbrev pub segment_words : SegmentFault → List ℕ
segment_words segments.TooLong = codes "S1\n"
segment_words segments.NoHeader = codes "S2\n"
segment_words segments.HeaderNotUtf8 = codes "S3\n"
segment_words (segments.RowNotUtf8 row) = at_number (codes "S3 row ") row
segment_words segments.UnknownColumn = codes "S4\n"
segment_words segments.RepeatedColumn = codes "S5\n"
segment_words segments.MissingColumn = codes "S6\n"
segment_words (segments.RowLength row) = at_number (codes "S7 row ") row
segment_words (segments.NotInteger row) = at_number (codes "S8 row ") row
segment_words segments.TooManyRows = codes "S9\n"
segment_words segments.NoMemory = []

abbrev pub segment_text : SegmentFault → List ℕ
segment_text segments.NoMemory = no_memory
segment_text fault = codes "refused " ++ segment_words fault

-- a fault of a file; a segment that is refused is told behind its number
abbrev pub file_text : FileFault → List ℕ
file_text files.OtherFormat = codes "refused X1\n"
file_text files.Truncated = codes "refused X2\n"
file_text files.NotRising = codes "refused X3\n"
file_text files.OtherCount = codes "refused X4\n"
file_text files.OtherSchema = codes "refused X5\n"
file_text (files.Segment segments.NoMemory) = no_memory
file_text (files.Segment fault) = codes "refused X6 " ++ segment_words fault
file_text files.Trailing = codes "refused X7\n"
file_text files.OtherDigest = codes "refused X8\n"
file_text files.NoMemory = no_memory

abbrev pub query_text : AskFault → List ℕ
query_text queries.TooLong = codes "refused Q1\n"
query_text queries.NotUtf8 = codes "refused Q2\n"
query_text (queries.At place) = at_number (codes "refused Q3 at ") place
query_text queries.Syntax = codes "refused Q4\n"
query_text (queries.Broken rule) = at_number (codes "refused Q") (number_of rule)
query_text queries.OutOfRange = codes "refused Q40\n"
query_text queries.TooManyRows = codes "refused Q41\n"
query_text queries.NoMemory = no_memory

-- a fault of a segment that is told with the number of a row
abbrev pub has_row : SegmentFault → Bool
has_row (segments.RowNotUtf8 row) = true
has_row (segments.RowLength row) = true
has_row (segments.NotInteger row) = true
has_row _ = false

-- a fault of a query that is told with a number
abbrev pub has_number : AskFault → Bool
has_number (queries.At place) = true
has_number (queries.Broken rule) = true
has_number _ = false

-- how a name stands, and its rows where it is live
abbrev pub status_text : Status → ℕ → List ℕ
status_text statuses.Unknown rows = codes " unknown\n"
status_text statuses.Live rows = codes " live " ++ (decimal rows ++ 10 ∷ [])
status_text statuses.Disputed rows = codes " disputed\n"
status_text statuses.Retired rows = codes " retired\n"
status_text statuses.Floor rows = codes " floor\n"

abbrev pub listed_text : Listed → List ℕ
listed_text l = l.name.origin ++ (32 ∷ (decimal l.name.number ++ status_text l.status l.rows))

abbrev pub names_text : List Listed → List ℕ
names_text all = codes "list " ++ (decimal (length all) ++ (10 ∷ flat_map listed_text all))

abbrev pub answer_text : List ℕ → List ℕ
answer_text bytes = codes "answer " ++ (decimal (length bytes) ++ (10 ∷ bytes))
