-- What refusals are called, as they are printed.
use Rattle.std.specs.Prelude.{◌++◌, ℕ, List, codes}
use Rattle.std.specs.Fmt.{decimal}
use Rattle.wvalues.specs.declared.name.NameFault.{NameFault}
use Rattle.wvalues.specs.declared.name.NameFault.TheVariants as names
use Rattle.wsegment.specs.declared.schema_fault.SchemaFault.{SchemaFault}
use Rattle.wsegment.specs.declared.schema_fault.SchemaFault.TheVariants as tables
use Rattle.wsegment.specs.declared.fault.SegmentFault.{SegmentFault}
use Rattle.wsegment.specs.declared.fault.SegmentFault.TheVariants as segments
use Rattle.wexchange.specs.declared.fault.FileFault.{FileFault}
use Rattle.wexchange.specs.declared.fault.FileFault.TheVariants as files
use Rattle.wrules.specs.Rules.{number_of}
use Rattle.wplanner.specs.declared.fault.AskFault.{AskFault}
use Rattle.wplanner.specs.declared.fault.AskFault.TheVariants as queries

-- a name that is none
abbrev pub name_label : NameFault → List ℕ
name_label names.BadOrigin = codes "N1"
name_label names.BadNumber = codes "N2"

-- a declaration
abbrev pub table_label : SchemaFault → List ℕ
table_label tables.Syntax = codes "T1"
table_label tables.RepeatedColumn = codes "T2"
table_label tables.ColumnCount = codes "T3"
table_label tables.NoMemory = codes "no memory"

-- a segment, without the row
abbrev pub segment_label : SegmentFault → List ℕ
segment_label segments.TooLong = codes "S1"
segment_label segments.NoHeader = codes "S2"
segment_label segments.HeaderNotUtf8 = codes "S3"
segment_label (segments.RowNotUtf8 _) = codes "S3"
segment_label segments.UnknownColumn = codes "S4"
segment_label segments.RepeatedColumn = codes "S5"
segment_label segments.MissingColumn = codes "S6"
segment_label (segments.RowLength _) = codes "S7"
segment_label (segments.NotInteger _) = codes "S8"
segment_label segments.TooManyRows = codes "S9"
segment_label segments.NoMemory = codes "no memory"

-- an exchange file, without the fault of its segment
abbrev pub file_label : FileFault → List ℕ
file_label files.OtherFormat = codes "X1"
file_label files.Truncated = codes "X2"
file_label files.NotRising = codes "X3"
file_label files.OtherCount = codes "X4"
file_label files.OtherSchema = codes "X5"
file_label (files.Segment _) = codes "X6"
file_label files.Trailing = codes "X7"
file_label files.OtherDigest = codes "X8"
file_label files.NoMemory = codes "no memory"

-- a query
abbrev pub query_label : AskFault → List ℕ
query_label queries.TooLong = codes "Q1"
query_label queries.NotUtf8 = codes "Q2"
query_label (queries.At _) = codes "Q3"
query_label queries.Syntax = codes "Q4"
query_label (queries.Broken rule) = codes "Q" ++ decimal (number_of rule)
query_label queries.OutOfRange = codes "Q40"
query_label queries.TooManyRows = codes "Q41"
query_label queries.NoMemory = codes "no memory"
