-- What the bytes of a file are: the view that they spell, or the first fault from left to right.
use Rattle.std.specs.Prelude.{◌≡◌, ◌≢◌, ⊤, ℕ, ◌≤◌, List, [], ◌∷◌, ◌++◌, length, Option, None, Some, ◌⊎◌, Result, Ok, Err}
use Rattle.std.specs.FinMap.{entries}
use Rattle.wvalues.specs.Names.{NameParts}
use Rattle.wlines.specs.Words.{Lacks}
use Rattle.wsegment.specs.Declaration.{Declaration, declaration_text}
use Rattle.wsegment.specs.Rows.{rows_of}
use Rattle.wsegment.specs.declared.fault.SegmentFault.{SegmentFault}
use Rattle.wset.specs.Views.{View, IsSettled}
use Rattle.wset.specs.Lending.{IsAbove, IsBehindOrigins}
use Rattle.wrecords.specs.Forms.{IsForm, line_of}
use Rattle.wrecords.specs.Cuts.{IsUnfed}
use Rattle.wexchange.specs.Files.{head, table_text, begun, counted, digest_of, text_of, AreRecords, HasFloors, IsView, HasRecords}
use Rattle.wexchange.specs.declared.version.Version.{Version}
use Rattle.wexchange.specs.declared.version.Version.TheVariants.{Two}
use Rattle.wrecords.specs.declared.form.Form.{Form}
use Rattle.wrecords.specs.declared.form.Form.TheVariants as forms
use Rattle.wexchange.specs.declared.fault.FileFault.{FileFault}
use Rattle.wexchange.specs.declared.fault.FileFault.TheVariants as faults

-- how far a file of a version is good: up to the line of the table, behind the records of a view, or in version 2 behind their count
pub data Place : Type 0 where
  AtTable : Version → Place
  Behind : Version → View → Place
  AtDigest : View → Place

-- what stands before that place
abbrev pub before : Declaration → Place → List ℕ
before d (AtTable r) = head r
before d (Behind r v) = begun r d (entries v)
before d (AtDigest v) = counted Two d (entries v)

-- what is good there is made of records that the version has
abbrev pub IsGood : Declaration → Place → Type 0
IsGood d (AtTable r) = ⊤
IsGood d (Behind r v) = IsSettled v × AreRecords d v × HasRecords r v
IsGood d (AtDigest v) = IsView d v

-- the bytes are good up to this place, and so go on
pub record GoesOn (d : Declaration) (p : Place) (bytes rest : List ℕ) : Type 0 where
  pub good : IsGood d p
  pub bytes_are : bytes ≡ before d p ++ rest

-- the lines that may stand there, whatever their names
abbrev pub MayStand : Place → Form → Type 0
MayStand (AtTable r) (forms.Table len) = ⊤
MayStand (AtTable r) (forms.Content name len) = ⊥
MayStand (AtTable r) (forms.Dispute name) = ⊥
MayStand (AtTable r) (forms.Retirement name) = ⊥
MayStand (AtTable r) (forms.Floor name) = ⊥
MayStand (AtTable r) (forms.End count) = ⊥
MayStand (AtTable r) (forms.Digest digits) = ⊥
MayStand (Behind r v) (forms.Table len) = ⊥
MayStand (Behind r v) (forms.Content name len) = ⊤
MayStand (Behind r v) (forms.Dispute name) = ⊤
MayStand (Behind r v) (forms.Retirement name) = ⊤
MayStand (Behind r v) (forms.Floor name) = HasFloors r
MayStand (Behind r v) (forms.End count) = ⊤
MayStand (Behind r v) (forms.Digest digits) = ⊥
MayStand (AtDigest v) (forms.Table len) = ⊥
MayStand (AtDigest v) (forms.Content name len) = ⊥
MayStand (AtDigest v) (forms.Dispute name) = ⊥
MayStand (AtDigest v) (forms.Retirement name) = ⊥
MayStand (AtDigest v) (forms.Floor name) = ⊥
MayStand (AtDigest v) (forms.End count) = ⊥
MayStand (AtDigest v) (forms.Digest digits) = ⊤

-- and those whose name is greater than all before it, too, and a floor's origin greater than theirs
abbrev pub Follows : Place → Form → Type 0
Follows (AtTable r) (forms.Table len) = ⊤
Follows (AtTable r) (forms.Content name len) = ⊥
Follows (AtTable r) (forms.Dispute name) = ⊥
Follows (AtTable r) (forms.Retirement name) = ⊥
Follows (AtTable r) (forms.Floor name) = ⊥
Follows (AtTable r) (forms.End count) = ⊥
Follows (AtTable r) (forms.Digest digits) = ⊥
Follows (Behind r v) (forms.Table len) = ⊥
Follows (Behind r v) (forms.Content name len) = IsAbove v name
Follows (Behind r v) (forms.Dispute name) = IsAbove v name
Follows (Behind r v) (forms.Retirement name) = IsAbove v name
Follows (Behind r v) (forms.Floor name) = HasFloors r × IsBehindOrigins v name
Follows (Behind r v) (forms.End count) = ⊤
Follows (Behind r v) (forms.Digest digits) = ⊥
Follows (AtDigest v) (forms.Table len) = ⊥
Follows (AtDigest v) (forms.Content name len) = ⊥
Follows (AtDigest v) (forms.Dispute name) = ⊥
Follows (AtDigest v) (forms.Retirement name) = ⊥
Follows (AtDigest v) (forms.Floor name) = ⊥
Follows (AtDigest v) (forms.End count) = ⊥
Follows (AtDigest v) (forms.Digest digits) = ⊤

-- the name of a record
abbrev pub record_name : Form → Option NameParts
record_name (forms.Table len) = None
record_name (forms.Content name len) = Some name
record_name (forms.Dispute name) = Some name
record_name (forms.Retirement name) = Some name
record_name (forms.Floor name) = Some name
record_name (forms.End count) = None
record_name (forms.Digest digits) = None

-- the length of the body behind a line
abbrev pub body_length : Form → Option ℕ
body_length (forms.Table len) = Some len
body_length (forms.Content name len) = Some len
body_length (forms.Dispute name) = None
body_length (forms.Retirement name) = None
body_length (forms.Floor name) = None
body_length (forms.End count) = None
body_length (forms.Digest digits) = None

-- behind what is good stands this line, and then this
pub record Stands (d : Declaration) (p : Place) (f : Form) (bytes after : List ℕ) : Type 0 where
  pub form : IsForm f
  pub follows : Follows p f
  pub goes_on : GoesOn d p bytes (line_of f ++ (10 ∷ after))

-- ---- X1

-- the bytes are not begun by the head of a version, and do not begin one
pub record HasOtherHead (bytes : List ℕ) : Type 0 where
  pub not_begun : (r : Version) (rest : List ℕ) → bytes ≢ head r ++ rest
  pub no_beginning : (r : Version) (more : List ℕ) → head r ≢ bytes ++ more

-- a line with its line feed is none that may stand there
pub record HasBadLine (d : Declaration) (bytes : List ℕ) : Type 0 where
  pub place : Place
  pub line : List ℕ
  pub after : List ℕ
  pub lacks : Lacks 10 line
  pub goes_on : GoesOn d place bytes (line ++ (10 ∷ after))
  pub none : (f : Form) → IsForm f → MayStand place f → line ≢ line_of f

-- another byte than a line feed stands behind a body
pub record HasUnfedBody (d : Declaration) (bytes : List ℕ) : Type 0 where
  pub place : Place
  pub form : Form
  pub after : List ℕ
  pub len : ℕ
  pub stands : Stands d place form bytes after
  pub length_is : body_length form ≡ Some len
  pub unfed : IsUnfed len after

-- ---- X2

-- more bytes make it the head of a version
pub record IsCutHead (bytes : List ℕ) : Type 0 where
  pub version : Version
  pub more : List ℕ
  pub some : more ≢ []
  pub head_is : head version ≡ bytes ++ more

-- no line feed is left for a line
pub record HasCutLine (d : Declaration) (bytes : List ℕ) : Type 0 where
  pub place : Place
  pub rest : List ℕ
  pub goes_on : GoesOn d place bytes rest
  pub lacks : Lacks 10 rest

-- too few bytes are left for a body and its line feed
pub record HasCutBody (d : Declaration) (bytes : List ℕ) : Type 0 where
  pub place : Place
  pub form : Form
  pub after : List ℕ
  pub len : ℕ
  pub stands : Stands d place form bytes after
  pub length_is : body_length form ≡ Some len
  pub short : length after ≤ len

-- ---- X3 to X8

-- the name of a record is not greater than those before it, or that of a floor is of the origin of one
pub record HasLowName (d : Declaration) (bytes : List ℕ) : Type 0 where
  pub version : Version
  pub view : View
  pub form : Form
  pub name : NameParts
  pub after : List ℕ
  pub is_form : IsForm form
  pub may : MayStand (Behind version view) form
  pub name_is : record_name form ≡ Some name
  pub low : ¬ (Follows (Behind version view) form)
  pub goes_on : GoesOn d (Behind version view) bytes (line_of form ++ (10 ∷ after))

-- the count of the end is not the number of records
pub record HasOtherCount (d : Declaration) (bytes : List ℕ) : Type 0 where
  pub version : Version
  pub view : View
  pub count : ℕ
  pub after : List ℕ
  pub stands : Stands d (Behind version view) (forms.End count) bytes after
  pub other : count ≢ length (entries view)

-- the declaration is not that of the reader
pub record HasOtherTable (d : Declaration) (bytes : List ℕ) : Type 0 where
  pub version : Version
  pub table : List ℕ
  pub after : List ℕ
  pub stands : Stands d (AtTable version) (forms.Table (length table)) bytes (table ++ (10 ∷ after))
  pub other : table ≢ declaration_text d

-- a content is no segment
pub record HasBadSegment (d : Declaration) (bytes : List ℕ) (fault : SegmentFault) : Type 0 where
  pub version : Version
  pub view : View
  pub name : NameParts
  pub content : List ℕ
  pub after : List ℕ
  pub stands : Stands d (Behind version view) (forms.Content name (length content)) bytes (content ++ (10 ∷ after))
  pub refused : rows_of d content ≡ Err fault

-- the digest is not that of all bytes before its line
pub record HasOtherDigest (d : Declaration) (bytes : List ℕ) : Type 0 where
  pub view : View
  pub digits : List ℕ
  pub after : List ℕ
  pub stands : Stands d (AtDigest view) (forms.Digest digits) bytes after
  pub other : digits ≢ digest_of (counted Two d (entries view))

-- a whole text is followed by more
pub record HasMore (d : Declaration) (bytes : List ℕ) : Type 0 where
  pub version : Version
  pub view : View
  pub byte : ℕ
  pub more : List ℕ
  pub is_view : IsView d view
  pub may : HasRecords version view
  pub bytes_are : bytes ≡ text_of version d view ++ (byte ∷ more)

-- ---- want of memory

-- the first line and the reader's own declaration stand first: whatever is refused before them needs no memory
pub record HasTable (d : Declaration) (bytes : List ℕ) : Type 0 where
  pub version : Version
  pub rest : List ℕ
  pub bytes_are : bytes ≡ (head version ++ table_text d) ++ rest

-- ---- all together

-- the first fault of these bytes, or where memory may run out
abbrev pub IsFault : Declaration → List ℕ → FileFault → Type 0
IsFault d bytes faults.OtherFormat = HasOtherHead bytes ⊎ (HasBadLine d bytes ⊎ HasUnfedBody d bytes)
IsFault d bytes faults.Truncated = IsCutHead bytes ⊎ (HasCutLine d bytes ⊎ HasCutBody d bytes)
IsFault d bytes faults.NotRising = HasLowName d bytes
IsFault d bytes faults.OtherCount = HasOtherCount d bytes
IsFault d bytes faults.OtherSchema = HasOtherTable d bytes
IsFault d bytes (faults.Segment fault) = HasBadSegment d bytes fault
IsFault d bytes faults.Trailing = HasMore d bytes
IsFault d bytes faults.OtherDigest = HasOtherDigest d bytes
IsFault d bytes faults.NoMemory = HasTable d bytes

-- the bytes are a text of this view: its file, or where it has no floor its text in version 1
pub record IsFileOf (d : Declaration) (v : View) (bytes : List ℕ) : Type 0 where
  pub is_view : IsView d v
  pub version : Version
  pub may : HasRecords version v
  pub bytes_are : bytes ≡ text_of version d v

-- what the bytes are, unless memory ran out
abbrev pub Judges : Declaration → List ℕ → Result View FileFault → Type 0
Judges d bytes (Ok v) = IsFileOf d v bytes
Judges d bytes (Err fault) = IsFault d bytes fault
