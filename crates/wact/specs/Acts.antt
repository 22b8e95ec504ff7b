-- What each subcommand does.
use Rattle.std.specs.Prelude.{◌≡◌, ◌≢◌, ⊤, ℕ, true, List, Option, Some, None, Result, Ok, Err, IsOk, ◌≤◌, length, codes, map}
use Rattle.std.specs.FinMap.{empty, entries}
use Rattle.wvalues.specs.Names.{NameParts}
use Rattle.wvalues.specs.NameReading.{ReadsName}
use Rattle.wvalues.specs.declared.name.NameFault.{NameFault}
use Rattle.wsegment.specs.Declaration.{Declaration}
use Rattle.wsegment.specs.Spelling.{ReadsDeclaration}
use Rattle.wsegment.specs.Rows.{rows_of}
use Rattle.wsegment.specs.declared.schema_fault.SchemaFault.{SchemaFault}
use Rattle.wsegment.specs.declared.schema_fault.SchemaFault.TheVariants as tables
use Rattle.wsegment.specs.declared.fault.SegmentFault.{SegmentFault}
use Rattle.wset.specs.Items.{FloorItem, RetirementItem, SegmentItem, view_of_item}
use Rattle.wset.specs.Listing.{listed}
use Rattle.wset.specs.Views.{View, join, known_in}
use Rattle.wset.specs.Words.{floor_word, retired_word, taken_word}
use Rattle.wexchange.specs.Judging.{HasTable, IsFault, IsFileOf}
use Rattle.wexchange.specs.declared.fault.FileFault.{FileFault}
use Rattle.wexchange.specs.declared.fault.FileFault.TheVariants as files
use Rattle.wscript.specs.Commands.{AreName}
use Rattle.wreplies.specs.Spelling.{file_text, has_row, name_text, names_text, retired_text, segment_text, table_text, taken_text}
use Rattle.wcommand.specs.declared.choice.Choice.{Choice}
use Rattle.wcommand.specs.declared.choice.Choice.TheVariants as choices
use Rattle.wact.specs.declared.acted.Acted.{Acted}
use Rattle.wact.specs.Outcomes.{IsAnswered, IsRefused, IsStored}
use Rattle.wact.specs.Queries.{Asks}
use Rattle.wact.specs.Streams.{Feeds}

-- the words of a name are at fault, or they are those of a name with which this is done
pub data OnName (origin number : List ℕ) (acted : Acted) (Does : NameParts → Type 0) : Type 0 where
  NameRefused : (fault : NameFault) → ReadsName origin number (Err fault) → IsRefused acted (name_text fault)
      → OnName origin number acted Does
  Named : (name : NameParts) → ReadsName origin number (Ok name) → Does name → OnName origin number acted Does

-- a segment is taken, or its first fault is told
pub data Takes (d : Declaration) (v : View) (old : Option (List ℕ)) (csv : List ℕ) (acted : Acted) (name : NameParts) : Type 0 where
  SegmentRefused : (fault : SegmentFault) → rows_of d csv ≡ Err fault → IsRefused acted (segment_text fault) → Takes d v old csv acted name
  Taken : IsOk (rows_of d csv) → IsStored d (join v (view_of_item (SegmentItem name csv))) old acted
      (taken_text (taken_word (known_in v name) csv)) → Takes d v old csv acted name

-- a name is retired
abbrev pub Retires : Declaration → View → Option (List ℕ) → Acted → NameParts → Type 0
Retires d v old acted name = IsStored d (join v (view_of_item (RetirementItem name))) old acted
    (retired_text (retired_word (known_in v name)))

-- all names of an origin up to one are retired
abbrev pub RetiresTo : Declaration → View → Option (List ℕ) → Acted → NameParts → Type 0
RetiresTo d v old acted name = IsStored d (join v (view_of_item (FloorItem name))) old acted (retired_text (floor_word v name))

-- another store is joined, or its first fault is told
pub data Joins (d : Declaration) (v : View) (old : Option (List ℕ)) (other : List ℕ) (acted : Acted) : Type 0 where
  OtherRefused : (fault : FileFault) → fault ≢ files.NoMemory → IsFault d other fault → IsRefused acted (file_text fault)
      → Joins d v old other acted
  Joined : (w : View) → IsFileOf d w other → IsStored d (join v w) old acted (codes "ok\n") → Joins d v old other acted

-- the names are listed
abbrev pub Lists : Declaration → View → Acted → Type 0
Lists d v acted = IsAnswered acted (names_text (map (listed d) (entries v)))

-- what a subcommand does where the store has these bytes, if it is there, and this is its view
abbrev pub ActsOn : Declaration → View → Choice → Option (List ℕ) → List ℕ → Acted → Type 0
ActsOn d v choices.Session old other acted = ⊥
ActsOn d v (choices.Take paths origin number csv) old other acted = OnName origin.now number.now acted (Takes d v old other acted)
ActsOn d v (choices.Retire paths origin number) old other acted = OnName origin.now number.now acted (Retires d v old acted)
ActsOn d v (choices.Floor paths origin number) old other acted = OnName origin.now number.now acted (RetiresTo d v old acted)
ActsOn d v (choices.Join paths path) old other acted = Joins d v old other acted
ActsOn d v (choices.Feed paths path) old other acted = Feeds d v old other acted
ActsOn d v (choices.List paths) old other acted = Lists d v acted
ActsOn d v (choices.Ask paths queries) old other acted = Asks d v (map (λ query. query.now) queries.items) acted
ActsOn d v (choices.Shell paths) old other acted = ⊥

-- where it may find no memory then: a name that is none needs none, nor does CSV with more bytes than a segment may have, nor another
-- store before its declaration
abbrev pub MayLackOn : Declaration → Choice → List ℕ → Type 0
MayLackOn d choices.Session other = ⊥
MayLackOn d (choices.Take paths origin number csv) other = AreName origin.now number.now × (length other ≤ 67108864)
MayLackOn d (choices.Retire paths origin number) other = AreName origin.now number.now
MayLackOn d (choices.Floor paths origin number) other = AreName origin.now number.now
MayLackOn d (choices.Join paths path) other = HasTable d other
MayLackOn d (choices.Feed paths path) other = ⊤
MayLackOn d (choices.List paths) other = ⊤
MayLackOn d (choices.Ask paths queries) other = ⊤
MayLackOn d (choices.Shell paths) other = ⊥

-- the bytes are the file of a view, which is joined into that of a store that knows nothing
pub record KnowsFile (d : Declaration) (bytes : List ℕ) (v : View) : Type 0 where
  pub in_file : View
  pub file : IsFileOf d in_file bytes
  pub is : v ≡ join empty in_file

-- the store's view is that of its file; where there is no file, nothing is known
abbrev pub Knows : Declaration → Option (List ℕ) → View → Type 0
Knows d None v = v ≡ empty
Knows d (Some bytes) v = KnowsFile d bytes v

-- what is wrong with the store's file
abbrev pub HasFault : Declaration → Option (List ℕ) → FileFault → Type 0
HasFault d None fault = ⊥
HasFault d (Some bytes) fault = IsFault d bytes fault

-- where the table is read, the store is judged first, then the subcommand
pub data ActsBy (d : Declaration) (choice : Choice) (store : Option (List ℕ)) (other : List ℕ) (acted : Acted) : Type 0 where
  StoreRefused : (fault : FileFault) → fault ≢ files.NoMemory → HasFault d store fault → IsRefused acted (file_text fault)
      → ActsBy d choice store other acted
  Done : (v : View) → Knows d store v → ActsOn d v choice store other acted → ActsBy d choice store other acted

-- where the declaration of the table is read, it is acted by it; else its fault is told
abbrev pub ActsRead : Result Declaration SchemaFault → Choice → Option (List ℕ) → List ℕ → Acted → Type 0
ActsRead (Ok d) choice store other acted = ActsBy d choice store other acted
ActsRead (Err fault) choice store other acted = (fault ≢ tables.NoMemory) × IsRefused acted (table_text fault)

-- the table is judged before all
pub record Acts (choice : Choice) (table : List ℕ) (store : Option (List ℕ)) (other : List ℕ) (acted : Acted) : Type 0 where
  pub declared : Result Declaration SchemaFault
  pub reads : ReadsDeclaration table declared
  pub acts : ActsRead declared choice store other acted

-- where a store may find no memory: it is read behind its declaration, or a segment of it is refused with the number of a row
pub data MayLackIn (d : Declaration) (store : Option (List ℕ)) : Type 0 where
  InReading : HasFault d store files.NoMemory → MayLackIn d store
  InRefusal : (fault : SegmentFault) → has_row fault ≡ true → HasFault d store (files.Segment fault) → MayLackIn d store

-- where it may find no memory once the table is read: in the store, or then in the subcommand
pub data MayLackBy (d : Declaration) (choice : Choice) (store : Option (List ℕ)) (other : List ℕ) : Type 0 where
  InStore : MayLackIn d store → MayLackBy d choice store other
  InSubcommand : (v : View) → Knows d store v → MayLackOn d choice other → MayLackBy d choice store other

-- a declaration that is refused needs none
abbrev pub MayLackRead : Result Declaration SchemaFault → Choice → Option (List ℕ) → List ℕ → Type 0
MayLackRead (Ok d) choice store other = MayLackBy d choice store other
MayLackRead (Err fault) choice store other = fault ≡ tables.NoMemory

-- nor does one that is too long to be one
pub record MayLack (choice : Choice) (table : List ℕ) (store : Option (List ℕ)) (other : List ℕ) : Type 0 where
  pub declared : Result Declaration SchemaFault
  pub reads : ReadsDeclaration table declared
  pub short : length table ≤ 65536
  pub lacks : MayLackRead declared choice store other
