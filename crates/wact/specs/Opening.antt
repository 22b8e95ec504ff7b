-- What a table and a store open.
use Rattle.std.specs.Prelude.{◌≡◌, ◌≢◌, ◌≤◌, ℕ, List, length, Option, Result, Ok, Err}
use Rattle.wsegment.specs.Declaration.{Declaration}
use Rattle.wsegment.specs.Spelling.{ReadsDeclaration}
use Rattle.wsegment.specs.declared.schema_fault.SchemaFault.{SchemaFault}
use Rattle.wsegment.specs.declared.schema_fault.SchemaFault.TheVariants as tables
use Rattle.wexchange.specs.declared.fault.FileFault.{FileFault}
use Rattle.wexchange.specs.declared.fault.FileFault.TheVariants as files
use Rattle.wcommand.specs.declared.choice.Choice.{Choice}
use Rattle.wcommand.specs.declared.choice.Choice.TheVariants as choices
use Rattle.wreplies.specs.Spelling.{file_text, table_text}
use Rattle.wreplies.specs.Texts.{bytes_of}
use Rattle.wact.specs.declared.opening.Opened.{Opened}
use Rattle.wact.specs.declared.opening.Opened.TheVariants as opens
use Rattle.wact.specs.declared.opening.Purpose.{Purpose}
use Rattle.wact.specs.declared.opening.Purpose.TheVariants as purposes
use Rattle.wact.specs.Acts.{HasFault, Knows, MayLackIn}

-- where the table is read, the store is judged
abbrev pub OpensBy : Declaration → Option (List ℕ) → Opened → Type 0
OpensBy d store (opens.Node node) = (node.schema ≡ d) × Knows d store node.view
OpensBy d store (opens.Refused text) = (fault : FileFault) × (fault ≢ files.NoMemory) × HasFault d store fault
    × (bytes_of text ≡ file_text fault)

-- a table that is refused
abbrev pub IsRefusedTable : SchemaFault → Opened → Type 0
IsRefusedTable fault (opens.Node node) = ⊥
IsRefusedTable fault (opens.Refused text) = (fault ≢ tables.NoMemory) × (bytes_of text ≡ table_text fault)

-- the table is judged first
pub data Opens (table : List ℕ) (store : Option (List ℕ)) (opened : Opened) : Type 0 where
  TableRead : (d : Declaration) → ReadsDeclaration table (Ok d) → OpensBy d store opened → Opens table store opened
  TableRefused : (fault : SchemaFault) → ReadsDeclaration table (Err fault) → IsRefusedTable fault opened → Opens table store opened

-- behind a declaration the store may lack memory; a table that is refused lacks it only where its reading did
abbrev pub MayLackReading : Result Declaration SchemaFault → Option (List ℕ) → Type 0
MayLackReading (Ok d) store = MayLackIn d store
MayLackReading (Err fault) store = fault ≡ tables.NoMemory

-- where opening may find no memory: not for a table that is too long to be a declaration
pub record MayLackOpening (table : List ℕ) (store : Option (List ℕ)) : Type 0 where
  pub declared : Result Declaration SchemaFault
  pub reads : ReadsDeclaration table declared
  pub short : length table ≤ 65536
  pub lacks : MayLackReading declared store

-- what a subcommand opens a node for
abbrev pub purpose_of : Choice → Purpose
purpose_of (choices.Ask paths queries) = purposes.Asking
purpose_of choice = purposes.Telling
