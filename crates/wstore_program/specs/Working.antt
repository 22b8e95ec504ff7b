-- A subcommand on the files that were read: what it gives, and how it ends.
use Rattle.std.specs.Prelude.{◌≡◌, ℕ, true, List, [], Option, None, Some, Result, Ok, Err, option_map}
use Rattle.std.specs.declared.vec.Vec.{Vec}
use Rattle.std.specs.declared.alloc.Global.{Global}
use Rattle.wsegment.specs.Spelling.{ReadsDeclaration}
use Rattle.wbatch.specs.Batches.{stream_of}
use Rattle.wcommand.specs.declared.choice.Choice.{Choice}
use Rattle.wcommand.specs.Inputs.{is_act}
use Rattle.wfolder.specs.Call.{Call}
use Rattle.wfolder.specs.Calls.{CallCounts, HasCause, NothingFailed}
use Rattle.wfolder.specs.declared.fault.Fault.{Fault}
use Rattle.wstore.specs.Nodes.{NodeState}
use Rattle.wact.specs.declared.acted.Acted.{Acted}
use Rattle.wact.specs.declared.opening.Opened.TheVariants as opens
use Rattle.wact.specs.Acts.{Acts}
use Rattle.wact.specs.Delivering.{IsFeed}
use Rattle.wact.specs.Opening.{Opens}
use Rattle.wstore_program.specs.declared.given.Given.{Given}
use Rattle.wstore_program.specs.declared.given.Given.TheVariants as givens
use Rattle.wstore_program.specs.declared.work.Work.{Work}
use Rattle.wstore_program.specs.Performing.{IsEnded, IsFinished, input_path}

-- ---- what it gives

-- the bytes of a store, if it is there
abbrev pub store_bytes : Option (Vec ℕ Global) → Option (List ℕ)
store_bytes store = option_map (λ bytes. bytes.items) store

-- it is what the subcommand gives on a store with these bytes, with this input
abbrev pub GivesOn : Work → Option (List ℕ) → List ℕ → Acted → Type 0
GivesOn work store other acted = Acts work.choice.now work.table.now store other acted

-- the bytes that a subcommand is given: those that a batch was filled from
abbrev pub given_bytes : Given → List ℕ
given_bytes (givens.Bytes bytes) = bytes.now
given_bytes (givens.Batch batch) = stream_of batch.now

-- the subcommand may be given this: bytes, where it is done in one act; or to feed a batch that is filled from a whole stream, under
-- the declaration of the table, and has not stopped
abbrev pub IsGiven : Work → Given → Type 0
IsGiven work (givens.Bytes bytes) = is_act work.choice.now ≡ true
IsGiven work (givens.Batch batch) = IsFeed work.choice.now × ReadsDeclaration work.table.now (Ok batch.now.schema)
    × (batch.now.stopped ≡ None) × (batch.now.held ≡ [])

-- the subcommand may be given this, and it gives that then on the store that was read
abbrev pub Gives : Work → Given → Acted → Type 0
Gives work given acted = IsGiven work given × GivesOn work (store_bytes work.store.now) (given_bytes given) acted

-- the subcommand feeds, and this is the node of the store that was read
abbrev pub FeedsNode : Work → Option (List ℕ) → NodeState → Type 0
FeedsNode work store node = IsFeed work.choice.now × (store ≡ store_bytes work.store.now)
    × Opens work.table.now (store_bytes work.store.now) (opens.Node node)

-- the choice feeds the stream under this path
abbrev pub FeedsFrom : Choice → List ℕ → Type 0
FeedsFrom choice path = IsFeed choice × (input_path choice ≡ Some path)

-- ---- how it ends

-- nothing has failed where there is no fault, and a fault has its cause
abbrev pub IsCounted : {A : Type 0} → Result A Fault → CallCounts → Type 0
IsCounted (Ok value) counts = NothingFailed counts
IsCounted (Err fault) counts = HasCause fault counts

-- it is carried out with this input, on the store that the words name, or at a fault it is not
abbrev pub Finishes : Work → List ℕ → Result Acted Fault → List Call → List Call → Type 0
Finishes work other result old new =
    IsFinished work.choice.now work.paths.store.now work.table.now (store_bytes work.store.now) other result old new

-- its input is read, and it is carried out; or at a fault it is not
abbrev pub Ends : Work → Result Acted Fault → List Call → List Call → Type 0
Ends work result old new = IsEnded work.choice.now work.paths.store.now work.table.now (store_bytes work.store.now) result old new
