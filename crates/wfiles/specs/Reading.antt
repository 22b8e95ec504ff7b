-- What is noted while a file is read in blocks: one call, which grows with each read.
use Rattle.std.specs.Prelude.{◌≡◌, ◌⊎◌, ℕ, ◌<◌, List, ◌∷◌, ◌++◌, length, take, Option, None, Some}
use Rattle.std.specs.Io.KnownBytes.{Consumes, IsAtEnd, Keeps}
use Rattle.wfolder.specs.Call.{Call, Began, Found}
use Rattle.wfiles.specs.Noting.{read_on}

-- a reader, and the calls that were made, the newest of which is its own
pub record Readings (T : Type 0) : Type 0 where
  pub reader : T
  pub calls : List Call

-- more bytes were read of the file that the newest call began to read
abbrev pub read_more : List ℕ → List Call → List Call
read_more block (Began name bytes ∷ cs) = Began name (bytes ++ block) ∷ cs
read_more block cs = cs

-- that file was read to its end
abbrev pub read_to_end : List Call → List Call
read_to_end (Began name bytes ∷ cs) = Found name (Some bytes) ∷ cs
read_to_end cs = cs

-- some bytes more were read of it
abbrev pub ReadsMore : List Call → List Call → Type 0
ReadsMore old new = (bytes : List ℕ) × (new ≡ read_more bytes old)

-- a read is noted that gave the first bytes of the block, none at the end; or it was interrupted and gave none
abbrev pub NotesBytes : List Call → List Call → List ℕ → Option ℕ → Type 0
NotesBytes old new block None = new ≡ old
NotesBytes old new block (Some n) = new ≡ read_on (take n block) old

-- the file of a name was not read, or only its first bytes were
abbrev pub MayBegin : List ℕ → List Call → List Call → Type 0
MayBegin name old new = (new ≡ old) ⊎ ((bytes : List ℕ) × (new ≡ Began name bytes ∷ old))

-- a read gave the first bytes of the block, none only at the end; or it was interrupted and gave none
abbrev pub GivesBytes : Option (List ℕ) → Option (List ℕ) → List ℕ → Option ℕ → Type 0
GivesBytes old new block None = Keeps old new
GivesBytes old new block (Some n) = Consumes old new (take n block) × (n ≡ 0 → 0 < length block → IsAtEnd new)

-- more than so many, where a number is given
abbrev pub IsOver : Option ℕ → ℕ → Type 0
IsOver None n = ⊥
IsOver (Some most) n = most < n

-- a reading was read to its end, with these bytes; or more than so many bytes were read of it
abbrev pub TakesBytes : Option ℕ → Type 0 → List ℕ → List Call → List Call → Type 0
TakesBytes most Ended bytes old new = (Ended × (new ≡ read_to_end (read_more bytes old)))
    ⊎ (IsOver most (length bytes) × (new ≡ read_more bytes old))

-- a file is read whole; or of one that has more than so many bytes only the first, more than so many
pub data ReadsAtMost (path : List ℕ) (most : ℕ) (bytes : List ℕ) (old new : List Call) : Type 0 where
  Whole : new ≡ Found path (Some bytes) ∷ old → ReadsAtMost path most bytes old new
  Front : most < length bytes → new ≡ Began path bytes ∷ old → ReadsAtMost path most bytes old new
