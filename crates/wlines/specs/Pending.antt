-- What a source and the reader behind it have left, and the budget of reads.
use Rattle.std.specs.Prelude.{◌≡◌, ℕ, ◌+◌, ◌-◌, ◌*◌, ◌^◌, ◌≤◌, ◌⊎◌, List, length, Option}
use Rattle.std.specs.Io.KnownBytes.{prepend_known}
use Rattle.wvalues.specs.Counts.{Counts}

-- the bytes that are held, and then those that the reader has left, where these are known
abbrev pub left : {R : Type 0} → (R → Option (List ℕ)) → List ℕ → Counts R → Option (List ℕ)
left remaining held input = prepend_known held (remaining input.inner)

-- how many bytes a read may give
abbrev pub block : ℕ
block = 65536

-- how many reads a run may make
abbrev pub most_reads : ℕ
most_reads = 2 ^ 40

-- what can still be handed out: it falls with each byte that is, and never grows
abbrev pub budget : {R : Type 0} → List ℕ → Counts R → ℕ
budget held input = (most_reads - input.reads) * (block + 1) + length held

-- no failure has been counted, and the reads are within their budget
pub record IsSound {R : Type 0} (input : Counts R) : Type 0 where
  pub reads : input.reads ≤ most_reads
  pub failures : input.failures ≡ 0

-- a read may be refused only so: one read failed, or none did and their number is used up
pub record ReadFailed {R : Type 0} (input : Counts R) : Type 0 where
  pub reads : input.reads ≤ most_reads
  pub cause : (input.failures ≡ 1) ⊎ ((input.failures ≡ 0) × (input.reads ≡ most_reads))

-- no failure has been counted, and no read
pub record IsSoundWriter {W : Type 0} (output : Counts W) : Type 0 where
  pub reads : output.reads ≡ 0
  pub failures : output.failures ≡ 0

-- nothing has been counted yet
pub record IsNew {T : Type 0} (counted : Counts T) : Type 0 where
  pub reads : counted.reads ≡ 0
  pub failures : counted.failures ≡ 0
