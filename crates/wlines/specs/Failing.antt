-- What a call that reads asks for and leaves, and why nothing more can be read.
use Rattle.std.specs.Prelude.{◌≡◌, ℕ, List, [], Option, Result, OnOk, IfErr}
use Rattle.wvalues.specs.Counts.{Counts}
use Rattle.wlines.specs.Pending.{IsSound, IsSoundWriter, ReadFailed}
use Rattle.wlines.specs.Sent.{Block, Waiting, IsUsed, Says, sent}
use Rattle.wlines.specs.declared.fault.ReadFault.{ReadFault}
use Rattle.wlines.specs.declared.fault.ReadFault.TheVariants as faults

-- each fault has its cause, and nothing else has failed; before the reader failed, all that waited was written
abbrev pub HasFailed : {R W : Type 0} → ReadFault → Counts R → Waiting → Counts W → Type 0
HasFailed faults.Reader input outbox output = ReadFailed input × IsSoundWriter output × (outbox.bytes ≡ [])
HasFailed faults.Writer input outbox output = IsSound input × (output.failures ≡ 1)

-- nothing has failed, and a byte of what was read last was handed out
pub record IsReady {R W : Type 0} (source : Block) (input : Counts R) (output : Counts W) : Type 0 where
  pub used : IsUsed source
  pub reader : IsSound input
  pub writer : IsSoundWriter output

-- no reply was said and no line read; more can be read, or the fault has its cause
pub record Leaves {A R W : Type 0} (contents : W → Option (List ℕ)) (result : Result A ReadFault) (old_outbox : Waiting)
    (old_output : Counts W) (source : Block) (input : Counts R) (outbox : Waiting) (output : Counts W) : Type 0 where
  pub says : Says (sent contents old_outbox old_output) (sent contents outbox output) []
  pub owed : outbox.is_answered ≡ old_outbox.is_answered
  pub ready : OnOk result (IsReady source input output)
  pub fault : IfErr result (λ fault. HasFailed fault input outbox output)
