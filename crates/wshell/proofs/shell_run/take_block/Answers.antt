use Rattle.std.proofs.Common.{refl}
use Rattle.wshell.proofs.Running.{last_byte}
use Rattle.wshell.proofs.shell_run.take_block.Goals as goal

pub returns-in-Err-clause-part : goal.returns-in-Err-clause-part
returns-in-Err-clause-part g c = last_byte _ _ c.args.block.now c.bytes.byte-index _ _ _ _ _ _ _ _ _ _ c.bytes-test.true refl
    c.bytes.invariant.on (rw c.bytes.invariant.same at c.in-Err.ensures.part)
