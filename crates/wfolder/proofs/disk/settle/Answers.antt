use Rattle.std.proofs.Common.{arith, get_or}
use Rattle.wfolder.specs.Memory.{leading_of}
use Rattle.wfolder.proofs.Memory.{cleared, settled_more}
use Rattle.wfolder.proofs.disk.settle.Goals as goal

pub loop-entry-preserved : goal.loop-entry-preserved
loop-entry-preserved c = settled_more c.args.entries.now c.loop-entry.entries c.loop-entry.entry-index c.entry-item.result _
    (omega arith) (omega arith) c.loop-entry.invariant
    (cleared (leading_of (get_or c.loop-entry.entries c.loop-entry.entry-index c.entry-item.result)) _ c.clear.ensures.items)
