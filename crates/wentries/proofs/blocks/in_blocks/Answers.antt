use Rattle.std.proofs.Common.{arith}
use Rattle.wentries.specs.Blocks.{flat, longest}
use Rattle.wentries.proofs.Cutting.{entries_more}
use Rattle.wentries.proofs.blocks.in_blocks.Goals as goal

pub entries-preserved : goal.entries-preserved
entries-preserved c = record {
  same = entries_more (flat c.entries.blocks.items) (flat c.append.new.blocks.items) c.args.entries.now
      c.entries.entry-index c.entry-item.result c.in_ok-shared.shared c.entries-test.true c.entry-item.is
      c.in_ok-shared.ensures c.in_ok-append.ensures.ok c.entries.invariant.same;
  filled = c.append.ensures.filled longest (omega arith) c.entries.invariant.filled;
}
