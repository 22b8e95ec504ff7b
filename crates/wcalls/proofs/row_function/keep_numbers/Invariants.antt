use Rattle.std.proofs.Common.{◌≡◌, ℕ, length, map, drop}
use Rattle.wvalues.specs.Meaning.{Meaning}
use Rattle.wcalls.proofs.PartitionFacts.{put_in}
use Rattle.wcalls.proofs.row_function.keep_numbers.Given as goal

abbrev pub invariant-loop-number : goal.invariant-loop-number
invariant-loop-number g l =
    record {
      long : length l.kept ≡ length l.fn.kept;
      put : (meant : ℕ → Meaning) → put_in (λ p rows place. meant (g.T.RowFunction.number_for l.call p rows place))
          l.arranged.partitions.now l.arranged.order.now (map meant l.kept) (drop l.number l.arranged.partitions.now.spans)
          ≡ put_in (λ p rows place. meant (g.T.RowFunction.number_for l.call p rows place)) l.arranged.partitions.now
          l.arranged.order.now (map meant l.fn.kept) l.arranged.partitions.now.spans;
    }
