-- Some partitions of a window at a time.
use Rattle.std.specs.Prelude.{ℕ, List, slice_range}
use Rattle.wframe.specs.declared.frame.Span.{Span}
use Rattle.wframe.specs.Places.{span_at}
use Rattle.waggregate.specs.declared.batch.Batch.{Batch}

-- the partitions of a batch
abbrev pub batch_spans : Batch → List Span
batch_spans b = slice_range b.partitions.now.spans b.numbers.from b.numbers.to

-- where the first of them begins
abbrev pub batch_start : Batch → ℕ
batch_start b = (span_at b.partitions.now.spans b.numbers.from).from
