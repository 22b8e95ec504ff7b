-- Where batches of partitions end.
use Rattle.std.specs.Prelude.{ℕ, ◌-◌, ◌<◌, ◌≤◌, List, length}
use Rattle.wframe.specs.declared.frame.Span.{Span}
use Rattle.wframe.specs.Places.{span_at}

-- so many rows are enough for a batch
abbrev pub enough : ℕ
enough = 4096

-- how many rows the partitions have from one on and up to another
abbrev pub rows_between : List Span → ℕ → ℕ → ℕ
rows_between spans from to = (span_at spans (to - 1)).to - (span_at spans from).from

-- partitions that follow each other have enough rows, unless they are the last ones, and without the last of them not enough
pub record EndsInTime (spans : List Span) (from to : ℕ) : Type 0 where
  pub late : to < length spans → enough ≤ rows_between spans from to
  pub soon : (earlier : ℕ) → from < earlier → earlier < to → rows_between spans from earlier < enough
