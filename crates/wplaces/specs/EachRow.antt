-- Columns of answers.
use Rattle.std.specs.Prelude.{ℕ, List, length, map}
use Rattle.wframe.specs.Partition.{Partition}
use Rattle.wframe.specs.Places.{places}

-- one answer for each row of a partition, in its order
abbrev pub each_row : {X : Type 0} → Partition → (ℕ → X) → List X
each_row p answer = map answer (places (length p.keys))
