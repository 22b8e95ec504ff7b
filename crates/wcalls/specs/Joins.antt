-- How many joins the functions of a window may take.
use Rattle.std.specs.Prelude.{ℕ, List, sum_by}
use Rattle.wframe.specs.declared.frame.FrameExclusion.{FrameExclusion}
use Rattle.wslide.specs.Frames.{most_by_queues}
use Rattle.wplan.specs.Plans.{FunctionPlan, RowNumber, Rank, DenseRank, Tile, Lag, Lead, FirstValue, LastValue, NthValue, Aggregated}

-- the most joins of a function over so many rows: where it is an aggregate, those of one fold of each row's frame
abbrev pub most_of_function : FrameExclusion → ℕ → FunctionPlan → ℕ
most_of_function exclusion rows (Aggregated a) = most_by_queues exclusion rows
most_of_function exclusion rows RowNumber = 0
most_of_function exclusion rows Rank = 0
most_of_function exclusion rows DenseRank = 0
most_of_function exclusion rows (Tile n) = 0
most_of_function exclusion rows (Lag t n d) = 0
most_of_function exclusion rows (Lead t n d) = 0
most_of_function exclusion rows (FirstValue t) = 0
most_of_function exclusion rows (LastValue t) = 0
most_of_function exclusion rows (NthValue t n) = 0

-- the most joins of all functions of a window: each aggregate folds the frames once
abbrev pub most_of_functions : FrameExclusion → ℕ → List FunctionPlan → ℕ
most_of_functions exclusion rows functions = sum_by (most_of_function exclusion rows) functions
