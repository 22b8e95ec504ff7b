-- What a call with OVER answers for each row (<window function>).
use Rattle.std.specs.Prelude.{List, length, Result}
use Rattle.wvalues.specs.Meaning.{Meaning, Null}
use Rattle.wplaces.specs.Ranks.{row_number_of, rank_of, dense_rank_of}
use Rattle.wplaces.specs.Tile.{tile_of}
use Rattle.wplaces.specs.RowPlaces.{lag_place, lead_place, first_place, last_place, nth_place}
use Rattle.wplan.specs.Plans.{WindowPlan, FunctionPlan, RowNumber, Rank, DenseRank, Tile}
use Rattle.wplan.specs.Plans.{Lag, Lead, FirstValue, LastValue, NthValue, Aggregated}
use Rattle.wrows.specs.declared.fault.AnswerFault.{AnswerFault}
use Rattle.wrows.specs.Outcomes.{◌>>=◌, each}
use Rattle.wrows.specs.Columns.{Row, in_range}
use Rattle.waggregate.specs.Aggregating.{feed_of, aggregate_of}
use Rattle.wcalls.specs.Windows.{Windowed, windowed, partition_rows, partition_at, place_at, frame_of}
use Rattle.wcalls.specs.Calls.{each_row, numbers, values_read}

-- the column of a function on rows
abbrev pub function_column : List Row → Windowed → FunctionPlan → Result (List Meaning) AnswerFault
function_column rows w RowNumber = numbers w (λ i. row_number_of (partition_at w i) (place_at w i))
function_column rows w Rank = numbers w (λ i. rank_of (partition_at w i) (place_at w i))
function_column rows w DenseRank = numbers w (λ i. dense_rank_of (partition_at w i) (place_at w i))
function_column rows w (Tile n) = numbers w (λ i. tile_of (length (partition_rows w i)) n (place_at w i))
function_column rows w (Lag t n d) = values_read w t rows d (λ i. lag_place n (place_at w i))
function_column rows w (Lead t n d) = values_read w t rows d (λ i. lead_place (length (partition_rows w i)) n (place_at w i))
function_column rows w (FirstValue t) = values_read w t rows Null (λ i. first_place (partition_at w i) (place_at w i))
function_column rows w (LastValue t) = values_read w t rows Null (λ i. last_place (partition_at w i) (place_at w i))
function_column rows w (NthValue t n) = values_read w t rows Null (λ i. nth_place (partition_at w i) n (place_at w i))
function_column rows w (Aggregated a) = feed_of a rows >>= λ feed. in_range (each_row w (λ i. aggregate_of a.function feed (frame_of w i)))

-- the columns of several functions of a window on rows
abbrev pub window_columns : WindowPlan → List FunctionPlan → List Row → Result (List (List Meaning)) AnswerFault
window_columns window functions rows = windowed rows window >>= λ w. each (function_column rows w) functions
