use Rattle.std.proofs.Common.{◌<◌, length}
use Rattle.std.proofs.lemmas.List.Elements.{recursion_from_All}
use Rattle.wslide.proofs.Picked.{fed_alike, count_alike, rows_alike, sum_alike}
use Rattle.wslide.proofs.laws.picked_rows_feed_alike.Goals as goal

pub returns-clause-feed : goal.returns-clause-feed
returns-clause-feed c = fed_alike

pub returns-clause-count : goal.returns-clause-count
returns-clause-count c = λ values filter rows places all. count_alike values filter rows places
    (recursion_from_All (λ place. place < length rows) places all)

pub returns-clause-rows : goal.returns-clause-rows
returns-clause-rows c = λ filter rows places all. rows_alike filter rows places
    (recursion_from_All (λ place. place < length rows) places all)

pub returns-clause-sum : goal.returns-clause-sum
returns-clause-sum c = λ values filter rows places all. sum_alike values filter rows places
    (recursion_from_All (λ place. place < length rows) places all)
