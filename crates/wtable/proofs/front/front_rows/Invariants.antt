use Rattle.std.proofs.Common.{◌≡◌, ◌-◌, ◌++◌, length, take}
use Rattle.wrows.specs.Laid.{rows_seen}
use Rattle.wtable.specs.Tables.{rows_of_set}
use Rattle.wtable.proofs.HeldFacts.{rows_left}
use Rattle.wtable.proofs.front.front_rows.Given as goal

-- the rows so far, with those of the segments that are left up to as many, are the first of all
abbrev pub invariant-segments : goal.invariant-segments
invariant-segments l =
    rows_seen l.rows.items ++ take (l.most - length (rows_seen l.rows.items)) (rows_left l.segment-iterator) ≡ take l.most (rows_of_set l.set)
