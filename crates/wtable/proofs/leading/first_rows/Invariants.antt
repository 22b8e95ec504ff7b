use Rattle.std.proofs.Common.{◌≡◌, ◌<◌, List, ◌++◌, length}
use Rattle.std.specs.List.{flat_map}
use Rattle.wrows.specs.Columns.{Row}
use Rattle.wtable.specs.Leading.{HasGone, Lead}
use Rattle.wtable.specs.Tables.{rows_of_set}
use Rattle.wtable.proofs.leading.first_rows.Given as goal

-- the rows that were gone over, with those of the segments that are left, are all rows
abbrev pub invariant-segments : goal.invariant-segments
invariant-segments l = record {
  leads : (all : List Row) × Lead l.keys l.most all l.leading × HasGone l.leading (length all)
      × (all ++ flat_map (λ e. e.1.rows) l.kept-iterator ≡ rows_of_set l.set);
  few : length l.leading.rows.items < 2048;
}
