use Rattle.std.proofs.Common.{ℕ, ◌+◌, List, ◌++◌, ◌<◌, length, take}
use Rattle.wrows.specs.Columns.{Row}
use Rattle.wtable.specs.Leading.{HasGone, Lead}
use Rattle.wtable.proofs.leading.push_all.Given as goal

abbrev pub invariant-loop-row : goal.invariant-loop-row
invariant-loop-row l = record {
  leads : (all : List Row) → Lead l.keys l.most all l.fn.leading → Lead l.keys l.most (all ++ take l.row l.segment.rows) l.leading;
  few : length l.fn.leading.rows.items < 2048 → length l.leading.rows.items < 2048;
  gone : (gone : ℕ) → HasGone l.fn.leading gone → HasGone l.leading (gone + l.row);
}
