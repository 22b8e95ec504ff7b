use Rattle.std.specs.Prelude.{◌+◌, ◌*◌, ◌≤◌, length}
use Rattle.wruns.specs.Grouping.{AreGrouped}
use Rattle.wruns.proofs.run.group_ends.Given as goal

abbrev pub invariant-loop-place : goal.invariant-loop-place
invariant-loop-place l = record {
  -- the groups that have ended, and one that has not
  grouped : AreGrouped l.table.keys.now l.table.segment.now.rows l.rows l.ends.items l.first l.place;
  few : (length l.ends.items + 1) * 2 ≤ length l.rows;
}
