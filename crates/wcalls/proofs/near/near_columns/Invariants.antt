use Rattle.std.specs.Prelude.{All}
use Rattle.wcolumns.specs.Near.{IsNear}
use Rattle.wcalls.proofs.near.near_columns.Given as goal

abbrev pub invariant-loop-function : goal.invariant-loop-function
invariant-loop-function l = All (IsNear l.rows) l.near.items
