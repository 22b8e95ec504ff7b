use Rattle.std.proofs.Common.{◌≡◌, ◌++◌, length, map}
use Rattle.std.specs.List.{flat_map}
use Rattle.wplan.specs.Formula.{formula}
use Rattle.wset.specs.Running.{live_rows}
use Rattle.wrows.specs.Columns.{holds_on}
use Rattle.wrows.specs.Laid.{rows_seen}
use Rattle.wtable.specs.TableOrders.{numbers_kept, starts_from}
use Rattle.wtable.specs.Tables.{rows_of_set}
use Rattle.wtable.proofs.HeldFacts.{HeldSoFar}
use Rattle.wtable.proofs.numbered_rows.rows_where.Given as goal

-- the rows of the segments that are left, beside those that are held
abbrev pub invariant-segments : goal.invariant-segments
invariant-segments l = record {
  held : HeldSoFar (formula l.condition.expr.now) (rows_of_set l.set) (rows_seen l.rows.items) l.segment-iterator;
  numbers : l.numbers.items ++ numbers_kept (holds_on (formula l.condition.expr.now)) (length l.rows.items)
      (flat_map (λ e. e.1.rows) l.segment-iterator) ≡ numbers_kept (holds_on (formula l.condition.expr.now)) 0 (rows_of_set l.set);
  starts : l.starts.items ++ starts_from (length l.numbers.items) (map (λ e. e.1.rows) l.segment-iterator)
      ≡ starts_from 0 (live_rows l.set);
}
