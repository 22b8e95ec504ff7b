use Rattle.std.proofs.Common.{◌≡◌, ◌++◌, length, map}
use Rattle.std.specs.List.{flat_map}
use Rattle.wset.specs.Running.{live_rows}
use Rattle.wrows.specs.Laid.{rows_seen}
use Rattle.wtable.specs.TableOrders.{starts_from}
use Rattle.wtable.specs.Tables.{rows_of_set}
use Rattle.wtable.proofs.numbered_rows.all_rows.Given as goal

-- the rows so far, with those of the segments that are left, are all rows
abbrev pub invariant-segments : goal.invariant-segments
invariant-segments l = record {
  so_far : rows_seen l.rows.items ++ flat_map (λ e. e.1.rows) l.segment-iterator ≡ rows_of_set l.set;
  starts : l.starts.items ++ starts_from (length l.rows.items) (map (λ e. e.1.rows) l.segment-iterator) ≡ starts_from 0 (live_rows l.set);
}
