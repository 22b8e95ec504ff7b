use Rattle.std.proofs.Common.{◌≡◌, map, take}
use Rattle.wtable.specs.TableOrders.{all_present, number_among, number_in}
use Rattle.wtable.proofs.numbered_rows.presorted_numbers.Given as goal

abbrev pub invariant-loop-row : goal.invariant-loop-row
invariant-loop-row l = l.numbers.items ≡ all_present
    (map (λ r. number_among l.kept.numbers (number_in l.kept.starts.items r)) (take l.row-index l.rows))
