use Rattle.std.proofs.Common.{arith}
use Rattle.wtable.specs.Tables.{rows_of_set}
use Rattle.wtable.proofs.CountedFacts.{kept_all, kept_many}
use Rattle.wtable.proofs.counting.kept_count.Goals as goal

pub returns-then-count-gt-MOST_ROWS-clause-refused : goal.returns-then-count-gt-MOST_ROWS-clause-refused
returns-then-count-gt-MOST_ROWS-clause-refused c = kept_many (rows_of_set c.args.set.now) c.row_count-count.result
    c.row_count-count.ensures c.if-count-gt-MOST_ROWS.true

pub returns-clause-kept : goal.returns-clause-kept
returns-clause-kept c = (kept_all (rows_of_set c.args.set.now) c.row_count-count.result c.row_count-count.ensures
    (λ h. omega (arith, h, c.if-count-gt-MOST_ROWS.false))).0

pub returns-clause-count : goal.returns-clause-count
returns-clause-count c = (kept_all (rows_of_set c.args.set.now) c.row_count-count.result c.row_count-count.ensures
    (λ h. omega (arith, h, c.if-count-gt-MOST_ROWS.false))).1

pub returns-clause-few : goal.returns-clause-few
returns-clause-few c = omega (arith, c.if-count-gt-MOST_ROWS.false)
