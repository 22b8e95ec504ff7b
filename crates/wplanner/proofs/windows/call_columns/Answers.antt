use Rattle.std.proofs.Common.{◌∷◌, [], map, ap, ◌∙◌}
use Rattle.std.proofs.lemmas.List.{map-append}
use Rattle.wcolumns.specs.Columns.{column_seen, columns_in, columns_seen}
use Rattle.wcolumns.specs.declared.column.LentColumn.{LentColumn}
use Rattle.wplanner.proofs.SelectFacts.{column_answered}
use Rattle.wplanner.proofs.windows.call_columns.Goals as goal

pub loop-number-preserved : goal.loop-number-preserved
loop-number-preserved c =
    column_answered (map columns_in c.args.answers.now) c.args.calls.now c.loop-number.number c.index-calls-number.result
    (columns_seen c.loop-number.columns.items) (columns_seen c.push.new.self.items) (column_seen c.column_over-column.result.now)
    c.loop-number-test.true c.index-calls-number.is c.loop-number.invariant
    (ap columns_seen c.in_ok-push.ensures.items
    ∙ map-append (λ (lent : LentColumn). column_seen lent.column.now) c.loop-number.columns.items (_ ∷ []))
    (rw c.count_over-earlier.ensures at c.column_over-column.ensures)
