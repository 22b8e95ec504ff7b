use Rattle.std.proofs.Common.{◌<◌, ◌^◌, List, Result, Vec, Global, length, map, sym, ap, ◌∙◌, subst}
use Rattle.std.specs.Prelude.{All}
use Rattle.std.proofs.lemmas.List.{length-map}
use Rattle.wvalues.specs.Meaning.{Meaning}
use Rattle.wcolumns.specs.Columns.{column_seen}
use Rattle.wcolumns.specs.Near.{IsNear}
use Rattle.wcolumns.specs.declared.column.Column.{Column}
use Rattle.wplan.specs.Plans.{window_plan}
use Rattle.wrows.specs.declared.fault.AnswerFault.{AnswerFault}
use Rattle.wrows.specs.Outcomes.{Gives, each}
use Rattle.wrows.specs.Laid.{row_seen, rows_seen}
use Rattle.wrows.proofs.RowFacts.{then_ok}
use Rattle.wcalls.specs.Arranged.{IsArranged}
use Rattle.wcalls.specs.Functions.{function_column}
use Rattle.wcalls.specs.Lent.{functions_seen}
use Rattle.wcalls.specs.Windows.{windowed}
use Rattle.wcalls.proofs.WindowedFacts.{opened, rows_long}
use Rattle.wcalls.proofs.function_columns.window_columns.Goals as goal

pub invariant_of-arranged-clause-listed : goal.invariant_of-arranged-clause-listed
invariant_of-arranged-clause-listed c =
    let rows = rows_seen c.args.rows.now in
    let plan = window_plan c.args.window.now in
    ap length c.rows-numbers.ensures.rows ∙ rows_long rows plan c.args.order.now
    (opened rows plan c.args.order.now c.requires.order) ∙ length-map c.args.rows.now row_seen

pub invariant_of-arranged-clause-below : goal.invariant_of-arranged-clause-below
invariant_of-arranged-clause-below c = subst (λ l. All (λ i. i < length l) l) (sym c.rows-numbers.ensures.rows) c.rows-numbers.ensures.below

pub invariant_of-arranged-clause-few : goal.invariant_of-arranged-clause-few
invariant_of-arranged-clause-few c = subst (λ n. n < 2 ^ 31) (sym (invariant_of-arranged-clause-listed c)) c.requires.few

pub invariant_of-arranged-clause-copies : goal.invariant_of-arranged-clause-copies
invariant_of-arranged-clause-copies c = subst (λ near. All (IsNear c.args.rows.now) near) (sym c.deref.ensures.value) c.in_ok-near.ensures

pub returns-clause-columns : goal.returns-clause-columns
returns-clause-columns c =
    let rows = rows_seen c.args.rows.now in
    let plan = window_plan c.args.window.now in
    let fs = functions_seen c.args.functions.now in
    let p = opened rows plan c.args.order.now c.requires.order in
    let view : Vec Column Global → List (List Meaning) = λ columns. map column_seen columns.items in
    let P : Result (List (List Meaning)) AnswerFault → Type 0 = λ meant. Gives view c.every_column.result meant in
    let arranged : IsArranged p.window c.rows-numbers.result.now c.in_ok-partitions.partitions
    = subst (λ order. IsArranged p.window order c.in_ok-partitions.partitions) (sym c.rows-numbers.ensures.rows)
    (c.in_ok-partitions.ensures.arranged p.window p.order_is (c.frame_of.ensures ∙ sym p.frame)) in
    subst P (sym (then_ok p.window (windowed rows plan) (λ w. each (function_column rows w) fs) p.is))
    (c.every_column.ensures.columns p.window arranged)
