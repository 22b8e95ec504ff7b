use Rattle.std.proofs.Common.{List, Result, length, map, refl, subst, ap, ◌∙◌}
use Rattle.std.proofs.lemmas.List.{length-map}
use Rattle.wplan.specs.Plans.{output_plan, select_plan}
use Rattle.wrows.specs.declared.fault.AnswerFault.{AnswerFault}
use Rattle.wrows.specs.Outcomes.{Gives}
use Rattle.wrows.specs.Columns.{Row, beside}
use Rattle.wrows.specs.Laid.{formulas_seen, row_seen, rows_in, rows_seen}
use Rattle.wtable.proofs.ColumnFacts.{below_keys}
use Rattle.wplanner.proofs.PlanFacts.{items_from}
use Rattle.wplanner.proofs.selecting.presorted_items_of.Goals as goal

pub presorted_items-requires : goal.presorted_items-requires
presorted_items-requires c = below_keys (select_plan c.args.select.now).keys (rows_seen c.args.columns.now)
    (rows_seen c.args.rows.now) c.args.numbers.items (length c.args.rows.now) c.requires (length-map c.args.rows.now row_seen)

pub returns-clause-rows : goal.returns-clause-rows
returns-clause-rows c =
    let s = c.args.select.now in
    let P : Result (List Row) AnswerFault → Type 0 = λ meant. Gives rows_in c.presorted_items.result meant in
    subst P (items_from s (formulas_seen c.deref-2.result.now) (map (λ k. k.value) (select_plan s).keys)
    (map (λ k. k.order) (select_plan s).keys) (beside (rows_seen c.args.rows.now) (rows_seen c.args.columns.now))
    (ap formulas_seen c.deref-2.ensures.value ∙ c.in_ok-items.ensures.values
    ∙ ap (λ xs. map (λ o. o.value) (map output_plan xs)) c.deref.ensures.value) refl refl)
    (rw (c.asked_of.ensures.offset, c.asked_of.ensures.limit) at (c.presorted_items.ensures.rows
    (map (λ k. k.value) (select_plan s).keys) (map (λ k. k.order) (select_plan s).keys) c.requires))
