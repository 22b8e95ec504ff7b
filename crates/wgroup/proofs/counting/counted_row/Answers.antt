use Rattle.std.proofs.Common.{◌≡◌, ◌+◌, [], ◌∷◌, length, map, pos, take, take_all, subst, sym, ap, ◌∙◌, arith}
use Rattle.std.proofs.lemmas.List.{length-map}
use Rattle.std.proofs.lemmas.Result.{IfOk-weaker}
use Rattle.wvalues.specs.Meaning.{Int, Meaning, meaning}
use Rattle.wplan.specs.Plans.{group_call_plan, grouping_plan}
use Rattle.wrows.specs.Columns.{held_rows}
use Rattle.wrows.specs.Laid.{rows_in}
use Rattle.wrows.specs.Outcomes.{Gives}
use Rattle.wrows.proofs.RowFacts.{map-map}
use Rattle.wgroup.proofs.CountFacts.{rows_counted}
use Rattle.wgroup.proofs.counting.counted_row.Goals as goal

pub invariant_of-row : goal.invariant_of-row
invariant_of-row c =
    let g = c.args.grouping.now in
    let calls = g.calls.items in
    let cells = c.in_ok-cells.cells.items in
    let count : Meaning = Int (pos c.args.count) in
    let is : map meaning cells ≡ map (λ x. count) calls = c.in_ok-cells.ensures ∙ ap (map (λ x. count)) c.deref.ensures.value in
    let width : c.len.result ≡ length calls = c.len.ensures ∙ g.calls.ok.0 in
    record { laid = omega (arith, length-map cells meaning, length-map calls (λ x. count), ap length is, width) }

pub returns-clause-rows : goal.returns-clause-rows
returns-clause-rows c = λ rows long.
    let g = c.args.grouping.now in
    let calls = g.calls.items in
    let cells = c.in_ok-cells.cells.items in
    let plan = grouping_plan g in
    let count : Meaning = Int (pos c.args.count) in
    let is : map meaning cells ≡ map (λ x. count) calls = c.in_ok-cells.ensures ∙ ap (map (λ x. count)) c.deref.ensures.value in
    let width : c.len.result ≡ length calls = c.len.ensures ∙ g.calls.ok.0 in
    let told : map meaning (take c.len.result cells) ≡ map (λ x. count) plan.calls
    = ap (map meaning) (take_all c.len.result cells (omega (
      arith,
      length-map cells meaning,
      length-map calls (λ x. count),
      ap length is,
      width,
    ))) ∙ is ∙ sym (map-map (λ x. count) group_call_plan calls) in
    subst (Gives rows_in c.rows_held.result) (sym (rows_counted rows c.args.count long plan c.requires.counts
    ∙ ap (λ l. held_rows plan.having (l ∷ [])) (sym told))) c.rows_held.ensures.rows

pub returns-clause-width : goal.returns-clause-width
returns-clause-width c =
    let g = c.args.grouping.now in
    let width : c.len.result ≡ length g.columns.items + length g.calls.items =
    omega (arith, c.len.ensures, g.calls.ok.0, ap length c.requires.counts.columns) in
    IfOk-weaker c.rows_held.result _ _ (λ held e. e ∙ width) c.rows_held.ensures.width
