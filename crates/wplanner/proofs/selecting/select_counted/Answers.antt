use Rattle.std.proofs.Common.{◌≡◌, ◌<◌, Err, length, subst, sym, ap, ◌∙◌, arith}
use Rattle.std.proofs.lemmas.List.{length-map}
use Rattle.std.proofs.lemmas.Result.{err_from_is_err_and}
use Rattle.wplan.specs.Plans.{grouping_plan, select_plan}
use Rattle.wrows.specs.Laid.{row_seen, rows_in, rows_seen}
use Rattle.wrows.specs.Outcomes.{Gives}
use Rattle.wrows.proofs.RowFacts.{then_ok, then_refused}
use Rattle.wgroup.specs.Grouping.{group_rows}
use Rattle.wplanner.specs.Answers.{left_items}
use Rattle.wtable.specs.Tables.{rows_of_set}
use Rattle.wplanner.proofs.CountedFacts.{select_counted, select_refused}
use Rattle.wplanner.proofs.SelectFacts.{groups_few}
use Rattle.wplanner.proofs.selecting.select_counted.Goals as goal

pub returns-in_err-count-clause-rows : goal.returns-in_err-count-clause-rows
returns-in_err-count-clause-rows c =
    let p = err_from_is_err_and c.from_residual.result c.from_residual.ensures.1 in
    rw (p.1, p.2) (select_refused (select_plan c.args.select.now) (grouping_plan c.args.grouping.now)
    (rows_of_set c.args.set.now) c.requires.all c.requires.own rows_in c.in_err-count.field-0.0 c.in_err-count.ensures.refused)

pub returns-in_err-groups-clause-rows : goal.returns-in_err-groups-clause-rows
returns-in_err-groups-clause-rows c =
    let p = err_from_is_err_and c.from_residual-in_err-groups.result c.from_residual-in_err-groups.ensures.1 in
    let plan = select_plan c.args.select.now in
    let g = grouping_plan c.args.grouping.now in
    let rows = rows_of_set c.args.set.now in
    let fault = c.in_err-groups.field-0.0 in
    rw (p.1, p.2) (subst (Gives rows_in (Err fault))
    (sym (select_counted plan g rows c.requires.all c.requires.own c.in_ok-count.ensures.kept))
    (then_refused rows_in rows_in fault (group_rows g rows) (λ left. left_items plan left)
    (c.in_err-groups.ensures.rows rows c.in_ok-count.ensures.count)))

pub left_items-requires-clause-few : goal.left_items-requires-clause-few
left_items-requires-clause-few c =
    let groups = c.in_ok-groups.groups in
    let few : length (rows_in groups) < 2147483648 =
    groups_few (grouping_plan c.args.grouping.now) (rows_of_set c.args.set.now) (rows_in groups)
    (c.in_ok-groups.ensures.rows (rows_of_set c.args.set.now) c.in_ok-count.ensures.count) in
    let same : length c.deref.result.now ≡ length (rows_in groups) = sym (length-map c.deref.result.now row_seen)
    ∙ ap (λ l. length (rows_seen l)) c.deref.ensures.value ∙ ap length c.in_ok-left.ensures in
    omega (arith, few, same)

pub returns-clause-rows : goal.returns-clause-rows
returns-clause-rows c =
    let plan = select_plan c.args.select.now in
    let g = grouping_plan c.args.grouping.now in
    let rows = rows_of_set c.args.set.now in
    let groups = rows_in c.in_ok-groups.groups in
    let seen : rows_seen c.deref.result.now ≡ groups = ap rows_seen c.deref.ensures.value ∙ c.in_ok-left.ensures in
    subst (Gives rows_in c.left_items.result)
    (sym (select_counted plan g rows c.requires.all c.requires.own c.in_ok-count.ensures.kept
    ∙ then_ok groups (group_rows g rows) (λ left. left_items plan left)
    (c.in_ok-groups.ensures.rows rows c.in_ok-count.ensures.count) ∙ ap (left_items plan) (sym seen)))
    c.left_items.ensures.rows
