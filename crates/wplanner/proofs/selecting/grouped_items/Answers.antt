use Rattle.std.proofs.Common.{◌≡◌, ◌<◌, length, sym, ap, ◌∙◌, arith}
use Rattle.std.proofs.lemmas.List.{length-map}
use Rattle.wplan.specs.Plans.{grouping_plan}
use Rattle.wrows.specs.Laid.{row_seen, rows_in, rows_seen}
use Rattle.wplanner.proofs.SelectFacts.{groups_few}
use Rattle.wplanner.proofs.selecting.grouped_items.Goals as goal

pub left_items-requires-clause-few : goal.left_items-requires-clause-few
left_items-requires-clause-few c =
    let few : length (rows_in c.in_ok-groups.groups) < 2147483648 =
    groups_few (grouping_plan c.args.grouping.now) (rows_seen c.args.kept.now) (rows_in c.in_ok-groups.groups)
    c.in_ok-groups.ensures.rows in
    let same : length c.deref.result.now ≡ length (rows_in c.in_ok-groups.groups) =
    sym (length-map c.deref.result.now row_seen) ∙ ap (λ l. length (rows_seen l)) c.deref.ensures.value
    ∙ ap length c.in_ok-left.ensures in
    omega (arith, few, same)
