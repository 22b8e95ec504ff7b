use Rattle.std.proofs.Common.{length, sym, ap, subst, ◌∙◌}
use Rattle.wrows.specs.Laid.{rows_seen}
use Rattle.wgroup.specs.Grouping.{agree, groups_by}
use Rattle.wgroup.specs.Sight.{IsSight}
use Rattle.wgroup.proofs.KeyFacts.{columns_long}
use Rattle.wgroup.proofs.MadeFacts.{made_of_rows, seen_of_rows}
use Rattle.wgroup.proofs.SightFacts.{as_many_numbers}
use Rattle.wgroup.proofs.groups.groups_of_rows.Goals as goal

pub keyed_groups-requires : goal.keyed_groups-requires
keyed_groups-requires c =
    let rows = rows_seen c.args.rows.now in
    let sight = c.in_ok-sight.ensures in
    let seen : IsSight (agree c.deref.result.now rows) (length c.args.rows.now) c.in_ok-sight.sight.firsts.items
    c.in_ok-numbers.numbers.value.items
    = record { are_firsts = sight.are_firsts; are_numbers = c.in_ok-numbers.ensures ∙ sight.are_numbers } in
    subst (λ k. IsSight (agree k rows) (length c.args.rows.now) c.in_ok-sight.sight.firsts.items
    c.in_ok-numbers.numbers.value.items) (c.deref.ensures.value ∙ sym c.deref-2.ensures.value) seen

pub returns-clause-groups : goal.returns-clause-groups
returns-clause-groups c =
    let rows = rows_seen c.args.rows.now in
    c.in_ok-groups.ensures.groups ∙ ap (λ k. groups_by c.args.set.now k rows) (c.deref-2.ensures.value ∙ c.in_ok-kept.ensures)

pub returns-clause-width : goal.returns-clause-width
returns-clause-width c =
    c.in_ok-groups.ensures.width ∙ ap length (c.deref-2.ensures.value ∙ c.in_ok-kept.ensures)
    ∙ columns_long c.args.columns.now c.args.set.now

pub returns-clause-len : goal.returns-clause-len
returns-clause-len c =
    let rows = rows_seen c.args.rows.now in
    ap length (c.in_ok-groups.ensures.keyed.numbered ∙ c.in_ok-numbers.ensures)
    ∙ as_many_numbers (agree c.deref.result.now rows) (length c.args.rows.now) c.in_ok-sight.sight.firsts.items
    c.in_ok-sight.sight.numbers.items c.in_ok-sight.ensures

pub returns-clause-seen : goal.returns-clause-seen
returns-clause-seen c =
    let rows = rows_seen c.args.rows.now in
    let sight = c.in_ok-sight.ensures in
    let seen : IsSight (agree c.deref.result.now rows) (length c.args.rows.now) c.in_ok-sight.sight.firsts.items
    c.in_ok-numbers.numbers.value.items
    = record { are_firsts = sight.are_firsts; are_numbers = c.in_ok-numbers.ensures ∙ sight.are_numbers } in
    seen_of_rows c.args.columns.now c.args.set.now c.args.rows.now c.in_ok-sight.sight.firsts.items
    c.in_ok-numbers.numbers.value.items c.in_ok-groups.groups c.in_ok-groups.ensures.keyed
    (subst (λ k. IsSight (agree k rows) (length c.args.rows.now) c.in_ok-sight.sight.firsts.items
    c.in_ok-numbers.numbers.value.items) (c.deref.ensures.value ∙ c.in_ok-kept.ensures) seen)

pub returns-clause-made : goal.returns-clause-made
returns-clause-made c =
    let rows = rows_seen c.args.rows.now in
    let sight = c.in_ok-sight.ensures in
    let seen : IsSight (agree c.deref.result.now rows) (length c.args.rows.now) c.in_ok-sight.sight.firsts.items
    c.in_ok-numbers.numbers.value.items
    = record { are_firsts = sight.are_firsts; are_numbers = c.in_ok-numbers.ensures ∙ sight.are_numbers } in
    made_of_rows c.args.columns.now c.args.set.now c.args.rows.now c.in_ok-sight.sight.firsts.items
    c.in_ok-numbers.numbers.value.items c.in_ok-groups.groups c.in_ok-groups.ensures.keyed
    (subst (λ k. IsSight (agree k rows) (length c.args.rows.now) c.in_ok-sight.sight.firsts.items
    c.in_ok-numbers.numbers.value.items) (c.deref.ensures.value ∙ c.in_ok-kept.ensures) seen)
