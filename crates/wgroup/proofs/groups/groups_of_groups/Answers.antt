use Rattle.std.proofs.Common.{◌≡◌, ◌<◌, All, Some, length, map, get_or, sym, ap, subst, ◌∙◌, arith}
use Rattle.std.proofs.lemmas.List.{length-map}
use Rattle.wframe.specs.Peers.{key_at}
use Rattle.wrows.specs.Laid.{row_seen, rows_seen}
use Rattle.wgroup.specs.Grouping.{agree, groups_by, set_columns}
use Rattle.wgroup.specs.Sight.{IsSight}
use Rattle.wgroup.specs.Held.{by_row, row_numbers}
use Rattle.wgroup.proofs.CoarserFacts.{agree_on_part, coarser_groups_are}
use Rattle.wgroup.proofs.KeyFacts.{columns_long}
use Rattle.wgroup.proofs.MadeFacts.{as_many_rows, joined_rows, made_of_groups, seen_of_groups}
use Rattle.wgroup.proofs.SeenFacts.{agree_equiv}
use Rattle.wgroup.proofs.SightFacts.{as_many_numbers, firsts_fewer, firsts_within}
use Rattle.wgroup.proofs.groups.groups_of_groups.Goals as goal

pub sighted_groups-requires : goal.sighted_groups-requires
sighted_groups-requires c =
    let rows = rows_seen c.args.rows.now in
    let finer = c.args.finer.now in
    let few = c.in_ok-few.few.items in
    let long : length few ≡ length finer.firsts.items
    = sym (length-map few row_seen) ∙ ap length (c.in_ok-few.ensures ∙ ap (map (key_at rows)) c.deref.ensures.value)
    ∙ length-map finer.firsts.items (key_at rows) in
    let fewer = firsts_fewer (agree (set_columns c.args.columns.now finer.set.items) rows) (length c.args.rows.now)
    finer.firsts.items (row_numbers finer) c.requires.kept.sight in
    omega (arith, ap length c.deref-3.ensures.value, long, fewer, c.requires.few)

pub numbers_at-requires : goal.numbers_at-requires
numbers_at-requires c =
    let rows = rows_seen c.args.rows.now in
    let finer = c.args.finer.now in
    let few = c.in_ok-few.few.items in
    let long : length few ≡ length finer.firsts.items
    = sym (length-map few row_seen) ∙ ap length (c.in_ok-few.ensures ∙ ap (map (key_at rows)) c.deref.ensures.value)
    ∙ length-map finer.firsts.items (key_at rows) in
    subst (λ l. All (λ i. i < length c.deref-4.result.now) l) (sym c.deref-5.ensures.value)
    (subst (λ n. All (λ i. i < n) c.in_ok-sight.sight.firsts.items) (ap length c.deref-3.ensures.value ∙ long
    ∙ ap length (sym c.deref-4.ensures.value))
    (firsts_within (agree c.deref-2.result.now (rows_seen c.deref-3.result.now)) (length c.deref-3.result.now)
    c.in_ok-sight.sight.firsts.items c.in_ok-sight.sight.numbers.items c.in_ok-sight.ensures))

pub finer_of-requires : goal.finer_of-requires
finer_of-requires c = λ l e.
    let rows = rows_seen c.args.rows.now in
    let finer = c.args.finer.now in
    let few = c.in_ok-few.few.items in
    let long : length c.deref-3.result.now ≡ finer.count
    = ap length c.deref-3.ensures.value ∙ sym (length-map few row_seen)
    ∙ ap length (c.in_ok-few.ensures ∙ ap (map (key_at rows)) c.deref.ensures.value) ∙ length-map finer.firsts.items
    (key_at rows) ∙ sym c.requires.kept.as_many in
    let many = as_many_numbers (agree c.deref-2.result.now (rows_seen c.deref-3.result.now)) (length c.deref-3.result.now)
    c.in_ok-sight.sight.firsts.items c.in_ok-sight.sight.numbers.items c.in_ok-sight.ensures in
    subst (λ n. All (λ i. i < n) l.numbers.items) (sym (many ∙ long)) (c.requires.linked l e).0

pub keyed_groups-requires : goal.keyed_groups-requires
keyed_groups-requires c =
    let columns = c.args.columns.now in
    let set = c.args.set.now in
    let rows = rows_seen c.args.rows.now in
    let finer = c.args.finer.now in
    let few = c.in_ok-few.few.items in
    let seen = c.in_ok-sight.sight in
    let kept = set_columns columns set in
    let picked : rows_seen few ≡ map (key_at rows) finer.firsts.items =
    c.in_ok-few.ensures ∙ ap (map (key_at rows)) c.deref.ensures.value in
    let long : length few ≡ length finer.firsts.items = sym (length-map few row_seen) ∙ ap length picked
    ∙ length-map finer.firsts.items (key_at rows) in
    subst (λ k. IsSight (agree k rows) (length c.args.rows.now) c.in_ok-firsts.firsts.items
    (by_row c.in_ok-numbers.numbers.value.items (Some c.in_ok-made.made))) (sym (c.deref-6.ensures.value ∙ c.in_ok-kept.ensures))
    (coarser_groups_are kept (set_columns columns finer.set.items) rows (rows_seen few) (length c.args.rows.now)
    finer.firsts.items (row_numbers finer) seen.firsts.items seen.numbers.items c.in_ok-firsts.firsts.items
    (by_row c.in_ok-numbers.numbers.value.items (Some c.in_ok-made.made)) (agree_on_part columns set finer.set.items rows
    c.requires.part) c.requires.kept.sight picked
    (subst (λ n. IsSight (agree kept (rows_seen few)) n seen.firsts.items seen.numbers.items) long
    (subst (λ k. IsSight (agree k (rows_seen few)) (length few) seen.firsts.items seen.numbers.items)
    (c.deref-2.ensures.value ∙ c.in_ok-kept.ensures)
    (subst (λ l. IsSight (agree c.deref-2.result.now (rows_seen l)) (length l) seen.firsts.items seen.numbers.items)
    c.deref-3.ensures.value c.in_ok-sight.ensures)))
    (c.in_ok-firsts.ensures ∙ ap (λ l. map (λ i. get_or l i 0) c.deref-5.result.now) c.deref-4.ensures.value
    ∙ ap (map (λ i. get_or finer.firsts.items i 0)) c.deref-5.ensures.value)
    (ap (λ v. by_row v.items (Some c.in_ok-made.made)) c.in_ok-numbers.ensures.cases
    ∙ joined_rows c.args.place seen.numbers.items finer.numbers.value.items finer.finer c.in_ok-made.made
    c.in_ok-made.ensures (λ l e. (c.requires.linked l e).1)))

pub returns-clause-groups : goal.returns-clause-groups
returns-clause-groups c =
    let rows = rows_seen c.args.rows.now in
    c.in_ok-groups.ensures.groups ∙ ap (λ k. groups_by c.args.set.now k rows) (c.deref-6.ensures.value ∙ c.in_ok-kept.ensures)

pub returns-clause-width : goal.returns-clause-width
returns-clause-width c =
    c.in_ok-groups.ensures.width ∙ ap length (c.deref-6.ensures.value ∙ c.in_ok-kept.ensures)
    ∙ columns_long c.args.columns.now c.args.set.now

pub returns-clause-len : goal.returns-clause-len
returns-clause-len c =
    let finer = c.args.finer.now in
    ap length (c.in_ok-groups.ensures.keyed.numbered ∙ ap (λ v. v.items) c.in_ok-numbers.ensures.cases) ∙ as_many_rows finer
    ∙ as_many_numbers (agree (set_columns c.args.columns.now finer.set.items) (rows_seen c.args.rows.now))
    (length c.args.rows.now) finer.firsts.items (row_numbers finer) c.requires.kept.sight

pub returns-clause-seen : goal.returns-clause-seen
returns-clause-seen c =
    let columns = c.args.columns.now in
    let set = c.args.set.now in
    let rows = rows_seen c.args.rows.now in
    let finer = c.args.finer.now in
    let few = c.in_ok-few.few.items in
    let seen = c.in_ok-sight.sight in
    let kept = set_columns columns set in
    let picked : rows_seen few ≡ map (key_at rows) finer.firsts.items =
    c.in_ok-few.ensures ∙ ap (map (key_at rows)) c.deref.ensures.value in
    let long : length few ≡ length finer.firsts.items = sym (length-map few row_seen) ∙ ap length picked
    ∙ length-map finer.firsts.items (key_at rows) in
    seen_of_groups c.args.columns.now set c.args.rows.now c.in_ok-firsts.firsts.items c.in_ok-numbers.numbers.value.items
    c.in_ok-groups.groups c.in_ok-made.made c.in_ok-groups.ensures.keyed
    (coarser_groups_are kept (set_columns columns finer.set.items) rows (rows_seen few) (length c.args.rows.now)
    finer.firsts.items (row_numbers finer) seen.firsts.items seen.numbers.items c.in_ok-firsts.firsts.items
    (by_row c.in_ok-numbers.numbers.value.items (Some c.in_ok-made.made)) (agree_on_part columns set finer.set.items rows
    c.requires.part) c.requires.kept.sight picked
    (subst (λ n. IsSight (agree kept (rows_seen few)) n seen.firsts.items seen.numbers.items) long
    (subst (λ k. IsSight (agree k (rows_seen few)) (length few) seen.firsts.items seen.numbers.items)
    (c.deref-2.ensures.value ∙ c.in_ok-kept.ensures)
    (subst (λ l. IsSight (agree c.deref-2.result.now (rows_seen l)) (length l) seen.firsts.items seen.numbers.items)
    c.deref-3.ensures.value c.in_ok-sight.ensures)))
    (c.in_ok-firsts.ensures ∙ ap (λ l. map (λ i. get_or l i 0) c.deref-5.result.now) c.deref-4.ensures.value
    ∙ ap (map (λ i. get_or finer.firsts.items i 0)) c.deref-5.ensures.value)
    (ap (λ v. by_row v.items (Some c.in_ok-made.made)) c.in_ok-numbers.ensures.cases
    ∙ joined_rows c.args.place seen.numbers.items finer.numbers.value.items finer.finer c.in_ok-made.made
    c.in_ok-made.ensures (λ l e. (c.requires.linked l e).1)))

pub returns-clause-made : goal.returns-clause-made
returns-clause-made c = λ earlier at how.
    let rows = rows_seen c.args.rows.now in
    let finer = c.args.finer.now in
    let few = c.in_ok-few.few.items in
    let seen = c.in_ok-sight.sight in
    let same = agree c.deref-2.result.now (rows_seen c.deref-3.result.now) in
    let long : length c.deref-3.result.now ≡ finer.count
    = ap length c.deref-3.ensures.value ∙ sym (length-map few row_seen)
    ∙ ap length (c.in_ok-few.ensures ∙ ap (map (key_at rows)) c.deref.ensures.value) ∙ length-map finer.firsts.items
    (key_at rows) ∙ sym c.requires.kept.as_many in
    made_of_groups c.args.columns.now c.args.set.now c.args.rows.now c.in_ok-firsts.firsts.items
    c.in_ok-numbers.numbers.value.items c.in_ok-groups.groups c.args.place finer c.in_ok-made.made same
    seen.firsts.items seen.numbers.items c.in_ok-groups.ensures.keyed
    (subst (λ n. IsSight same n seen.firsts.items seen.numbers.items) long c.in_ok-sight.ensures)
    (agree_equiv c.deref-2.result.now (rows_seen c.deref-3.result.now)) c.in_ok-made.ensures c.requires.kept.base
    (ap (λ v. v.items) c.in_ok-numbers.ensures.cases)
    (ap length (c.in_ok-firsts.ensures) ∙ length-map c.deref-5.result.now (λ i. get_or c.deref-4.result.now i 0)
    ∙ ap length c.deref-5.ensures.value) earlier at how
