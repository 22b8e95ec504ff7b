use Rattle.std.proofs.Common.{◌≡◌, ◌*◌, ◌<◌, length, map, All, subst, refl, sym, ap, ◌∙◌}
use Rattle.wframe.specs.Peers.{key_at}
use Rattle.wrows.specs.LaidRows.{laid}
use Rattle.wrows.specs.Plain.{numbers_by}
use Rattle.wrows.specs.Sorting.{ascending}
use Rattle.wrows.specs.Laid.{rows_seen}
use Rattle.wgroup.specs.Grouping.{SetColumns, group_key, groups_by}
use Rattle.wgroup.specs.Held.{by_row}
use Rattle.std.specs.Ordering.{on}
use Rattle.wvalues.specs.Order.{keys_cmp}
use Rattle.wframe.specs.Places.{places}
use Rattle.wframe.specs.Sorting.{sorted}
use Rattle.wgroup.proofs.KeyFacts.{length_ascending}
use Rattle.wgroup.proofs.GroupFacts.{are_groups}
use Rattle.wgroup.proofs.groups.keyed_groups.Goals as goal

pub invariant_of-result-clause-laid : goal.invariant_of-result-clause-laid
invariant_of-result-clause-laid c =
    let count : c.len-count.result ≡ length c.args.firsts.items = c.len-count.ensures ∙ c.args.firsts.ok.0 in
    c.in_ok-keys.ensures.laid ∙ ap (λ m. m * length c.args.kept.now) (ap length c.deref.ensures.value ∙ sym count)

pub invariant_of-result-clause-below : goal.invariant_of-result-clause-below
invariant_of-result-clause-below c = subst (λ m. All (λ i. i < m) c.in_ok-order.order.items) (c.len.ensures
    ∙ sym c.len-count.ensures) c.in_ok-order.ensures.below

pub returns-clause-groups : goal.returns-clause-groups
returns-clause-groups c =
    let seen = rows_seen c.args.rows.now in
    let kept : SetColumns = c.args.kept.now in
    let w = length kept in
    let firsts = c.args.firsts.items in
    let numbers = by_row c.args.numbers.value.items c.args.finer in
    let keys = c.in_ok-keys.keys.items in
    let order = c.in_ok-order.order.items in
    let m = c.len.result in
    let count : m ≡ length firsts = c.len.ensures ∙ c.args.firsts.ok.0 in
    let so_many : c.len-count.result ≡ length firsts = c.len-count.ensures ∙ c.args.firsts.ok.0 in
    let are_keys : laid w (length firsts) keys ≡ map (group_key kept seen) firsts
    = ap (λ f. laid w (length f) keys) (sym c.deref.ensures.value) ∙ c.in_ok-keys.ensures.keys
    ∙ ap (map (group_key kept seen)) c.deref.ensures.value in
    let in_order : order ≡ numbers_by (ascending kept) (laid w (length firsts) keys) (length firsts)
    = c.in_ok-order.ensures.order
    ∙ ap (λ ks. numbers_by ks (laid (length ks) m c.deref-2.result.now) m) (c.deref-3.ensures.value ∙ c.in_ok-ascending.ensures)
    ∙ ap (λ k. numbers_by (ascending kept) (laid k m c.deref-2.result.now) m) (length_ascending kept)
    ∙ ap (λ xs. numbers_by (ascending kept) (laid w m xs) m) c.deref-2.ensures.value
    ∙ ap (λ k. numbers_by (ascending kept) (laid w k keys) k) count in
    are_groups kept c.args.rows.now c.in_ok-set.set.items firsts order numbers keys c.len-count.result c.requires are_keys so_many
    in_order (subst (λ k. All (λ i. i < k) order) count c.in_ok-order.ensures.below)
    ∙ ap (λ s. groups_by s kept seen) c.in_ok-set.ensures.items

pub returns-clause-keyed : goal.returns-clause-keyed
returns-clause-keyed c =
    let so_many : c.len-count.result ≡ length c.args.firsts.items = c.len-count.ensures ∙ c.args.firsts.ok.0 in
    let by = c.deref-3.result.now in
    let keys = laid (length by) c.len.result c.deref-2.result.now in
    record {
      of_set = c.in_ok-set.ensures.items;
      kept = c.few_firsts-firsts.ensures;
      numbered = refl;
      of_finer = refl;
      as_many = so_many;
      ordered = (
        on (key_at keys) (keys_cmp by),
        c.in_ok-order.ensures.order
            ∙ ap (λ n. sorted (on (key_at keys) (keys_cmp by)) (places n)) (c.len.ensures ∙ sym c.len-count.ensures),
      );
    }
