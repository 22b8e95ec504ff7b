use Rattle.std.proofs.Common.{ap, arith, length, map, subst, sym, ◌≡◌, ◌-◌, ◌∙◌, ◌≤◌, ℕ}
use Rattle.std.proofs.lemmas.List.{drop_all}
use Rattle.wquery.specs.QueryTree.{view_item}
use Rattle.wscope.specs.Sources.{all_titled, answered}
use Rattle.wspots.specs.Made.{IsTold}
use Rattle.wspots.proofs.Asked.{none_told, told_behind, told_here, told_nowhere}
use Rattle.wspots.proofs.names.find_written.Goals as goal

pub returns-then-is_some-clause-told : goal.returns-then-is_some-clause-told
returns-then-is_some-clause-told c =
    let long : c.len.result ≡ length c.deref-select-items.result.now = omega (arith, c.len.ensures, c.deref-select-items.ensures.len) in
    told_here c.args.written c.args.rule c.args.query.now c.selects.place c.deref-select-items.result.now c.select-item.result
    c.selects.columns.items c.selects-test.true c.select-item.is c.selects.invariant c.in_ok-found.found
    ((c.len.result - 1) - c.selects.place) (ap (λ (n : ℕ). (n - 1) - c.selects.place) long)
    (sym c.is_some.ensures ∙ c.if-is_some.true)
    (subst (λ cs. IsTold c.args.written cs c.select-item.result.now ((c.len.result - 1) - c.selects.place) c.args.rule c.in_ok-found.found)
    c.as_slice.ensures.value c.in_ok-found.ensures.told)

pub returns-then-count_items-gt-MOST_ITEMS-clause-told :
    goal.returns-then-count_items-gt-MOST_ITEMS-clause-told
returns-then-count_items-gt-MOST_ITEMS-clause-told c =
    let long : c.len.result ≡ length c.deref-select-items.result.now = omega (arith, c.len.ensures, c.deref-select-items.ensures.len) in
    let wide : c.len-in-selects.result ≡ length c.selects.columns.items = c.len-in-selects.ensures ∙ c.selects.columns.ok.0 in
    told_nowhere c.args.written c.args.rule c.args.query.now c.selects.place c.deref-select-items.result.now c.select-item.result
    c.selects.columns.items c.selects-test.true c.select-item.is c.selects.invariant c.in_ok-found.found
    ((c.len.result - 1) - c.selects.place) c.count_items.result c.len-in-selects.result c.as_slice-in-selects.result.now
    (ap (λ (n : ℕ). (n - 1) - c.selects.place) long)
    (sym c.is_some.ensures ∙ c.if-is_some.false)
    (subst (λ cs. IsTold c.args.written cs c.select-item.result.now ((c.len.result - 1) - c.selects.place) c.args.rule c.in_ok-found.found)
    c.as_slice.ensures.value c.in_ok-found.ensures.told)
    c.count_items.ensures wide c.as_slice-in-selects.ensures.value
    c.if-count_items-gt-MOST_ITEMS.true

pub selects-preserved : goal.selects-preserved
selects-preserved c =
    let long : c.len.result ≡ length c.deref-select-items.result.now = omega (arith, c.len.ensures, c.deref-select-items.ensures.len) in
    let wide : c.len-in-selects.result ≡ length c.selects.columns.items = c.len-in-selects.ensures ∙ c.selects.columns.ok.0 in
    let few : c.count_items.result ≤ 64 = omega (arith, c.if-count_items-gt-MOST_ITEMS.false) in
    told_behind c.args.written c.args.rule c.args.query.now c.selects.place c.deref-select-items.result.now c.select-item.result
    c.selects.columns.items c.selects-test.true c.select-item.is c.selects.invariant c.in_ok-found.found
    ((c.len.result - 1) - c.selects.place) c.count_items.result c.len-in-selects.result c.as_slice-in-selects.result.now
    c.in_ok-items.items.items (ap (λ (n : ℕ). (n - 1) - c.selects.place) long)
    (sym c.is_some.ensures ∙ c.if-is_some.false)
    (subst (λ cs. IsTold c.args.written cs c.select-item.result.now ((c.len.result - 1) - c.selects.place) c.args.rule c.in_ok-found.found)
    c.as_slice.ensures.value c.in_ok-found.ensures.told)
    c.count_items.ensures wide c.as_slice-in-selects.ensures.value few
    (c.in_ok-items.ensures
    ∙ ap (λ cs. answered (all_titled cs) (map view_item c.as_slice-in-selects-3.result.now)) c.as_slice-in-selects-2.ensures.value
    ∙ ap (λ is. answered (all_titled c.selects.columns.items) (map view_item is)) c.as_slice-in-selects-3.ensures.value)

pub returns-clause-told : goal.returns-clause-told
returns-clause-told c = none_told c.args.written c.args.rule c.args.query.now c.selects.place c.deref-select-items.result.now
    c.selects.columns.items (drop_all c.selects.place c.deref-select-items.result.now (omega (arith, c.selects-test.false)))
    c.selects.invariant
