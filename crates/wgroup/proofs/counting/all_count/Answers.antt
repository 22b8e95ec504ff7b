use Rattle.std.proofs.Common.{◌≡◌, ◌+◌, ◌&&◌, drop, map, subst, refl, sym, ap, ◌∙◌}
use Rattle.std.specs.List.{AllByRecursion, list_all}
use Rattle.wplan.specs.Plans.{group_call_plan}
use Rattle.wgroup.specs.Counting.{is_counted, row_count}
use Rattle.wgroup.proofs.ColumnFacts.{drop_next, drop_whole}
use Rattle.wgroup.proofs.counting.all_count.Goals as goal

pub loop-call-init : goal.loop-call-init
loop-call-init c = record { exact = refl; counts = λ all. all }

pub loop-call-preserved : goal.loop-call-preserved
loop-call-preserved c =
    let next = drop_next c.args.calls.now c.loop-call.call-index c.call-item.result c.loop-call-test.true c.call-item.is in
    record {
      exact = c.loop-call.invariant.exact ∙ ap (list_all is_counted) next
          ∙ ap (λ b. b && list_all is_counted (drop (c.loop-call.call-index + 1) c.args.calls.now)) (sym c.counts.ensures.exact ∙ c.if-not-counts.false);
      counts = λ all. c.loop-call.invariant.counts (subst (λ l. AllByRecursion (λ c. c ≡ row_count) (map group_call_plan l))
          (sym next) (c.counts.ensures.counts c.if-not-counts.false, all));
    }

pub returns-then-not-counts-clause-exact : goal.returns-then-not-counts-clause-exact
returns-then-not-counts-clause-exact c =
    let next = drop_next c.args.calls.now c.loop-call.call-index c.call-item.result c.loop-call-test.true c.call-item.is in
    sym (c.loop-call.invariant.exact ∙ ap (list_all is_counted) next
    ∙ ap (λ b. b && list_all is_counted (drop (c.loop-call.call-index + 1) c.args.calls.now)) (sym c.counts.ensures.exact ∙ c.if-not-counts.true))

pub returns-clause-exact : goal.returns-clause-exact
returns-clause-exact c =
    sym (c.loop-call.invariant.exact ∙ ap (list_all is_counted) (drop_whole c.loop-call.call-index c.args.calls.now
    c.loop-call-test.false))

pub returns-clause-counts : goal.returns-clause-counts
returns-clause-counts c = λ e. c.loop-call.invariant.counts (subst (λ l. AllByRecursion (λ c. c ≡ row_count) (map group_call_plan l))
    (sym (drop_whole c.loop-call.call-index c.args.calls.now c.loop-call-test.false)) tt)
