use Rattle.std.proofs.Common.{◌≡◌, map, drop}
use Rattle.std.specs.List.{AllByRecursion, list_all}
use Rattle.wplan.specs.Plans.{group_call_plan}
use Rattle.wgroup.specs.Counting.{is_counted, row_count}
use Rattle.wgroup.proofs.counting.all_count.Given as goal

-- where those that are left count, all do
abbrev pub invariant-loop-call : goal.invariant-loop-call
invariant-loop-call l = record {
  exact : list_all is_counted l.calls ≡ list_all is_counted (drop l.call-index l.calls);
  counts : AllByRecursion (λ c. c ≡ row_count) (map group_call_plan (drop l.call-index l.calls))
      → AllByRecursion (λ c. c ≡ row_count) (map group_call_plan l.calls);
}
