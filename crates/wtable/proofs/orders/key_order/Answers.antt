use Rattle.std.proofs.Common.{◌≡◌, List, Vec, Global, length, map, subst, ap, sym, ◌∙◌}
use Rattle.std.specs.List.{AllByRecursion}
use Rattle.wvalues.specs.declared.key.SortKey.{SortKey}
use Rattle.wplan.specs.Plans.{KeyPlan, key_plan}
use Rattle.wruns.specs.Refs.{refs_by}
use Rattle.wruns.specs.Runs.{joined}
use Rattle.wset.specs.Running.{live_rows}
use Rattle.wtable.specs.TableOrders.{AreColumns, by_keys}
use Rattle.wtable.proofs.ColumnFacts.{keys_given, order_had, some_presorted}
use Rattle.wtable.proofs.LiveFacts.{live_wide}
use Rattle.wtable.proofs.orders.key_order.Goals as goal

pub returns-clause-order : goal.returns-clause-order
returns-clause-order c = λ columns.
    let s = c.args.set.now in
    let plans : List KeyPlan = map key_plan c.args.select.now.keys.items in
    let w = length c.columns-width.result.now in
    let keys = c.in-Some.keys.items in
    let wide : w ≡ length s.schema.columns = ap length (c.columns-width.ensures.columns ∙ ap (λ d. d.columns) c.schema.ensures.schema) in
    let are : AreColumns w (map (λ (k : KeyPlan). k.value) plans) (map (λ (k : KeyPlan). k.order) plans) keys =
    subst (λ l. AreColumns w (map (λ (k : KeyPlan). k.value) (map key_plan l))
    (map (λ (k : KeyPlan). k.order) (map key_plan l)) keys) c.deref.ensures.value
    (some_presorted (λ (k : Vec SortKey Global). AreColumns w
    (map (λ (k : KeyPlan). k.value) (map key_plan c.deref.result.now))
    (map (λ (k : KeyPlan). k.order) (map key_plan c.deref.result.now)) k.items) c.in_ok-found.found c.in-Some.keys
    c.in-Some.is c.in_ok-found.ensures.keys) in
    order_had w (live_rows s) (by_keys plans columns) keys c.in_ok-rows.rows.items c.kept_rows_stay_in_order.ensures
    (subst (λ n. AllByRecursion (λ row. length row ≡ n) (joined (live_rows s))) (sym wide) (live_wide s))
    (keys_given w plans keys are columns)
    (c.in_ok-rows.ensures.list ∙ ap (λ k. refs_by k (live_rows s)) c.deref-2.ensures.value)
