use Rattle.std.proofs.Common.{◌≡◌, ◌++◌, Ok, Vec, Global, arith, length, length-append, map, subst, sym, ap, ◌∙◌}
use Rattle.wvalues.specs.declared.key.SortKey.{SortKey}
use Rattle.wplan.specs.Formula.{formula}
use Rattle.wplan.specs.Plans.{KeyPlan, key_plan, window_plan}
use Rattle.wrows.specs.Sorting.{ascending}
use Rattle.wruns.specs.Runs.{run_of}
use Rattle.wtable.specs.TableOrders.{AreColumns}
use Rattle.std.proofs.lemmas.List.{length-map}
use Rattle.wtable.proofs.ServedFacts.{columns_long}
use Rattle.wtable.proofs.ColumnFacts.{some_presorted, window_presorted}
use Rattle.wtable.proofs.DifferFacts.{window_differs}
use Rattle.wtable.proofs.orders.window_columns.Goals as goal

pub returns-clause-keys : goal.returns-clause-keys
returns-clause-keys c =
    let w = c.args.width in
    let plan = window_plan c.args.window.now in
    let first : AreColumns w plan.partition (ascending plan.partition) c.in-Some.keys.items =
    subst (λ l. AreColumns w (map formula l) (ascending (map formula l)) c.in-Some.keys.items) c.deref.ensures.value
    (some_presorted (λ (k : Vec SortKey Global). AreColumns w (map formula c.deref.result.now)
    (ascending (map formula c.deref.result.now)) k.items) c.in_ok-partition.partition c.in-Some.keys c.in-Some.is
    c.in_ok-partition.ensures.keys) in
    let then : AreColumns w (map (λ (k : KeyPlan). k.value) plan.keys) (map (λ (k : KeyPlan). k.order) plan.keys)
    c.in-Some-others.others.items =
    subst (λ l. AreColumns w (map (λ (k : KeyPlan). k.value) (map key_plan l))
    (map (λ (k : KeyPlan). k.order) (map key_plan l)) c.in-Some-others.others.items) c.deref-2.ensures.value
    (some_presorted (λ (k : Vec SortKey Global). AreColumns w
    (map (λ (k : KeyPlan). k.value) (map key_plan c.deref-2.result.now))
    (map (λ (k : KeyPlan). k.order) (map key_plan c.deref-2.result.now)) k.items) c.in_ok-others.others
    c.in-Some-others.others c.in-Some-others.is c.in_ok-others.ensures.keys) in
    let both : c.extend_from_slice.new.self.items ≡ c.in-Some.keys.items ++ c.in-Some-others.others.items =
    c.in_ok-extend_from_slice.ensures.items ∙ ap (λ l. c.in-Some.keys.items ++ l) c.deref-3.ensures.value in
    record {
      order = λ rows. window_presorted w plan c.in-Some.keys.items c.in-Some-others.others.items first then
          c.runs_order_windows.ensures rows ∙ ap (λ l. Ok (run_of l rows)) (sym both);
      differ = window_differs w plan c.in-Some.keys.items c.in-Some-others.others.items c.extend_from_slice.new.self.items first
          then both;
    }

pub returns-clause-long : goal.returns-clause-long
returns-clause-long c =
    let w = c.args.width in
    let plan = window_plan c.args.window.now in
    let first : AreColumns w plan.partition (ascending plan.partition) c.in-Some.keys.items =
    subst (λ l. AreColumns w (map formula l) (ascending (map formula l)) c.in-Some.keys.items) c.deref.ensures.value
    (some_presorted (λ (k : Vec SortKey Global). AreColumns w (map formula c.deref.result.now)
    (ascending (map formula c.deref.result.now)) k.items) c.in_ok-partition.partition c.in-Some.keys c.in-Some.is
    c.in_ok-partition.ensures.keys) in
    let then : AreColumns w (map (λ (k : KeyPlan). k.value) plan.keys) (map (λ (k : KeyPlan). k.order) plan.keys)
    c.in-Some-others.others.items =
    subst (λ l. AreColumns w (map (λ (k : KeyPlan). k.value) (map key_plan l))
    (map (λ (k : KeyPlan). k.order) (map key_plan l)) c.in-Some-others.others.items) c.deref-2.ensures.value
    (some_presorted (λ (k : Vec SortKey Global). AreColumns w
    (map (λ (k : KeyPlan). k.value) (map key_plan c.deref-2.result.now))
    (map (λ (k : KeyPlan). k.order) (map key_plan c.deref-2.result.now)) k.items) c.in_ok-others.others
    c.in-Some-others.others c.in-Some-others.is c.in_ok-others.ensures.keys) in
    let both : c.extend_from_slice.new.self.items ≡ c.in-Some.keys.items ++ c.in-Some-others.others.items =
    c.in_ok-extend_from_slice.ensures.items ∙ ap (λ l. c.in-Some.keys.items ++ l) c.deref-3.ensures.value in
    omega (
      arith,
      ap length both,
      length-append c.in-Some.keys.items c.in-Some-others.others.items,
      columns_long w plan.partition (ascending plan.partition) c.in-Some.keys.items first,
      columns_long w (map (λ (k : KeyPlan). k.value) plan.keys) (map (λ (k : KeyPlan). k.order) plan.keys) c.in-Some-others.others.items then,
      length-map c.args.window.now.partition.items formula,
      length-map plan.keys (λ (k : KeyPlan). k.value),
      length-map c.args.window.now.keys.items key_plan,
    )
