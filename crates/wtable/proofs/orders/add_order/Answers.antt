use Rattle.std.proofs.Common.{◌≡◌, ◌||◌, true, nat_le, refl, Vec, Global, ◌∷◌, ◌++◌, [], filter, length, subst, sym, ap, ◌∙◌, ◌+◌, arith}
use Rattle.std.specs.List.{list_any}
use Rattle.std.proofs.lemmas.Bool.{eqb-true}
use Rattle.std.proofs.lemmas.List.{length_push}
use Rattle.std.proofs.lemmas.List.Elements.{All-append, All-cons, All-nil, All-same}
use Rattle.wvalues.specs.declared.key.SortKey.{SortKey}
use Rattle.wplan.specs.Plans.{window_plan}
use Rattle.wruns.specs.Differing.{AllDiffer}
use Rattle.wruns.specs.Refs.{refs_by}
use Rattle.wruns.specs.Runs.{joined}
use Rattle.wset.specs.Running.{live_rows}
use Rattle.wtable.specs.TableOrders.{AreWindowKeys, IsTableOrder, by_window, shares}
use Rattle.wtable.proofs.ColumnFacts.{order_had, some_presorted}
use Rattle.wtable.proofs.LiveFacts.{live_same, live_wide}
use Rattle.wtable.proofs.ServedFacts.{served_is, served_more, served_own}
use Rattle.wtable.proofs.orders.add_order.Goals as goal

pub keys_differ-requires : goal.keys_differ-requires
keys_differ-requires c =
    let segments = live_rows c.args.set.now in
    let stay : live_rows c.ordered.new.self ≡ segments = live_same c.args.set.now c.ordered.new.self c.in_ok-rows.ensures.same in
    c.deref-4.ensures.value ∙ c.in_ok-rows.ensures.list
    ∙ ap (λ k. refs_by k segments) (c.deref-2.ensures.value ∙ sym c.deref-3.ensures.value)
    ∙ ap (refs_by c.deref-3.result.now) (sym stay)

pub returns-clause-orders : goal.returns-clause-orders
returns-clause-orders c =
    let s = c.args.set.now in
    let segments = live_rows s in
    let keys = c.in-Some.keys.items in
    let plan = window_plan c.args.window.now in
    let are : AreWindowKeys plan keys = some_presorted {X = Vec SortKey Global} (λ (k : Vec SortKey Global). AreWindowKeys plan k.items)
    c.in_ok-found.found c.in-Some.keys c.in-Some.is c.in_ok-found.ensures.keys in
    let found = c.in_ok-rows.rows.items in
    let list : found ≡ refs_by keys segments = c.in_ok-rows.ensures.list ∙ ap (λ k. refs_by k segments)
    c.deref-2.ensures.value in
    let stay : live_rows c.ordered.new.self ≡ segments = live_same s c.ordered.new.self c.in_ok-rows.ensures.same in
    let told = c.in_ok-unique_keys.ensures in
    let differ : c.in_ok-unique_keys.unique_keys ≡ true → AllDiffer keys (joined segments) = λ known.
    subst (λ k. AllDiffer k (joined segments)) c.deref-3.ensures.value
    (subst (λ l. AllDiffer c.deref-3.result.now (joined l)) stay (told.differ known)) in
    All-same (IsTableOrder segments) c.push.new.self.items (c.args.orders.now.items ++ _ ∷ []) c.in_ok-push.ensures.items
    (All-append (IsTableOrder segments) c.args.orders.now.items (_ ∷ []) c.requires
    (All-cons (IsTableOrder segments) _ [] (record {
      order = order_had (length s.schema.columns) segments (by_window plan) keys found
          c.kept_rows_stay_in_order.ensures (live_wide s) (λ rows w. are.order rows) list;
      differ = λ known holds. are.differ (told.whole known) (filter holds (joined segments))
          (c.kept_rows_differ.ensures holds keys (joined segments) (differ known));
    }) (All-nil (IsTableOrder segments))))

pub returns-clause-idle : goal.returns-clause-idle
returns-clause-idle c = λ same.
    let longer : length c.push.new.self.items ≡ length c.args.orders.now.items + 1 = ap length c.in_ok-push.ensures.items
    ∙ length_push c.args.orders.now.items _ in
    absurd (omega (arith, same, longer))

pub returns-then-is_served-clause-served : goal.returns-then-is_served-clause-served
returns-then-is_served-clause-served c =
    let w = c.args.window.now in
    served_is c.args.width w c.args.orders.now.items
    (subst (λ l. (nat_le 4 (length l) || list_any (shares w) l) ≡ true) c.deref.ensures.value
    (sym c.is_served.ensures ∙ c.if-is_served.true))

pub returns-clause-served : goal.returns-clause-served
returns-clause-served c =
    served_own c.args.width c.args.window.now c.args.orders.now.items c.push.new.self.items _ c.in_ok-push.ensures.items refl

pub returns-clause-still : goal.returns-clause-still
returns-clause-still c = λ w served.
    served_more c.args.width w c.args.orders.now.items c.push.new.self.items _ c.in_ok-push.ensures.items served

pub returns-then-is_empty-clause-served : goal.returns-then-is_empty-clause-served
returns-then-is_empty-clause-served c = λ by.
    let w = c.args.window.now in
    let long : length c.in-Some.keys.items ≡ length w.partition.items + length w.keys.items =
    some_presorted {X = Vec SortKey Global} (λ (k : Vec SortKey Global). length k.items ≡ length w.partition.items + length w.keys.items)
    c.in_ok-found.found c.in-Some.keys c.in-Some.is c.in_ok-found.ensures.long in
    let empty : c.in-Some.keys.len ≡ 0 = eqb-true _ 0 (sym c.if-is_empty.ensures) in
    absurd (omega (arith, by.some, long, empty, c.in-Some.keys.ok.0))
