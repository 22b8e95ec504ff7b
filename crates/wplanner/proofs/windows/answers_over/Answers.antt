use Rattle.std.proofs.Common.{◌≡◌, ◌+◌, Bool, true, false, List, [], ◌∷◌, ◌++◌, cond, length, ap, ◌∙◌, arith}
use Rattle.std.specs.List.{list_any}
use Rattle.std.proofs.lemmas.List.{length-append}
use Rattle.wplan.specs.declared.resolved.ResolvedWindow.{ResolvedWindow}
use Rattle.wshare.specs.Sameness.{is_same_order}
use Rattle.wplanner.specs.declared.orders.KeptOrder.{KeptOrder}
use Rattle.wplanner.specs.KeptOrders.{with_shared}
use Rattle.wplanner.proofs.windows.answers_over.Goals as goal

-- one order more is kept where a later window shares it, and one less where one served
one_more : (later : List ResolvedWindow) (k : KeptOrder) (was kept now : List KeptOrder) (served : Bool)
    → length kept + cond served 1 0 ≡ length was → now ≡ with_shared later k kept
    → length now + cond served 1 0 ≡ length was + cond (list_any (is_same_order k.window.now) later) 1 0
one_more later k was kept now served h e = go (list_any (is_same_order k.window.now) later) e
  where
    go : (b : Bool) → now ≡ cond b (kept ++ (k ∷ [])) kept → length now + cond served 1 0 ≡ length was + cond b 1 0
    go true same =
        let long : length now ≡ length kept + 1 = ap length same ∙ length-append kept (k ∷ []) in
        let count : length now + cond served 1 0 ≡ length was + 1 = omega (arith, h, long) in
        count
    go false same =
        let long : length now ≡ length kept = ap length same in
        let count : length now + cond served 1 0 ≡ length was + 0 = omega (arith, h, long) in
        count

pub returns-clause-let_go : goal.returns-clause-let_go
returns-clause-let_go c = one_more c.args.later.now _ _ _ _ _ c.order_of.ensures.fewer c.in_ok-keep_shared.ensures.kept
