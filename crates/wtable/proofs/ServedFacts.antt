-- Which windows have an order of the table's rows.
use Rattle.std.proofs.Common.{◌≡◌, ◌⊎◌, inl, inr, ℕ, suc, ◌<◌, ◌≤◌, ◌+◌, ◌==◌, ◌&&◌, ◌||◌, Bool, true, false, not, List, [], ◌∷◌, ◌++◌, length}
use Rattle.std.proofs.Common.{None, get_or, take, length-append, nat_le, true≢false, refl, sym, ap, ◌∙◌, subst, arith}
use Rattle.std.specs.Prelude.{All}
use Rattle.std.specs.List.{list_any}
use Rattle.std.specs.Option.{is_some}
use Rattle.std.proofs.lemmas.Bool.{leb-true}
use Rattle.std.proofs.lemmas.Bool.Decides.{nat_tests}
use Rattle.std.proofs.lemmas.List.Elements.{All-more, All-nil, All-weaker}
use Rattle.std.proofs.lemmas.List.{length-map}
use Rattle.wvalues.specs.declared.key.SortKey.{SortKey}
use Rattle.wplan.specs.Formula.{At, Formula}
use Rattle.wplan.specs.declared.resolved.ResolvedWindow.{ResolvedWindow}
use Rattle.wplan.specs.declared.resolved.Selection.{Selection}
use Rattle.wtable.specs.Few.{asks_for_order, asks_for_orders}
use Rattle.wtable.specs.TableOrders.{AreColumns, HasOrder, IsServed, shares}
use Rattle.wtable.specs.declared.orders.TableOrder.{TableOrder}

-- there are as many keys as values
pub columns_long : (width : ℕ) (values : List Formula) (order keys : List SortKey) → AreColumns width values order keys
    → length keys ≡ length values
columns_long width values order keys are = omega (arith, ap length are.named, length-map keys (λ (k : SortKey). At k.col))

any_has : (w : ResolvedWindow) (ts : List TableOrder) → list_any (shares w) ts ≡ true → HasOrder w ts
any_has w [] h = absurd (true≢false (sym h))
any_has w (t ∷ ts) h = go (shares w t) refl h (any_has w ts)
  where
    go : (b : Bool) → shares w t ≡ b → (b || list_any (shares w) ts) ≡ true → (list_any (shares w) ts ≡ true → HasOrder w ts)
        → HasOrder w (t ∷ ts)
    go true e k rest = inr (inl e)
    go false e k rest = inr (inr (rest k))

has_more : (w : ResolvedWindow) (ts us : List TableOrder) → HasOrder w ts → HasOrder w (ts ++ us)
has_more w [] us h = absurd h
has_more w (t ∷ ts) us (inl e) = inl e
has_more w (t ∷ ts) us (inr (inl e)) = inr (inl e)
has_more w (t ∷ ts) us (inr (inr h)) = inr (inr (has_more w ts us h))

has_own : (w : ResolvedWindow) (ts : List TableOrder) (t : TableOrder) → t.window.now ≡ w → HasOrder w (ts ++ t ∷ [])
has_own w [] t e = inl e
has_own w (x ∷ ts) t e = inr (inr (has_own w ts t e))

-- one of the orders is shared, or there are as many as are taken
pub served_is : (width : ℕ) (w : ResolvedWindow) (ts : List TableOrder) → (nat_le 4 (length ts) || list_any (shares w) ts) ≡ true
    → IsServed width ts w
served_is width w ts h = λ _. go (nat_le 4 (length ts)) refl h
  where
    go : (b : Bool) → nat_le 4 (length ts) ≡ b → (b || list_any (shares w) ts) ≡ true → (4 ≤ length ts) ⊎ HasOrder w ts
    go true e k = inl (leb-true 4 (length ts) e)
    go false e k = inr (any_has w ts k)

-- an order of its own was added
pub served_own : (width : ℕ) (w : ResolvedWindow) (ts us : List TableOrder) (t : TableOrder) → us ≡ ts ++ t ∷ [] → t.window.now ≡ w
    → IsServed width us w
served_own width w ts us t is e = λ _. inr (subst (HasOrder w) (sym is) (has_own w ts t e))

-- an order more was added
pub served_more : (width : ℕ) (w : ResolvedWindow) (ts us : List TableOrder) (t : TableOrder) → us ≡ ts ++ t ∷ []
    → IsServed width ts w → IsServed width us w
served_more width w ts us t is served = λ by. subst (λ l. (4 ≤ length l) ⊎ HasOrder w l) (sym is) (go (served by))
  where
    go : (4 ≤ length ts) ⊎ HasOrder w ts → (4 ≤ length (ts ++ t ∷ [])) ⊎ HasOrder w (ts ++ t ∷ [])
    go (inl four) = inl (omega (arith, four, length-append ts (t ∷ [])))
    go (inr h) = inr (has_more w ts (t ∷ []) h)

-- one window more
pub served_next : (ws : List ResolvedWindow) (i width wide : ℕ) (ts us : List TableOrder) (w : ResolvedWindow) → i < length ws
    → width ≡ wide → All (IsServed wide ts) (take i ws) → ((x : ResolvedWindow) → IsServed width ts x → IsServed width us x)
    → IsServed width us w → w ≡ get_or ws i w → All (IsServed wide us) (take (i + 1) ws)
served_next ws i width wide ts us w within e so_far still served is =
    All-more (IsServed wide us) ws i w within
    (All-weaker (IsServed wide ts) (IsServed wide us) (subst (λ n. (x : ResolvedWindow) → IsServed n ts x → IsServed n us x) e still)
    (take i ws) so_far) (subst (IsServed wide us) is (subst (λ n. IsServed n us w) e served))

not_zero : (n : ℕ) → (suc n == 0) ≡ false
not_zero n = grind (arith, nat_tests)

some : (n : ℕ) (b : Bool) → (not (suc n == 0) || b) ≡ true
some n b = rw (not_zero n) refl

-- a SELECT that groups nothing and asks for no orders has no windows
pub none_asked : (P : ResolvedWindow → Type 0) (s : Selection) → asks_for_orders s ≡ false → s.grouping ≡ None → All P s.windows.items
none_asked P s none ungrouped =
    go s.windows.items (ap (λ g. not (is_some g) && (not (length s.windows.items == 0) || asks_for_order s)) (sym ungrouped) ∙ none)
  where
    go : (ws : List ResolvedWindow) → (not (length ws == 0) || asks_for_order s) ≡ false → All P ws
    go [] h = All-nil P
    go (w ∷ ws) h = absurd (true≢false (sym (some (length ws) (asks_for_order s)) ∙ h))
