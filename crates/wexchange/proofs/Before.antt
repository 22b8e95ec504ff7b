-- What stands before a floor in a view is of smaller origins.
use Rattle.std.proofs.Common.{◌≡◌, Bool, true, false, cond, T, List, [], ◌∷◌, ◌++◌, None, Some, refl, sym, ap, ◌∙◌, subst, append_assoc}
use Rattle.std.proofs.lemmas.Bool.{and_from, or_left, or_right}
use Rattle.std.specs.List.{list_any}
use Rattle.std.specs.Ordering.{nat_cmp, ordering_then, ordering_reverse}
use Rattle.std.specs.Cmp.Lexicographic.{slice_cmp}
use Rattle.std.specs.declared.cmp.Ordering.{Ordering}
use Rattle.std.specs.declared.cmp.Ordering.TheVariants.{Less, Equal, Greater}
use Rattle.std.proofs.lemmas.Map.Lookups.{exact_bytes}
use Rattle.std.specs.FinMap.Entries.{below_all}
use Rattle.std.specs.FinMap.{entries, entries_sorted, find, get-entries, is_sorted}
use Rattle.wvalues.specs.Names.{NameParts, name_cmp, names_total}
use Rattle.wentries.specs.Knowledge.{Known, Floor, is_above, is_over, same_bytes, same_name}
use Rattle.wset.specs.Views.{View, IsSettled}
use Rattle.wentries.specs.Entries.{AreOriginsBelow}
use Rattle.wentries.proofs.Lows.{less_number, not_both}
use Rattle.wentries.proofs.Floors.{first, second, less, same_bytes-refl, same_name-refl, same_name-true}

below_later : (x : NameParts) (ws : List (NameParts × Known)) (e : NameParts × Known) (es : List (NameParts × Known))
    → T (below_all name_cmp x (ws ++ e ∷ es)) → name_cmp x e.0 ≡ Less
below_later x [] e es h = less _ (first _ _ h)
below_later x (w ∷ ws) e es h = below_later x ws e es (second _ _ h)

-- an entry of rising ones is found
find_at : (ws : List (NameParts × Known)) (e : NameParts × Known) (es : List (NameParts × Known))
    → T (is_sorted name_cmp (ws ++ e ∷ es)) → find name_cmp e.0 (ws ++ e ∷ es) ≡ Some e.1
find_at [] e es h = ap (λ b. cond b (Some e.1) (find name_cmp e.0 es)) (same_name-refl e.0)
find_at (w ∷ ws) e es h = by (same_name e.0 w.0) refl (find_at ws e es (second _ _ h))
  where
    low : name_cmp w.0 e.0 ≡ Less
    low = below_later w.0 ws e es (first _ _ h)

    by : (b : Bool) → same_name e.0 w.0 ≡ b → find name_cmp e.0 (ws ++ e ∷ es) ≡ Some e.1
        → find name_cmp e.0 (w ∷ (ws ++ e ∷ es)) ≡ Some e.1
    by true same rest =
        let is : e.0 ≡ w.0 = same_name-true e.0 w.0 same in
        let u : Less ≡ Greater = sym low ∙ names_total.antisymm w.0 e.0 ∙ ap ordering_reverse (ap (λ x. name_cmp x w.0) is
        ∙ ap (name_cmp w.0) (sym is) ∙ low) in
        absurd (not_both u)
    by false same rest = ap (λ b. cond b (Some w.1) (find name_cmp e.0 (ws ++ e ∷ es))) same ∙ rest

over_later : (q : NameParts) (ws : List (NameParts × Known)) (e : NameParts × Known) (es : List (NameParts × Known))
    → is_over q e ≡ true → list_any (is_over q) (ws ++ e ∷ es) ≡ true
over_later q [] e es h = or_left _ _ h
over_later q (w ∷ ws) e es h = or_right _ _ (over_later q ws e es h)

before_floor : (ws vs : List (NameParts × Known)) (n : NameParts) (left : List (NameParts × Known))
    → T (is_sorted name_cmp (ws ++ (vs ++ ((n, Floor) ∷ left))))
    → ((q : NameParts) → list_any (is_over q) (ws ++ (vs ++ ((n, Floor) ∷ left))) ≡ true
    → find name_cmp q (ws ++ (vs ++ ((n, Floor) ∷ left))) ≡ None)
    → T (is_sorted name_cmp (vs ++ ((n, Floor) ∷ left))) → AreOriginsBelow n.origin vs
before_floor ws [] n left s settled t = tt
before_floor ws (e ∷ vs) n left s settled t = (
  by (slice_cmp nat_cmp e.0.origin n.origin) refl,
  before_floor (ws ++ e ∷ []) vs n left (subst (λ l. T (is_sorted name_cmp l)) moved s) (subst (λ l. (q : NameParts)
      → list_any (is_over q) l ≡ true → find name_cmp q l ≡ None) moved settled) (second _ _ t),
)
  where
    moved : ws ++ (e ∷ (vs ++ ((n, Floor) ∷ left))) ≡ (ws ++ e ∷ []) ++ (vs ++ ((n, Floor) ∷ left))
    moved = sym (append_assoc ws (e ∷ []) (vs ++ ((n, Floor) ∷ left)))

    low : name_cmp e.0 n ≡ Less
    low = below_later e.0 vs (n, Floor) left (first _ _ t)

    by : (o : Ordering) → slice_cmp nat_cmp e.0.origin n.origin ≡ o → slice_cmp nat_cmp e.0.origin n.origin ≡ Less
    by Less is = is
    by Greater is = absurd (not_both (sym low ∙ ap (λ o. ordering_then o (nat_cmp e.0.number n.number)) is))
    by Equal is =
        let numbers : nat_cmp e.0.number n.number ≡ Less = sym (ap (λ o. ordering_then o (nat_cmp e.0.number n.number)) is) ∙ low in
        let over : is_above e.0 n ≡ true =
        and_from _ _ (ap (same_bytes e.0.origin) (sym (exact_bytes e.0.origin n.origin is))
        ∙ same_bytes-refl e.0.origin) (less_number e.0.number n.number numbers) in
        let none = settled e.0 (ap (list_any (is_over e.0)) moved ∙ ap (list_any (is_over e.0))
        (sym (append_assoc (ws ++ e ∷ []) vs ((n, Floor) ∷ left))) ∙ over_later e.0 ((ws ++ e ∷ []) ++ vs) (n, Floor) left over) in
        absurd (no_some e.1 (sym none ∙ find_at ws e (vs ++ ((n, Floor) ∷ left)) s))
      where
        no_some : (k : Known) → None ≡ Some k → ⊥
        no_some k e = cc

pub floor_next : (w : View) (vs : List (NameParts × Known)) (n : NameParts) (left : List (NameParts × Known)) → IsSettled w
    → entries w ≡ vs ++ ((n, Floor) ∷ left) → AreOriginsBelow n.origin vs
floor_next w vs n left s e =
    let sorted = subst (λ l. T (is_sorted name_cmp l)) e (entries_sorted w) in
    before_floor [] vs n left sorted (λ q low. sym (get-entries w q ∙ ap (find name_cmp q) e)
    ∙ s q (ap (list_any (is_over q)) e ∙ low)) sorted
