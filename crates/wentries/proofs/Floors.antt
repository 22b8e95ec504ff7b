-- Names below floors.
use Rattle.std.proofs.Common.{◌≡◌, ℕ, Bool, true, false, cond, T, List, [], ◌∷◌, None, Some, refl, sym, ap, ◌∙◌, arith, is_eq, ◌&&◌, ⊎_elim}
use Rattle.std.proofs.lemmas.Bool.{true≢false, or_cases, or_left, or_right, or_from, and_parts, and_from, ltb-true, lt-ltb}
use Rattle.std.proofs.lemmas.Cmp.{tied_itself}
use Rattle.std.specs.List.{list_any}
use Rattle.std.specs.Ordering.{nat_cmp, is_lt, ordering_then}
use Rattle.std.specs.declared.cmp.Ordering.{Ordering}
use Rattle.std.specs.declared.cmp.Ordering.TheVariants.{Less, Equal, Greater}
use Rattle.std.specs.Cmp.Lexicographic.{slice_cmp, bytes_decides, nat_list_cmp_total}
use Rattle.std.proofs.lemmas.Map.Lookups.{exact_pairs, exact_bytes, exact_unsigned}
use Rattle.std.specs.FinMap.Entries.{below_all}
use Rattle.std.specs.FinMap.{find, is_sorted, IsAntisymmetric}
use Rattle.wvalues.specs.Names.{NameParts, name_cmp, names_total}
use Rattle.wentries.specs.Knowledge.{Known, Live, Disputed, Retired, Floor, same_name, same_bytes, is_above, is_over}
use Rattle.std.specs.Prelude.{◌==◌}

pub exact_names : IsAntisymmetric name_cmp
exact_names a b h = ap (λ (p : List ℕ × ℕ). record { origin = p.0; number = p.1 }) (exact_pairs (slice_cmp nat_cmp) nat_cmp
    exact_bytes exact_unsigned (a.origin, a.number) (b.origin, b.number) h)

pub is_equal : (r : Ordering) → is_eq r ≡ true → r ≡ Equal
is_equal Less e = cc
is_equal Equal e = refl
is_equal Greater e = cc

pub same_name-true : (a b : NameParts) → same_name a b ≡ true → a ≡ b
same_name-true a b e = exact_names a b (is_equal (name_cmp a b) e)

pub same_name-refl : (a : NameParts) → same_name a a ≡ true
same_name-refl a = ap is_eq (tied_itself names_total a)

pub same_bytes-true : (a b : List ℕ) → same_bytes a b ≡ true → a ≡ b
same_bytes-true a b e = (bytes_decides a b).0 e

pub same_bytes-refl : (a : List ℕ) → same_bytes a a ≡ true
same_bytes-refl a = (bytes_decides a a).1 refl

pub both_cases : (b : Bool) → b ≡ true → b ≡ false → ⊥
both_cases b is isnt = true≢false (sym is ∙ isnt)

-- ---- above

pub above_trans : (a b c : NameParts) → is_above a b ≡ true → is_above b c ≡ true → is_above a c ≡ true
above_trans a b c ab bc =
    let p = and_parts (same_bytes a.origin b.origin) _ ab in
    let q = and_parts (same_bytes b.origin c.origin) _ bc in
    and_from _ _ (ap (λ o. same_bytes o c.origin) (same_bytes-true a.origin b.origin p.0) ∙ q.0)
    (lt-ltb a.number c.number (omega (arith, ltb-true a.number b.number p.1, ltb-true b.number c.number q.1)))

pub not_above_itself : (a : NameParts) → is_above a a ≡ true → ⊥
not_above_itself a h = absurd (omega (arith, ltb-true a.number a.number (and_parts (same_bytes a.origin a.origin) _ h).1))

-- an entry that is over a name is a floor above it
pub over_floor : (q : NameParts) (e : NameParts × Known) → is_over q e ≡ true → (e.1 ≡ Floor) × (is_above q e.0 ≡ true)
over_floor q (m, Live bytes) h = absurd (true≢false (sym h))
over_floor q (m, Disputed) h = absurd (true≢false (sym h))
over_floor q (m, Retired) h = absurd (true≢false (sym h))
over_floor q (m, Floor) h = (refl, h)

pub floor_over : (q m : NameParts) (k : Known) → k ≡ Floor → is_above q m ≡ true → is_over q (m, k) ≡ true
floor_over q m k is h = ap (λ x. is_over q (m, x)) is ∙ h

over_trans : (q m : NameParts) (e : NameParts × Known) → is_above q m ≡ true → is_over m e ≡ true → is_over q e ≡ true
over_trans q m e qm h =
    let f = over_floor m e h in
    floor_over q e.0 e.1 f.0 (above_trans q m e.0 qm f.1)

pub any_trans : (q m : NameParts) (es : List (NameParts × Known)) → is_above q m ≡ true → list_any (is_over m) es ≡ true
    → list_any (is_over q) es ≡ true
any_trans q m [] qm h = h
any_trans q m (e ∷ es) qm h =
    ⊎_elim (λ x. or_left _ _ (over_trans q m e qm x)) (λ x. or_right _ _ (any_trans q m es qm x)) (or_cases (is_over m e) _ h)

-- ---- the floors of entries

-- a floor above the name, and none above that
pub record HasTop (es : List (NameParts × Known)) (q : NameParts) : Type 0 where
  pub floor : NameParts
  pub found : find name_cmp floor es ≡ Some Floor
  pub above : is_above q floor ≡ true
  pub top : list_any (is_over floor) es ≡ false

pub both : (a b : Bool) → T a → T b → T (a && b)
both true b p q = q
both false b p q = absurd p

pub first : (a b : Bool) → T (a && b) → T a
first true b p = tt
first false b p = absurd p

pub second : (a b : Bool) → T (a && b) → T b
second true b p = p
second false b p = absurd p

pub less : (o : Ordering) → T (is_lt o) → o ≡ Less
less Less p = refl
less Equal p = absurd p
less Greater p = absurd p

pub find_below : (x : NameParts) (es : List (NameParts × Known)) → T (below_all name_cmp x es) → find name_cmp x es ≡ None
find_below x [] h = refl
find_below x (f ∷ es) h = ap (λ o. cond (is_eq o) (Some f.1) (find name_cmp x es)) (less _ (first _ _ h)) ∙ find_below x es (second _ _ h)

pub no_some : {A : Type 0} (x : A) → None ≡ Some x → ⊥
no_some x e = cc

pub same_some : (x y : Known) → Some x ≡ Some y → x ≡ y
same_some x y e = cc

-- what is found behind the first entry is found
found_later : (e : NameParts × Known) (es : List (NameParts × Known)) (m : NameParts) (k : Known)
    → T (below_all name_cmp e.0 es) → find name_cmp m es ≡ Some k → find name_cmp m (e ∷ es) ≡ Some k
found_later e es m k low found = by (is_eq (name_cmp m e.0)) refl
  where
    by : (b : Bool) → is_eq (name_cmp m e.0) ≡ b → find name_cmp m (e ∷ es) ≡ Some k
    by true is = absurd (no_some k (sym (find_below e.0 es low) ∙ ap (λ x. find name_cmp x es) (sym (same_name-true m e.0 is)) ∙ found))
    by false is = ap (λ b. cond b (Some e.1) (find name_cmp m es)) is ∙ found

found_first : (e : NameParts × Known) (es : List (NameParts × Known)) → e.1 ≡ Floor → find name_cmp e.0 (e ∷ es) ≡ Some Floor
found_first e es is = ap (λ b. cond b (Some e.1) (find name_cmp e.0 es)) (same_name-refl e.0) ∙ ap (λ (k : Known). Some k) is

pub floor_told : (es : List (NameParts × Known)) (q : NameParts) → T (is_sorted name_cmp es) → list_any (is_over q) es ≡ true → HasTop es q
floor_told [] q s h = absurd (true≢false (sym h))
floor_told (e ∷ es) q s h = by (list_any (is_over q) es) refl (floor_told es q (second _ _ s))
  where
    here : is_over q e ≡ true → list_any (is_over e.0) es ≡ false → HasTop (e ∷ es) q
    here over none =
        let f = over_floor q e over in
        record {
          floor = e.0;
          found = found_first e es f.0;
          above = f.1;
          top = or_from _ _ (by_itself (is_over e.0 e) refl) none;
        }
      where
        by_itself : (b : Bool) → is_over e.0 e ≡ b → is_over e.0 e ≡ false
        by_itself true is = absurd (not_above_itself e.0 (over_floor e.0 e is).1)
        by_itself false is = is

    none_above : (m : NameParts) → is_above m e.0 ≡ true → list_any (is_over m) es ≡ false → list_any (is_over e.0) es ≡ false
    none_above m over none = by_test (list_any (is_over e.0) es) refl
      where
        by_test : (b : Bool) → list_any (is_over e.0) es ≡ b → list_any (is_over e.0) es ≡ false
        by_test true is = absurd (both_cases _ (any_trans m e.0 es over is) none)
        by_test false is = is

    later : HasTop es q → HasTop (e ∷ es) q
    later t = by_test (is_over t.floor e) refl
      where
        by_test : (b : Bool) → is_over t.floor e ≡ b → HasTop (e ∷ es) q
        by_test true is = here (over_trans q t.floor e t.above is) (none_above t.floor (over_floor t.floor e is).1 t.top)
        by_test false is = record {
          floor = t.floor;
          found = found_later e es t.floor Floor (first _ _ s) t.found;
          above = t.above;
          top = or_from _ _ is t.top;
        }

    by : (b : Bool) → list_any (is_over q) es ≡ b → (list_any (is_over q) es ≡ true → HasTop es q) → HasTop (e ∷ es) q
    by true is rest = later (rest is)
    by false is rest =
        let over : is_over q e ≡ true = ⊎_elim (λ x. x) (λ x. absurd (both_cases _ x is)) (or_cases (is_over q e) _ h) in
        here over (none_above q (over_floor q e over).1 is)

pub told_over : (es : List (NameParts × Known)) (q m : NameParts) → find name_cmp m es ≡ Some Floor → is_above q m ≡ true
    → list_any (is_over q) es ≡ true
told_over [] q m found above = absurd (no_some Floor found)
told_over (e ∷ es) q m found above = by (is_eq (name_cmp m e.0)) refl (λ later. told_over es q m later above)
  where
    by : (b : Bool) → is_eq (name_cmp m e.0) ≡ b → (find name_cmp m es ≡ Some Floor → list_any (is_over q) es ≡ true)
        → list_any (is_over q) (e ∷ es) ≡ true
    by true is rest =
        let same : e.1 ≡ Floor = same_some e.1 Floor (sym (ap (λ b. cond b (Some e.1) (find name_cmp m es)) is) ∙ found) in
        or_left _ _ (floor_over q e.0 e.1 same (ap (is_above q) (sym (same_name-true m e.0 is)) ∙ above))
    by false is rest = or_right _ _ (rest (sym (ap (λ b. cond b (Some e.1) (find name_cmp m es)) is) ∙ found))

-- ---- a floor above a name stands behind it

pub above_less : (n m : NameParts) → is_above n m ≡ true → name_cmp n m ≡ Less
above_less n m h =
    let p = and_parts (same_bytes n.origin m.origin) _ h in
    let origins : slice_cmp nat_cmp n.origin m.origin ≡ Equal =
    ap (slice_cmp nat_cmp n.origin) (sym (same_bytes-true n.origin m.origin p.0)) ∙ tied_itself nat_list_cmp_total n.origin in
    ap (λ o. ordering_then o (nat_cmp n.number m.number)) origins ∙ ap (λ b. cond b Less (cond (n.number == m.number) Equal Greater)) p.1
