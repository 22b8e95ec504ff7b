-- The floors of views, and views without the names below them.
use Rattle.std.proofs.Common.{◌≡◌, Bool, true, false, cond, not, Option, None, Some, refl, sym, ap, ◌∙◌}
use Rattle.std.specs.FinMap.{get, entries, entries_sorted, get-entries, get-retain_keys}
use Rattle.wvalues.specs.Names.{NameParts}
use Rattle.wentries.specs.Knowledge.{Known, Floor, is_above}
use Rattle.wset.specs.Views.{View, is_below, IsSettled, settled}
use Rattle.wentries.proofs.Floors.{exact_names, floor_told, no_some, told_over}

-- two tests of which each gives the other
pub same_test : (a b : Bool) → (a ≡ true → b ≡ true) → (b ≡ true → a ≡ true) → a ≡ b
same_test true b to back = sym (to refl)
same_test false true to back = back refl
same_test false false to back = refl

-- ---- the floors of views

-- a floor of the view above the name, and none above that
pub record HasTopFloor (v : View) (q : NameParts) : Type 0 where
  pub floor : NameParts
  pub found : get v floor ≡ Some Floor
  pub above : is_above q floor ≡ true
  pub top : is_below v floor ≡ false

pub top_floor : (v : View) (q : NameParts) → is_below v q ≡ true → HasTopFloor v q
top_floor v q h =
    let t = floor_told (entries v) q (entries_sorted v) h in
    record { floor = t.floor; found = get-entries v t.floor ∙ t.found; above = t.above; top = t.top }

pub below_floor : (v : View) (q m : NameParts) → get v m ≡ Some Floor → is_above q m ≡ true → is_below v q ≡ true
below_floor v q m found above = told_over (entries v) q m (sym (get-entries v m) ∙ found) above

-- ---- without the names below floors

cond-not : {A : Type 0} (b : Bool) (x y : A) → cond (not b) x y ≡ cond b y x
cond-not true x y = refl
cond-not false x y = refl

pub get-settled : (v : View) (q : NameParts) → get (settled v) q ≡ cond (is_below v q) None (get v q)
get-settled v q = get-retain_keys v (λ n. not (is_below v n)) q (λ x same. ap (λ n. not (is_below v n))
    (sym (exact_names q x same))) ∙ cond-not (is_below v q) (get v q) None

not_dropped : (b : Bool) (o : Option Known) (k : Known) → cond b None o ≡ Some k → o ≡ Some k
not_dropped true o k e = absurd (no_some k e)
not_dropped false o k e = e

pub below-settled : (v : View) (q : NameParts) → is_below (settled v) q ≡ is_below v q
below-settled v q = same_test _ _ (λ h.
    let t = top_floor (settled v) q h in
    below_floor v q t.floor (not_dropped (is_below v t.floor) _ Floor (sym (get-settled v t.floor) ∙ t.found)) t.above)
    (λ h.
    let t = top_floor v q h in
    below_floor (settled v) q t.floor (get-settled v t.floor ∙ ap (λ b. cond b None (get v t.floor)) t.top ∙ t.found) t.above)

pub settled-settled : (v : View) → IsSettled (settled v)
settled-settled v n h = get-settled v n ∙ ap (λ b. cond b None (get v n)) (sym (below-settled v n) ∙ h)
