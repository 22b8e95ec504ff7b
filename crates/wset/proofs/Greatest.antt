-- The floor of an origin in a view of items is the greatest of those that are among them.
use Rattle.std.proofs.Common.{◌≡◌, ℕ, ◌≤◌, Bool, true, false, cond, T, List, [], ◌∷◌, Option, None, Some}
use Rattle.std.proofs.Common.{refl, sym, ap, ◌∙◌, subst, arith, ⊎_elim}
use Rattle.std.proofs.lemmas.Bool.{true≢false, or_cases, and_parts, and_from, ltb-true, lt-ltb, cases_order}
use Rattle.std.proofs.lemmas.List.Folds.{list_any_at}
use Rattle.std.specs.List.{IsAmong, cons_option, filter_map, list_any}
use Rattle.std.specs.FinMap.{entries, entries_sorted, find, get, get-entries, is_sorted}
use Rattle.wvalues.specs.Names.{NameParts, name_cmp}
use Rattle.wentries.specs.Knowledge.{Known, Live, Disputed, Retired, Floor, first_of, floor_number, same_bytes, same_name}
use Rattle.wset.specs.Views.{View, floor_of}
use Rattle.wset.specs.Items.{Item, SegmentItem, RetirementItem, FloorItem, is_floor_at, mark_of, status_of, view_of}
use Rattle.wset.specs.Laws.{GreatestFloor, ViewHasGreatestFloors}
use Rattle.wentries.proofs.Floors.{both_cases, find_below, first, no_some, same_bytes-refl, same_bytes-true}
use Rattle.wentries.proofs.Floors.{same_name-refl, same_name-true, same_some, second}
use Rattle.wset.proofs.Union.{at_from_over, first as is_first, get-view_of, is_floor_over, later, marked_floor}

-- the name under which a floor of the origin stands
abbrev named : List ℕ → ℕ → NameParts
named o n = record { origin = o; number = n }

-- ---- the floors of an origin among entries

-- what is found behind the first of rising entries is found
found_later : (e : NameParts × Known) (es : List (NameParts × Known)) (m : NameParts) → T (is_sorted name_cmp (e ∷ es))
    → find name_cmp m es ≡ Some Floor → find name_cmp m (e ∷ es) ≡ Some Floor
found_later e es m s found = by (same_name m e.0) refl
  where
    by : (b : Bool) → same_name m e.0 ≡ b → find name_cmp m (e ∷ es) ≡ Some Floor
    by true is = absurd (no_some Floor (sym (find_below e.0 es (first _ _ s)) ∙ ap (λ x. find name_cmp x es) (sym (same_name-true m e.0 is))
        ∙ found))
    by false is = ap (λ b. cond b (Some e.1) (find name_cmp m es)) is ∙ found

-- a floor is found behind an entry that is none
found_behind : (e : NameParts × Known) (es : List (NameParts × Known)) (m : NameParts) → (e.1 ≡ Floor → ⊥)
    → find name_cmp m (e ∷ es) ≡ Some Floor → find name_cmp m es ≡ Some Floor
found_behind e es m other = by (same_name m e.0)
  where
    by : (b : Bool) → cond b (Some e.1) (find name_cmp m es) ≡ Some Floor → find name_cmp m es ≡ Some Floor
    by true h = absurd (other (same_some e.1 Floor h))
    by false h = h

-- the first number of a floor is that of one
first_floor : (es : List (NameParts × Known)) (o : List ℕ) (n : ℕ) → T (is_sorted name_cmp es)
    → first_of (filter_map (floor_number o) es) ≡ Some n → find name_cmp (named o n) es ≡ Some Floor
first_floor [] o n s h = absurd (no_some n h)
first_floor ((x, Live bytes) ∷ es) o n s h = found_later (x, Live bytes) es (named o n) s (first_floor es o n (second _ _ s) h)
first_floor ((x, Disputed) ∷ es) o n s h = found_later (x, Disputed) es (named o n) s (first_floor es o n (second _ _ s) h)
first_floor ((x, Retired) ∷ es) o n s h = found_later (x, Retired) es (named o n) s (first_floor es o n (second _ _ s) h)
first_floor ((x, Floor) ∷ es) o n s h = by (same_bytes o x.origin) refl h (first_floor es o n (second _ _ s))
  where
    here : x ≡ named o n → find name_cmp (named o n) ((x, Floor) ∷ es) ≡ Some Floor
    here is = ap (λ b. cond b (Some Floor) (find name_cmp (named o n) es))
        (ap (same_name (named o n)) is ∙ same_name-refl (named o n))

    by : (b : Bool) → same_bytes o x.origin ≡ b
        → first_of (cons_option (cond b (Some x.number) None) (filter_map (floor_number o) es)) ≡ Some n
        → (first_of (filter_map (floor_number o) es) ≡ Some n → find name_cmp (named o n) es ≡ Some Floor)
        → find name_cmp (named o n) ((x, Floor) ∷ es) ≡ Some Floor
    by true same e rest =
        let number : x.number ≡ n = cc in
        here (ap (λ q. named q x.number) (sym (same_bytes-true o x.origin same)) ∙ ap (named o) number)
    by false same e rest = found_later (x, Floor) es (named o n) s (rest e)

skipped : (b : Bool) (n : ℕ) (ns : List ℕ) → first_of (cons_option (cond b (Some n) None) ns) ≡ None → (b ≡ false) × (first_of ns ≡ None)
skipped true n ns h = absurd (no_some n (sym h))
skipped false n ns h = (refl, h)

-- where a floor is found there is a first number
some_floor : (es : List (NameParts × Known)) (o : List ℕ) (n : ℕ) → find name_cmp (named o n) es ≡ Some Floor
    → first_of (filter_map (floor_number o) es) ≡ None → ⊥
some_floor [] o n found none = no_some Floor found
some_floor ((x, Live bytes) ∷ es) o n found none =
    some_floor es o n (found_behind (x, Live bytes) es (named o n) (λ e. cc) found) none
some_floor ((x, Disputed) ∷ es) o n found none = some_floor es o n (found_behind (x, Disputed) es (named o n) (λ e. cc) found) none
some_floor ((x, Retired) ∷ es) o n found none = some_floor es o n (found_behind (x, Retired) es (named o n) (λ e. cc) found) none
some_floor ((x, Floor) ∷ es) o n found none =
    by (same_name (named o n) x) refl found (skipped (same_bytes o x.origin) x.number (filter_map (floor_number o) es) none)
    (some_floor es o n)
  where
    by : (b : Bool) → same_name (named o n) x ≡ b → cond b (Some Floor) (find name_cmp (named o n) es) ≡ Some Floor
        → (same_bytes o x.origin ≡ false) × (first_of (filter_map (floor_number o) es) ≡ None)
        → (find name_cmp (named o n) es ≡ Some Floor → first_of (filter_map (floor_number o) es) ≡ None → ⊥) → ⊥
    by true same found apart rest = both_cases (same_bytes o x.origin)
        (ap (λ (y : NameParts). same_bytes o y.origin) (sym (same_name-true (named o n) x same)) ∙ same_bytes-refl o) apart.0
    by false same found apart rest = rest found apart.1

-- ---- the floors of a view

floor_stands : (v : View) (o : List ℕ) (n : ℕ) → floor_of v o ≡ Some n → get v (named o n) ≡ Some Floor
floor_stands v o n h = get-entries v (named o n) ∙ first_floor (entries v) o n (entries_sorted v) h

no_floor_stands : (v : View) (o : List ℕ) (n : ℕ) → floor_of v o ≡ None → get v (named o n) ≡ Some Floor → ⊥
no_floor_stands v o n none found = some_floor (entries v) o n (sym (get-entries v (named o n)) ∙ found) none

-- ---- the floors among items

floor_among : (items : List Item) (m : NameParts) → list_any (is_floor_at m) items ≡ true → IsAmong items (FloorItem m)
floor_among [] m h = absurd (true≢false (sym h))
floor_among (SegmentItem x b ∷ items) m h = later _ items _ (floor_among items m h)
floor_among (RetirementItem x ∷ items) m h = later _ items _ (floor_among items m h)
floor_among (FloorItem x ∷ items) m h =
    ⊎_elim (λ same. subst (λ y. IsAmong (FloorItem y ∷ items) (FloorItem m)) (same_name-true m x same) (is_first (FloorItem m) items))
    (λ rest. later _ items _ (floor_among items m rest)) (or_cases (same_name m x) _ h)

among_any : (p : Item → Bool) (items : List Item) (i : Item) → IsAmong items i → p i ≡ true → list_any p items ≡ true
among_any p items i h is = list_any_at p items h.0 i h.1.0 (ap p (sym h.1.1) ∙ is)

-- a floor stands in the view of items just where it is among them and none above it is
view_floor : (items : List Item) (m : NameParts) → list_any (is_floor_at m) items ≡ true → list_any (is_floor_over m) items ≡ false
    → get (view_of items) m ≡ Some Floor
view_floor items m told top = get-view_of items m ∙ ap (λ b. cond b None (mark_of items m)) top
    ∙ ap (λ b. cond b (Some Floor) (status_of items m)) told

floor_items : (items : List Item) (m : NameParts) → get (view_of items) m ≡ Some Floor
    → (list_any (is_floor_at m) items ≡ true) × (list_any (is_floor_over m) items ≡ false)
floor_items items m h = by (list_any (is_floor_over m) items) refl (sym (get-view_of items m) ∙ h)
  where
    by : (b : Bool) → list_any (is_floor_over m) items ≡ b → cond b None (mark_of items m) ≡ Some Floor
        → (list_any (is_floor_at m) items ≡ true) × (list_any (is_floor_over m) items ≡ false)
    by true is e = absurd (no_some Floor e)
    by false is e = (marked_floor items m e, is)

at_most : (items : List Item) (o : List ℕ) (n m : ℕ) → list_any (is_floor_over (named o n)) items ≡ false
    → IsAmong items (FloorItem (named o m)) → m ≤ n
at_most items o n m top told =
    ⊎_elim (λ same. omega (arith, same)) (λ r. ⊎_elim
    (λ less. absurd (both_cases _ (among_any (is_floor_over (named o n)) items (FloorItem (named o m)) told
    (and_from _ _ (same_bytes-refl o) (lt-ltb n m less))) top))
    (λ more. omega (arith, more)) r)
    (cases_order n m)

greatest : (items : List Item) (o : List ℕ) (n : ℕ) → floor_of (view_of items) o ≡ Some n → GreatestFloor items o n
greatest items o n h =
    let f = floor_items items (named o n) (floor_stands (view_of items) o n h) in
    record { is_told = floor_among items (named o n) f.0; is_greatest = λ m told. at_most items o n m f.1 told }

none_over : (items : List Item) (o : List ℕ) (n : ℕ) → GreatestFloor items o n → list_any (is_floor_over (named o n)) items ≡ false
none_over items o n g = by (list_any (is_floor_over (named o n)) items) refl
  where
    by : (b : Bool) → list_any (is_floor_over (named o n)) items ≡ b → list_any (is_floor_over (named o n)) items ≡ false
    by true over =
        let r = at_from_over items (named o n) over in
        let p = and_parts (same_bytes o r.floor.origin) _ r.above in
        let told : IsAmong items (FloorItem (named o r.floor.number)) =
        subst (λ q. IsAmong items (FloorItem (named q r.floor.number))) (sym (same_bytes-true o r.floor.origin p.0))
        (floor_among items r.floor r.is_told) in
        absurd (omega (arith, ltb-true n r.floor.number p.1, g.is_greatest r.floor.number told))
    by false over = over

only : (items : List Item) (o : List ℕ) (n : ℕ) → GreatestFloor items o n → floor_of (view_of items) o ≡ Some n
only items o n g = by (floor_of (view_of items) o) refl
  where
    stands : get (view_of items) (named o n) ≡ Some Floor
    stands = view_floor items (named o n)
        (among_any (is_floor_at (named o n)) items (FloorItem (named o n)) g.is_told (same_name-refl (named o n))) (none_over items o n g)

    by : (r : Option ℕ) → floor_of (view_of items) o ≡ r → floor_of (view_of items) o ≡ Some n
    by None is = absurd (no_floor_stands (view_of items) o n is stands)
    by (Some m) is =
        let h = greatest items o m is in
        let same : m ≡ n = omega (arith, h.is_greatest n g.is_told, g.is_greatest m h.is_told) in
        is ∙ ap (λ (k : ℕ). Some k) same

pub greatest_floors : ViewHasGreatestFloors
greatest_floors items o n = (greatest items o n, only items o n)
