-- What a view of items tells, and the view of two lists of items.
use Rattle.std.proofs.Common.{◌≡◌, ℕ, zero, suc, ◌<◌, Bool, true, false, cond, List, [], ◌∷◌, ◌++◌, map, Option, None}
use Rattle.std.proofs.Common.{Some, refl, sym, ap, ◌∙◌, arith, ◌||◌, ◌&&◌, append-nil, inl, inr, ◌⊎◌, ⊎_elim}
use Rattle.std.proofs.lemmas.Bool.{true≢false, or_cases, or_left, or_right, or_from, and_parts}
use Rattle.std.proofs.lemmas.Bool.{and_from, leb-true, le-leb, lt-ltb, ltb-true, cases_order}
use Rattle.std.specs.Prelude.{leb}
use Rattle.std.specs.List.{list_any, list_all, filter_map, IsAmong}
use Rattle.std.proofs.lemmas.List.Elements.{filter_map-append}
use Rattle.std.proofs.lemmas.List.Folds.{list_any-append, list_all-append}
use Rattle.std.specs.FinMap.{get}
use Rattle.wvalues.specs.Names.{NameParts}
use Rattle.wentries.specs.Knowledge.{Known, Live, Disputed, Retired, Floor, same_name, same_bytes, is_above}
use Rattle.wset.specs.Views.{View, is_below, own_status, view_telling, join_told, join}
use Rattle.wset.specs.Items.{Item, SegmentItem, RetirementItem, FloorItem, name_of, is_retirement_of, is_floor_at}
use Rattle.wset.specs.Items.{content_of, agreed, status_of, mark_of, view_of, view_of_item}
use Rattle.wset.specs.Laws.{ViewOfUnion, ViewHasStatus, ViewsAreSettled, AreAmong, SameItemsSameView}
use Rattle.wentries.proofs.Floors.{same_name-true, same_name-refl, same_bytes-true, same_bytes-refl, both_cases, no_some}
use Rattle.wset.proofs.ViewFloors.{same_test, top_floor, below_floor, get-settled, below-settled, settled-settled}
use Rattle.wset.proofs.Joining.{or_first, or_second, with_none, with_floor, get-telling, get-join, same_view, join_laws}

-- ---- floors among items

-- it is a floor above the name
abbrev pub is_floor_over : NameParts → Item → Bool
is_floor_over q (SegmentItem m bytes) = false
is_floor_over q (RetirementItem m) = false
is_floor_over q (FloorItem m) = is_above q m

-- what stands under each name, those below a floor too
abbrev marks : List Item → View
marks items = view_telling (mark_of items) (map name_of items)

above_named : (m x q : NameParts) → same_name m x ≡ true → is_above q m ≡ true → is_above q x ≡ true
above_named m x q same above = ap (is_above q) (sym (same_name-true m x same)) ∙ above

over_from_at : (items : List Item) (q m : NameParts) → list_any (is_floor_at m) items ≡ true → is_above q m ≡ true
    → list_any (is_floor_over q) items ≡ true
over_from_at [] q m h above = h
over_from_at (SegmentItem x b ∷ items) q m h above = over_from_at items q m h above
over_from_at (RetirementItem x ∷ items) q m h above = over_from_at items q m h above
over_from_at (FloorItem x ∷ items) q m h above =
    ⊎_elim (λ same. or_left _ _ (above_named m x q same above)) (λ later. or_right _ _ (over_from_at items q m later above))
    (or_cases (same_name m x) _ h)

-- a floor above the name
pub record HasFloorItem (items : List Item) (q : NameParts) : Type 0 where
  pub floor : NameParts
  pub is_told : list_any (is_floor_at floor) items ≡ true
  pub above : is_above q floor ≡ true

pub at_from_over : (items : List Item) (q : NameParts) → list_any (is_floor_over q) items ≡ true → HasFloorItem items q
at_from_over [] q h = absurd (true≢false (sym h))
at_from_over (SegmentItem x b ∷ items) q h =
    let r = at_from_over items q h in record { floor = r.floor; is_told = r.is_told; above = r.above }
at_from_over (RetirementItem x ∷ items) q h =
    let r = at_from_over items q h in record { floor = r.floor; is_told = r.is_told; above = r.above }
at_from_over (FloorItem x ∷ items) q h =
    ⊎_elim (λ here. record { floor = x; is_told = or_left _ _ (same_name-refl x); above = here })
    (λ later. let r = at_from_over items q later in record { floor = r.floor; is_told = or_right _ _ r.is_told; above = r.above })
    (or_cases (is_above q x) _ h)

named_at : (items : List Item) (m : NameParts) → list_any (is_floor_at m) items ≡ true → list_any (same_name m) (map name_of items) ≡ true
named_at [] m h = h
named_at (SegmentItem x b ∷ items) m h = or_right _ _ (named_at items m h)
named_at (RetirementItem x ∷ items) m h = or_right _ _ (named_at items m h)
named_at (FloorItem x ∷ items) m h = ⊎_elim (λ same. or_left _ _ same) (λ later. or_right _ _ (named_at items m later))
    (or_cases (same_name m x) _ h)

agreed_no_floor : (cs : List (List ℕ)) → agreed cs ≡ Some Floor → ⊥
agreed_no_floor [] e = cc
agreed_no_floor (c ∷ cs) e = by (list_all (same_bytes c) cs) e
  where
    by : (b : Bool) → cond b (Some (Live c)) (Some Disputed) ≡ Some Floor → ⊥
    by true e = cc
    by false e = cc

status_no_floor : (items : List Item) (q : NameParts) → status_of items q ≡ Some Floor → ⊥
status_no_floor items q = by (list_any (is_retirement_of q) items) (filter_map (content_of q) items)
  where
    by : (b : Bool) (cs : List (List ℕ)) → cond b (Some Retired) (agreed cs) ≡ Some Floor → ⊥
    by true cs e = cc
    by false cs e = agreed_no_floor cs e

-- only a floor is marked as one
pub marked_floor : (items : List Item) (m : NameParts) → mark_of items m ≡ Some Floor → list_any (is_floor_at m) items ≡ true
marked_floor items m = by (list_any (is_floor_at m) items) refl
  where
    by : (b : Bool) → list_any (is_floor_at m) items ≡ b → cond b (Some Floor) (status_of items m) ≡ Some Floor
        → list_any (is_floor_at m) items ≡ true
    by true is e = is
    by false is e = absurd (status_no_floor items m e)

told_marked : (items : List Item) (m : NameParts) → get (marks items) m ≡ Some Floor → mark_of items m ≡ Some Floor
told_marked items m h = by (list_any (same_name m) (map name_of items)) (sym (get-telling (mark_of items) (map name_of items) m) ∙ h)
  where
    by : (b : Bool) → cond b (mark_of items m) None ≡ Some Floor → mark_of items m ≡ Some Floor
    by true e = e
    by false e = absurd (no_some Floor e)

below-marks : (items : List Item) (q : NameParts) → is_below (marks items) q ≡ list_any (is_floor_over q) items
below-marks items q = same_test _ _ (λ h.
    let t = top_floor (marks items) q h in
    over_from_at items q t.floor (marked_floor items t.floor (told_marked items t.floor t.found)) t.above)
    (λ h.
    let r = at_from_over items q h in
    below_floor (marks items) q r.floor
    (get-telling (mark_of items) (map name_of items) r.floor ∙ ap (λ b. cond b (mark_of items r.floor) None)
    (named_at items r.floor r.is_told) ∙ ap (λ b. cond b (Some Floor) (status_of items r.floor)) r.is_told)
    r.above)

-- ---- names that no item speaks of

no_retirement : (items : List Item) (q : NameParts) → list_any (same_name q) (map name_of items) ≡ false
    → list_any (is_floor_over q) items ≡ false → list_any (is_retirement_of q) items ≡ false
no_retirement [] q e over = refl
no_retirement (SegmentItem m b ∷ items) q e over = no_retirement items q (or_second (same_name q m) _ e) over
no_retirement (RetirementItem m ∷ items) q e over =
    rw (or_first (same_name q m) _ e) (no_retirement items q (or_second (same_name q m) _ e) over)
no_retirement (FloorItem m ∷ items) q e over =
    or_from _ _ (by (is_retirement_of q (FloorItem m)) refl (or_first (same_name q m) _ e) (or_first (is_above q m) _ over))
    (no_retirement items q (or_second (same_name q m) _ e) (or_second (is_above q m) _ over))
  where
    by : (b : Bool) → is_retirement_of q (FloorItem m) ≡ b → same_name q m ≡ false → is_above q m ≡ false
        → is_retirement_of q (FloorItem m) ≡ false
    by false is other low = is
    by true is other low =
        let p = and_parts (same_bytes q.origin m.origin) _ is in
        let origin = same_bytes-true q.origin m.origin p.0 in
        absurd (⊎_elim
        (λ same. both_cases (same_name q m) (ap (λ (x : List ℕ × ℕ). same_name q (record { origin = x.0; number = x.1 }))
        (λ i. (sym origin i, sym same i)) ∙ same_name-refl q) other)
        (λ o. ⊎_elim (λ less. both_cases (is_above q m) (and_from _ _ p.0 (lt-ltb q.number m.number less)) low)
        (λ more. absurd (omega (arith, more, leb-true q.number m.number p.1))) o)
        (cases_order q.number m.number))

no_content : (items : List Item) (q : NameParts) → list_any (same_name q) (map name_of items) ≡ false → filter_map (content_of q) items ≡ []
no_content [] q e = refl
no_content (SegmentItem m b ∷ items) q e = rw (or_first (same_name q m) _ e) (no_content items q (or_second (same_name q m) _ e))
no_content (RetirementItem m ∷ items) q e = no_content items q (or_second (same_name q m) _ e)
no_content (FloorItem m ∷ items) q e = no_content items q (or_second (same_name q m) _ e)

no_floor : (items : List Item) (q : NameParts) → list_any (same_name q) (map name_of items) ≡ false → list_any (is_floor_at q) items ≡ false
no_floor items q e = by (list_any (is_floor_at q) items) refl
  where
    by : (b : Bool) → list_any (is_floor_at q) items ≡ b → list_any (is_floor_at q) items ≡ false
    by true is = absurd (both_cases _ (named_at items q is) e)
    by false is = is

pub unnamed : (items : List Item) (q : NameParts) → list_any (same_name q) (map name_of items) ≡ false
    → list_any (is_floor_over q) items ≡ false → mark_of items q ≡ None
unnamed items q e over = rw (no_floor items q e) (rw (no_retirement items q e over, no_content items q e) refl)

-- ---- what a view of items tells

pub below-view_of : (items : List Item) (q : NameParts) → is_below (view_of items) q ≡ list_any (is_floor_over q) items
below-view_of items q = below-settled (marks items) q ∙ below-marks items q

pub get-view_of : (items : List Item) (q : NameParts) → get (view_of items) q ≡ cond (list_any (is_floor_over q) items) None
    (mark_of items q)
get-view_of items q =
    get-settled (marks items) q ∙ ap (λ b. cond b None (get (marks items) q)) (below-marks items q)
    ∙ by (list_any (is_floor_over q) items) refl
  where
    by : (b : Bool) → list_any (is_floor_over q) items ≡ b → cond b None (get (marks items) q) ≡ cond b None (mark_of items q)
    by true over = refl
    by false over = get-telling (mark_of items) (map name_of items) q ∙ by_name (list_any (same_name q) (map name_of items)) refl
      where
        by_name : (b : Bool) → list_any (same_name q) (map name_of items) ≡ b → cond b (mark_of items q) None ≡ mark_of items q
        by_name true e = refl
        by_name false e = sym (unnamed items q e over)

retired_over : (items : List Item) (q : NameParts) → list_any (is_floor_over q) items ≡ true → list_any (is_retirement_of q) items ≡ true
retired_over [] q h = h
retired_over (SegmentItem m b ∷ items) q h = retired_over items q h
retired_over (RetirementItem m ∷ items) q h = or_right _ _ (retired_over items q h)
retired_over (FloorItem m ∷ items) q h =
    ⊎_elim (λ over.
    let p = and_parts (same_bytes q.origin m.origin) _ over in
    or_left _ _ (and_from _ _ p.0 (at_most q.number m.number (ltb-true q.number m.number p.1))))
    (λ later. or_right _ _ (retired_over items q later)) (or_cases (is_above q m) _ h)
  where
    at_most : (a b : ℕ) → a < b → leb a b ≡ true
    at_most a b lt = le-leb a b (omega (arith, lt))

retired_at : (items : List Item) (q : NameParts) → list_any (is_floor_at q) items ≡ true → list_any (is_retirement_of q) items ≡ true
retired_at [] q h = h
retired_at (SegmentItem m b ∷ items) q h = retired_at items q h
retired_at (RetirementItem m ∷ items) q h = or_right _ _ (retired_at items q h)
retired_at (FloorItem m ∷ items) q h =
    ⊎_elim (λ same. or_left _ _ (ap (λ x. is_retirement_of x (FloorItem m)) (same_name-true q m same) ∙ itself m))
    (λ later. or_right _ _ (retired_at items q later)) (or_cases (same_name q m) _ h)
  where
    itself : (m : NameParts) → is_retirement_of m (FloorItem m) ≡ true
    itself m = and_from _ _ (same_bytes-refl m.origin) (le-leb m.number m.number (omega arith))

own_live : (b : Bool) (c : List ℕ) → own_status (cond b (Some (Live c)) (Some Disputed)) ≡ cond b (Some (Live c)) (Some Disputed)
own_live true c = refl
own_live false c = refl

own_agreed : (cs : List (List ℕ)) → own_status (agreed cs) ≡ agreed cs
own_agreed [] = refl
own_agreed (c ∷ cs) = own_live (list_all (same_bytes c) cs) c

own_of_status : (b : Bool) (cs : List (List ℕ)) → own_status (cond b (Some Retired) (agreed cs)) ≡ cond b (Some Retired) (agreed cs)
own_of_status true cs = refl
own_of_status false cs = own_agreed cs

pub view_tells_status : ViewHasStatus
view_tells_status items q =
    ap (λ b. cond b (Some Retired) (own_status (get (view_of items) q))) (below-view_of items q)
    ∙ ap (λ o. cond (list_any (is_floor_over q) items) (Some Retired) (own_status o)) (get-view_of items q)
    ∙ by (list_any (is_floor_over q) items) refl
  where
    by : (b : Bool) → list_any (is_floor_over q) items ≡ b
        → cond b (Some Retired) (own_status (cond b None (mark_of items q))) ≡ status_of items q
    by true over = rw (retired_over items q over) refl
    by false over = by_mark (list_any (is_floor_at q) items) refl
      where
        by_mark : (b : Bool) → list_any (is_floor_at q) items ≡ b → own_status (cond b (Some Floor) (status_of items q)) ≡ status_of items q
        by_mark true at_it = rw (retired_at items q at_it) refl
        by_mark false at_it = own_of_status (list_any (is_retirement_of q) items) (filter_map (content_of q) items)

pub views_are_settled : ViewsAreSettled
views_are_settled items = settled-settled (marks items)

-- ---- the view of two sets of items

two_contents : (a b t : Bool) (c d : List ℕ) → same_bytes c d ≡ t → cond (a && (t && b)) (Some (Live c)) (Some Disputed)
    ≡ join_told (cond a (Some (Live c)) (Some Disputed)) (cond b (Some (Live d)) (Some Disputed))
two_contents true true true c d e = rw e refl
two_contents true true false c d e = rw e refl
two_contents true false true c d e = refl
two_contents true false false c d e = refl
two_contents false true t c d e = refl
two_contents false false t c d e = refl

agreed-append : (cs ds : List (List ℕ)) → agreed (cs ++ ds) ≡ join_told (agreed cs) (agreed ds)
agreed-append [] ds = refl
agreed-append (c ∷ cs) [] = ap agreed (append-nil (c ∷ cs)) ∙ with_none (agreed (c ∷ cs))
agreed-append (c ∷ cs) (d ∷ ds) =
    ap (λ b. cond b (Some (Live c)) (Some Disputed)) (list_all-append (same_bytes c) cs (d ∷ ds)
    ∙ ap (λ b. list_all (same_bytes c) cs && b) (by (same_bytes c d) refl))
    ∙ two_contents (list_all (same_bytes c) cs) (list_all (same_bytes d) ds) (same_bytes c d) c d refl
  where
    by : (t : Bool) → same_bytes c d ≡ t → (same_bytes c d && list_all (same_bytes c) ds) ≡ (same_bytes c d && list_all (same_bytes d) ds)
    by true e = ap (λ x. same_bytes c d && list_all (same_bytes x) ds) (same_bytes-true c d e)
    by false e = rw e refl

-- what contents agree on is no floor, and so a retirement beats it
agreed_retired : (cs : List (List ℕ)) → Some Retired ≡ join_told (agreed cs) (Some Retired)
agreed_retired [] = refl
agreed_retired (c ∷ cs) = by (list_all (same_bytes c) cs)
  where
    by : (b : Bool) → Some Retired ≡ join_told (cond b (Some (Live c)) (Some Disputed)) (Some Retired)
    by true = refl
    by false = refl

retired_agreed : (cs : List (List ℕ)) → Some Retired ≡ join_told (Some Retired) (agreed cs)
retired_agreed [] = refl
retired_agreed (c ∷ cs) = by (list_all (same_bytes c) cs)
  where
    by : (b : Bool) → Some Retired ≡ join_told (Some Retired) (cond b (Some (Live c)) (Some Disputed))
    by true = refl
    by false = refl

status_two : (x y : Bool) (cs ds : List (List ℕ)) → cond (x || y) (Some Retired) (agreed (cs ++ ds))
    ≡ join_told (cond x (Some Retired) (agreed cs)) (cond y (Some Retired) (agreed ds))
status_two true true cs ds = refl
status_two true false cs ds = retired_agreed ds
status_two false true cs ds = agreed_retired cs
status_two false false cs ds = agreed-append cs ds

pub status_of-append : (j k : List Item) (q : NameParts) → status_of (j ++ k) q ≡ join_told (status_of j q) (status_of k q)
status_of-append j k q = rw (list_any-append (is_retirement_of q) j k, filter_map-append (content_of q) j k)
    (status_two _ _ (filter_map (content_of q) j) (filter_map (content_of q) k))

floor_first : (o : Option Known) → Some Floor ≡ join_told (Some Floor) o
floor_first None = refl
floor_first (Some k) = refl

mark_two : (x y : Bool) (s t : Option Known) → cond (x || y) (Some Floor) (join_told s t)
    ≡ join_told (cond x (Some Floor) s) (cond y (Some Floor) t)
mark_two true y s t = floor_first (cond y (Some Floor) t)
mark_two false true s t = sym (with_floor s)
mark_two false false s t = refl

mark_of-append : (j k : List Item) (q : NameParts) → mark_of (j ++ k) q ≡ join_told (mark_of j q) (mark_of k q)
mark_of-append j k q =
    ap (λ b. cond b (Some Floor) (status_of (j ++ k) q)) (list_any-append (is_floor_at q) j k)
    ∙ ap (cond (list_any (is_floor_at q) j || list_any (is_floor_at q) k) (Some Floor)) (status_of-append j k q)
    ∙ mark_two (list_any (is_floor_at q) j) (list_any (is_floor_at q) k) (status_of j q) (status_of k q)

union_at : (a b : Bool) (i j : Option Known) → cond (a || b) None (join_told i j)
    ≡ cond (a || b) None (join_told (cond a None i) (cond b None j))
union_at true b i j = refl
union_at false true i j = refl
union_at false false i j = refl

pub view_of_union : ViewOfUnion
view_of_union j k = same_view _ _ (λ q.
    let a = list_any (is_floor_over q) j in
    let b = list_any (is_floor_over q) k in
    get-view_of (j ++ k) q
    ∙ ap (λ t. cond t None (mark_of (j ++ k) q)) (list_any-append (is_floor_over q) j k)
    ∙ ap (cond (a || b) None) (mark_of-append j k q)
    ∙ union_at a b (mark_of j q) (mark_of k q)
    ∙ sym (get-join (view_of j) (view_of k) q
    ∙ ap (λ t. cond (t || is_below (view_of k) q) None (join_told (get (view_of j) q) (get (view_of k) q))) (below-view_of j q)
    ∙ ap (λ t. cond (a || t) None (join_told (get (view_of j) q) (get (view_of k) q))) (below-view_of k q)
    ∙ ap (λ o. cond (a || b) None (join_told o (get (view_of k) q))) (get-view_of j q)
    ∙ ap (λ o. cond (a || b) None (join_told (cond a None (mark_of j q)) o)) (get-view_of k q)))

-- ---- the same items

one_item : (y : Item) (ys : List Item) → view_of (y ∷ ys) ≡ join (view_of_item y) (view_of ys)
one_item y ys = view_of_union (y ∷ []) ys

no_item : (i : Item) → ¬ (IsAmong [] i)
no_item i h = absurd (omega (arith, h.1.0))

-- an item of a list is its first or among the others
first_or_later : (y : Item) (ys : List Item) (i : Item) → IsAmong (y ∷ ys) i → (i ≡ y) ⊎ IsAmong ys i
first_or_later y ys i (zero, h) = inl h.1
first_or_later y ys i (suc n, h) = inr (n, (omega (arith, h.0), h.1))

pub later : (y : Item) (ys : List Item) (i : Item) → IsAmong ys i → IsAmong (y ∷ ys) i
later y ys i (n, h) = (suc n, (omega (arith, h.0), h.1))

pub first : (y : Item) (ys : List Item) → IsAmong (y ∷ ys) y
first y ys = (0, (omega arith, refl))

absorbed : (k : List Item) (i : Item) → IsAmong k i → join (view_of_item i) (view_of k) ≡ view_of k
absorbed [] i h = absurd (no_item i h)
absorbed (y ∷ ys) i h =
    let s = view_of_item i in
    let t = view_of_item y in
    let w = view_of ys in
    ap (join s) (one_item y ys) ∙ (elim (first_or_later y ys i h) [
      | inl e ↦ ap (λ x. join (view_of_item x) (join t w)) e ∙ sym (join_laws.associative t t w)
          ∙ ap (λ v. join v w) (join_laws.idempotent t (views_are_settled (y ∷ [])))
      | inr r ↦ sym (join_laws.associative s t w) ∙ ap (λ v. join v w) (join_laws.commutative s t)
          ∙ join_laws.associative t s w ∙ ap (join t) (absorbed ys i r)
    ]) ∙ sym (one_item y ys)

all_absorbed : (j k : List Item) → AreAmong j k → join (view_of j) (view_of k) ≡ view_of k
all_absorbed [] k h = sym (view_of_union [] k)
all_absorbed (y ∷ ys) k h =
    ap (λ v. join v (view_of k)) (one_item y ys) ∙ join_laws.associative (view_of_item y) (view_of ys) (view_of k)
    ∙ ap (join (view_of_item y)) (all_absorbed ys k (λ i r. h i (later y ys i r))) ∙ absorbed k y (h y (first y ys))

pub same_items_same_view : SameItemsSameView
same_items_same_view j k f g = sym (all_absorbed k j g) ∙ join_laws.commutative (view_of k) (view_of j) ∙ all_absorbed j k f
