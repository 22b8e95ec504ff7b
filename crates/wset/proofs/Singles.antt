-- Joining what one item tells.
use Rattle.std.proofs.Common.{◌≡◌, ℕ, Bool, true, false, cond, List, [], ◌∷◌, ◌||◌, Option}
use Rattle.std.proofs.Common.{None, Some, refl, sym, ap, ◌∙◌, ◌⊎◌, inl, inr, ⊎_elim}
use Rattle.std.proofs.lemmas.Bool.{true≢false, or_cases, or_from, or_right}
use Rattle.std.specs.Ordering.{eq_by_cmp}
use Rattle.std.specs.FinMap.{get, insert, empty, get-insert, get-empty}
use Rattle.wvalues.specs.Names.{NameParts, name_cmp, names_total}
use Rattle.wentries.specs.Knowledge.{Known, Live, Disputed, Retired, Floor, is_above, same_name, same_bytes, join_known}
use Rattle.wset.specs.Views.{View, IsSettled, is_below, known_in, own_status, join, join_told}
use Rattle.wset.specs.Items.{SegmentItem, RetirementItem, FloorItem, mark_of, view_of_item}
use Rattle.wset.specs.Words.{is_floor, is_reached}
use Rattle.wset.specs.Merging.{join_with}
use Rattle.wset.proofs.ViewFloors.{same_test, top_floor, below_floor}
use Rattle.wentries.proofs.Floors.{both_cases, same_name-true, same_name-refl, same_bytes-refl, same_bytes-true}
use Rattle.wentries.proofs.Floors.{not_above_itself, above_trans, no_some, same_some}
use Rattle.wset.proofs.Joining.{same_view, get-join, with_none, with_floor}
use Rattle.wset.proofs.Union.{get-view_of, unnamed}
use Rattle.wset.proofs.Merging.{with_some}

-- of this name this alone is known, and of others nothing
abbrev pub IsSingle : View → NameParts → Known → Type 0
IsSingle w n k = (q : NameParts) → get w q ≡ cond (same_name q n) (Some k) None

pub segment_single : (n : NameParts) (bytes : List ℕ) → IsSingle (view_of_item (SegmentItem n bytes)) n (Live bytes)
segment_single n bytes q = get-view_of (SegmentItem n bytes ∷ []) q ∙ by (same_name q n) refl
  where
    by : (b : Bool) → same_name q n ≡ b → mark_of (SegmentItem n bytes ∷ []) q ≡ cond b (Some (Live bytes)) None
    by true e = rw e refl
    by false e = rw e refl

pub retirement_single : (n : NameParts) → IsSingle (view_of_item (RetirementItem n)) n Retired
retirement_single n q = get-view_of (RetirementItem n ∷ []) q ∙ by (same_name q n) refl
  where
    by : (b : Bool) → same_name q n ≡ b → mark_of (RetirementItem n ∷ []) q ≡ cond b (Some Retired) None
    by true e = rw e refl
    by false e = rw e refl

pub not_above : (n : NameParts) → is_above n n ≡ false
not_above n = by (is_above n n) refl
  where
    by : (b : Bool) → is_above n n ≡ b → is_above n n ≡ false
    by true is = absurd (not_above_itself n is)
    by false is = is

pub floor_single : (n : NameParts) → IsSingle (view_of_item (FloorItem n)) n Floor
floor_single n q = get-view_of (FloorItem n ∷ []) q ∙ by (is_above q n) refl (same_name q n) refl
  where
    by : (a : Bool) → is_above q n ≡ a → (b : Bool) → same_name q n ≡ b
        → cond (a || false) None (mark_of (FloorItem n ∷ []) q) ≡ cond b (Some Floor) None
    by true over true same = absurd (both_cases _ (ap (λ x. is_above x n) (sym (same_name-true q n same)) ∙ over) (not_above n))
    by true over false same = refl
    by false over true same = rw same refl
    by false over false same = unnamed (FloorItem n ∷ []) q (or_from _ _ same refl) (or_from _ _ over refl)

told_single : (w : View) (n m : NameParts) (k : Known) → IsSingle w n k → get w m ≡ Some Floor → (same_name m n ≡ true) × (k ≡ Floor)
told_single w n m k single found = by (same_name m n) refl (sym (single m) ∙ found)
  where
    by : (b : Bool) → same_name m n ≡ b → cond b (Some k) None ≡ Some Floor → (same_name m n ≡ true) × (k ≡ Floor)
    by true same e = (same, same_some k Floor e)
    by false same e = absurd (no_some Floor e)

below_single : (w : View) (n : NameParts) (k : Known) → IsSingle w n k → (k ≡ Floor → ⊥) → (q : NameParts) → is_below w q ≡ false
below_single w n k single other q = by (is_below w q) refl
  where
    by : (b : Bool) → is_below w q ≡ b → is_below w q ≡ false
    by true is = let t = top_floor w q is in absurd (other (told_single w n t.floor k single t.found).1)
    by false is = is

pub below_floor_item : (n q : NameParts) → is_below (view_of_item (FloorItem n)) q ≡ is_above q n
below_floor_item n q = same_test _ _ (λ h.
    let t = top_floor (view_of_item (FloorItem n)) q h in
    ap (is_above q) (sym (same_name-true t.floor n (told_single _ n t.floor Floor (floor_single n) t.found).0)) ∙ t.above)
    (λ h. below_floor (view_of_item (FloorItem n)) q n (floor_single n n ∙ ap (λ b. cond b (Some Floor) None) (same_name-refl n)) h)

-- what a join with such a view tells
joined_single : (v w : View) (n q : NameParts) (k : Known) → IsSingle w n k → (k ≡ Floor → ⊥)
    → get (join v w) q ≡ cond (is_below v q || false) None (join_told (get v q) (cond (same_name q n) (Some k) None))
joined_single v w n q k single other =
    get-join v w q ∙ ap (λ b. cond (is_below v q || b) None (join_told (get v q) (get w q))) (below_single w n k single other q)
    ∙ ap (λ o. cond (is_below v q || false) None (join_told (get v q) o)) (single q)

pub joined_floor : (v : View) (n q : NameParts) → get (join v (view_of_item (FloorItem n))) q
    ≡ cond (is_below v q || is_above q n) None (join_told (get v q) (cond (same_name q n) (Some Floor) None))
joined_floor v n q =
    get-join v (view_of_item (FloorItem n)) q
    ∙ ap (λ b. cond (is_below v q || b) None (join_told (get v q) (get (view_of_item (FloorItem n)) q))) (below_floor_item n q)
    ∙ ap (λ o. cond (is_below v q || is_above q n) None (join_told (get v q) o)) (floor_single n q)

-- a name of which nothing is learned
pub told_nothing : (v : View) (q : NameParts) → IsSettled v → cond (is_below v q || false) None (join_told (get v q) None) ≡ get v q
told_nothing v q h = by (is_below v q) refl
  where
    by : (b : Bool) → is_below v q ≡ b → cond (b || false) None (join_told (get v q) None) ≡ get v q
    by true low = sym (h q low)
    by false low = sym (with_none (get v q))

put_joins : (v w : View) (n : NameParts) (k : Known) → IsSettled v → is_below v n ≡ false → (k ≡ Floor → ⊥) → IsSingle w n k
    → insert v n (join_with (get v n) k) ≡ join v w
put_joins v w n k h high other single = same_view _ _ (λ q.
    get-insert names_total v n (join_with (get v n) k) q ∙ by q (same_name q n) refl ∙ sym (joined_single v w n q k single other))
  where
    by : (q : NameParts) (b : Bool) → same_name q n ≡ b → cond (eq_by_cmp name_cmp q n) (Some (join_with (get v n) k))
        (get v q) ≡ cond (is_below v q || false) None (join_told (get v q) (cond (same_name q n) (Some k) None))
    by q true same =
        rw same (with_some (get v n) k
        ∙ ap (λ x. join_told (get v x) (Some k)) (sym (same_name-true q n same))
        ∙ ap (λ b. cond (b || false) None (join_told (get v q) (Some k))) (sym (ap (is_below v) (same_name-true q n same) ∙ high)))
    by q false same = rw same (sym (told_nothing v q h))

-- what is known of the name already
kept_joins : (v w : View) (n : NameParts) (j k : Known) → IsSettled v → (k ≡ Floor → ⊥) → IsSingle w n k → get v n ≡ Some j
    → join_known j k ≡ j → v ≡ join v w
kept_joins v w n j k h other single e keeps = same_view _ _ (λ q. by q (same_name q n) refl ∙ sym (joined_single v w n q k single other))
  where
    high : is_below v n ≡ false
    high = by_test (is_below v n) refl
      where
        by_test : (b : Bool) → is_below v n ≡ b → is_below v n ≡ false
        by_test true is = absurd (no_some j (sym (h n is) ∙ e))
        by_test false is = is

    by : (q : NameParts) (b : Bool) → same_name q n ≡ b
        → get v q ≡ cond (is_below v q || false) None (join_told (get v q) (cond (same_name q n) (Some k) None))
    by q true same =
        let is = same_name-true q n same in
        rw same (ap (get v) is ∙ e ∙ sym (ap (λ (x : Known). Some x) keeps) ∙ ap (λ o. join_told o (Some k)) (sym (ap (get v) is ∙ e))
        ∙ ap (λ b. cond (b || false) None (join_told (get v q) (Some k))) (sym (ap (is_below v) is ∙ high)))
    by q false same = rw same (sym (told_nothing v q h))

-- a name below a floor
low_joins : (v w : View) (n : NameParts) (k : Known) → IsSettled v → is_below v n ≡ true → (k ≡ Floor → ⊥) → IsSingle w n k → v ≡ join v w
low_joins v w n k h low other single = same_view _ _ (λ q. by q (same_name q n) refl ∙ sym (joined_single v w n q k single other))
  where
    by : (q : NameParts) (b : Bool) → same_name q n ≡ b
        → get v q ≡ cond (is_below v q || false) None (join_told (get v q) (cond (same_name q n) (Some k) None))
    by q true same =
        let is = same_name-true q n same in
        ap (get v) is ∙ h n low ∙ sym (ap
        (λ b. cond (b || false) None (join_told (get v q) (cond (same_name q n) (Some k) None))) (ap (is_below v) is ∙ low))
    by q false same = rw same (sym (told_nothing v q h))

-- ---- by what was known of the name

live_no_floor : (bytes : List ℕ) → Live bytes ≡ Floor → ⊥
live_no_floor bytes e = cc

disputed_no_floor : Disputed ≡ Floor → ⊥
disputed_no_floor e = cc

retired_no_floor : Retired ≡ Floor → ⊥
retired_no_floor e = cc

pub take_new : (v : View) (n : NameParts) (bytes : List ℕ) → IsSettled v → is_below v n ≡ false → get v n ≡ None
    → insert v n (Live bytes) ≡ join v (view_of_item (SegmentItem n bytes))
take_new v n bytes h high e = ap (insert v n) (sym (ap (λ o. join_with o (Live bytes)) e)) ∙ put_joins v _ n (Live bytes) h
    high (live_no_floor bytes) (segment_single n bytes)

pub take_same : (v : View) (n : NameParts) (a b : List ℕ) → IsSettled v → get v n ≡ Some (Live a) → a ≡ b
    → v ≡ join v (view_of_item (SegmentItem n b))
take_same v n a b h e same = kept_joins v _ n (Live a) (Live b) h (live_no_floor b) (segment_single n b) e
    (rw (← same) (rw (same_bytes-refl a) refl))

pub take_other : (v : View) (n : NameParts) (a b : List ℕ) → IsSettled v → is_below v n ≡ false → get v n ≡ Some (Live a)
    → same_bytes a b ≡ false → insert v n Disputed ≡ join v (view_of_item (SegmentItem n b))
take_other v n a b h high e other =
    let joined : join_with (get v n) (Live b) ≡ Disputed = ap (λ o. join_with o (Live b)) e ∙ rw other refl in
    ap (insert v n) (sym joined) ∙ put_joins v _ n (Live b) h high (live_no_floor b) (segment_single n b)

pub take_low : (v : View) (n : NameParts) (b : List ℕ) → IsSettled v → is_below v n ≡ true → v ≡ join v (view_of_item (SegmentItem n b))
take_low v n b h low = low_joins v _ n (Live b) h low (live_no_floor b) (segment_single n b)

-- disputed, retired or a floor
pub take_beaten : (v : View) (n : NameParts) (j : Known) (b : List ℕ) → IsSettled v → get v n ≡ Some j
    → join_known j (Live b) ≡ j → v ≡ join v (view_of_item (SegmentItem n b))
take_beaten v n j b h e keeps = kept_joins v _ n j (Live b) h (live_no_floor b) (segment_single n b) e keeps

pub retire_low : (v : View) (n : NameParts) → IsSettled v → is_below v n ≡ true → v ≡ join v (view_of_item (RetirementItem n))
retire_low v n h low = low_joins v _ n Retired h low retired_no_floor (retirement_single n)

pub retire_kept : (v : View) (n : NameParts) (j : Known) → IsSettled v → get v n ≡ Some j → join_known j Retired ≡ j
    → v ≡ join v (view_of_item (RetirementItem n))
retire_kept v n j h e keeps = kept_joins v _ n j Retired h retired_no_floor (retirement_single n) e keeps

pub retire_other : (v : View) (n : NameParts) → IsSettled v → is_below v n ≡ false → (get v n ≡ Some Floor → ⊥)
    → insert v n Retired ≡ join v (view_of_item (RetirementItem n))
retire_other v n h high other = ap (insert v n) (sym (by (get v n) other)) ∙ put_joins v _ n Retired h high retired_no_floor
    (retirement_single n)
  where
    by : (o : Option Known) → (o ≡ Some Floor → ⊥) → join_with o Retired ≡ Retired
    by None no_floor = refl
    by (Some (Live a)) no_floor = refl
    by (Some Disputed) no_floor = refl
    by (Some Retired) no_floor = refl
    by (Some Floor) no_floor = absurd (no_floor refl)

-- a name that is known to be retired is below a floor, retired, or a floor
pub retire_known : (v : View) (n : NameParts) → IsSettled v → known_in v n ≡ Some Retired → v ≡ join v (view_of_item (RetirementItem n))
retire_known v n h known = by (is_below v n) refl known
  where
    at_entry : (o : Option Known) → get v n ≡ o → own_status o ≡ Some Retired → v ≡ join v (view_of_item (RetirementItem n))
    at_entry None is e = absurd (no_some Retired e)
    at_entry (Some (Live b)) is e = absurd cc
    at_entry (Some Disputed) is e = absurd cc
    at_entry (Some Retired) is e = retire_kept v n Retired h is refl
    at_entry (Some Floor) is e = retire_kept v n Floor h is refl

    by : (b : Bool) → is_below v n ≡ b → cond b (Some Retired) (own_status (get v n)) ≡ Some Retired
        → v ≡ join v (view_of_item (RetirementItem n))
    by true low e = retire_low v n h low
    by false low e = at_entry (get v n) refl e

-- ---- a name that is made disputed

disputed_single : (n : NameParts) → IsSingle (insert empty n Disputed) n Disputed
disputed_single n q = get-insert names_total empty n Disputed q ∙ ap (cond (eq_by_cmp name_cmp q n) (Some Disputed)) (get-empty name_cmp q)

pub dispute_new : (v : View) (n : NameParts) → IsSettled v → is_below v n ≡ false → get v n ≡ None
    → insert v n Disputed ≡ join v (insert empty n Disputed)
dispute_new v n h high e = ap (insert v n) (sym (ap (λ o. join_with o Disputed) e)) ∙ put_joins v _ n Disputed h high
    disputed_no_floor (disputed_single n)

pub dispute_live : (v : View) (n : NameParts) (a : List ℕ) → IsSettled v → is_below v n ≡ false → get v n ≡ Some (Live a)
    → insert v n Disputed ≡ join v (insert empty n Disputed)
dispute_live v n a h high e = ap (insert v n) (sym (ap (λ o. join_with o Disputed) e)) ∙ put_joins v _ n Disputed h high
    disputed_no_floor (disputed_single n)

-- ---- a floor

-- a floor that does not rise
pub floor_reached : (v : View) (n : NameParts) → IsSettled v → is_reached v n ≡ true → v ≡ join v (view_of_item (FloorItem n))
floor_reached v n h reached = same_view _ _ (λ q. by q (is_above q n) refl (same_name q n) refl ∙ sym (joined_floor v n q))
  where
    floor_entry : (o : Option Known) → is_floor o ≡ true → o ≡ Some Floor
    floor_entry None e = absurd (true≢false (sym e))
    floor_entry (Some (Live b)) e = absurd (true≢false (sym e))
    floor_entry (Some Disputed) e = absurd (true≢false (sym e))
    floor_entry (Some Retired) e = absurd (true≢false (sym e))
    floor_entry (Some Floor) e = refl

    low_above : (q : NameParts) → is_above q n ≡ true → is_below v q ≡ true
    low_above q over = ⊎_elim
        (λ low. let t = top_floor v n low in below_floor v q t.floor t.found (above_trans q n t.floor over t.above))
        (λ at_it. below_floor v q n (floor_entry (get v n) at_it) over)
        (or_cases (is_below v n) _ reached)

    at_name : (q : NameParts) → q ≡ n → get v q ≡ cond (is_below v q || false) None (join_told (get v q) (Some Floor))
    at_name q is = by_low (is_below v q) refl
      where
        by_low : (b : Bool) → is_below v q ≡ b → get v q ≡ cond (b || false) None (join_told (get v q) (Some Floor))
        by_low true low = h q low
        by_low false low =
            let found : get v q ≡ Some Floor = ⊎_elim (λ x. absurd (both_cases _ (ap (is_below v) is ∙ x) low))
            (λ x. ap (get v) is ∙ floor_entry (get v n) x) (or_cases (is_below v n) _ reached) in
            found ∙ sym (with_floor (get v q))

    by : (q : NameParts) (a : Bool) → is_above q n ≡ a → (b : Bool) → same_name q n ≡ b
        → get v q ≡ cond (is_below v q || is_above q n) None (join_told (get v q) (cond (same_name q n) (Some Floor) None))
    by q true over b same = h q (low_above q over)
        ∙ sym (ap (λ c. cond c None (join_told (get v q) (cond (same_name q n) (Some Floor) None))) (or_right _ _ over))
    by q false over true same = rw (over, same) (at_name q (same_name-true q n same))
    by q false over false same = rw (over, same) (sym (told_nothing v q h))

-- a content that is not the known one
pub other_content : (v : View) (n : NameParts) (a b : List ℕ) → ¬ (get v n ≡ Some (Live b)) → get v n ≡ Some (Live a)
    → same_bytes a b ≡ false
other_content v n a b other was = by (same_bytes a b) refl
  where
    by : (t : Bool) → same_bytes a b ≡ t → same_bytes a b ≡ false
    by false e = e
    by true e = absurd (other (was ∙ ap (λ (bytes : List ℕ). Some (Live bytes)) (same_bytes-true a b e)))

pub known_high : (v : View) (n : NameParts) (o : Option Known) → is_below v n ≡ false → get v n ≡ o → known_in v n ≡ own_status o
known_high v n o high is = ap (λ b. cond b (Some Retired) (own_status (get v n))) high ∙ ap own_status is

-- ---- disputes by what is known

pub dispute_settled : (v : View) (n : NameParts) → IsSettled v → (known_in v n ≡ Some Disputed)
    ⊎ (known_in v n ≡ Some Retired) → v ≡ join v (insert empty n Disputed)
dispute_settled v n h known = by (is_below v n) refl known
  where
    at_entry : (o : Option Known) → get v n ≡ o → (own_status o ≡ Some Disputed) ⊎ (own_status o ≡ Some Retired)
        → v ≡ join v (insert empty n Disputed)
    at_entry None is e = absurd (⊎_elim (λ x. no_some Disputed x) (λ x. no_some Retired x) e)
    at_entry (Some (Live b)) is e = absurd (⊎_elim live_disputed live_retired e)
      where
        live_disputed : Some (Live b) ≡ Some Disputed → ⊥
        live_disputed e = cc

        live_retired : Some (Live b) ≡ Some Retired → ⊥
        live_retired e = cc
    at_entry (Some Disputed) is e = kept_joins v _ n Disputed Disputed h disputed_no_floor (disputed_single n) is refl
    at_entry (Some Retired) is e = kept_joins v _ n Retired Disputed h disputed_no_floor (disputed_single n) is refl
    at_entry (Some Floor) is e = kept_joins v _ n Floor Disputed h disputed_no_floor (disputed_single n) is refl

    by : (b : Bool) → is_below v n ≡ b → (cond b (Some Retired) (own_status (get v n)) ≡ Some Disputed)
        ⊎ (cond b (Some Retired) (own_status (get v n)) ≡ Some Retired) → v ≡ join v (insert empty n Disputed)
    by true low e = low_joins v _ n Disputed h low disputed_no_floor (disputed_single n)
    by false low e = at_entry (get v n) refl e

pub dispute_other : (v : View) (n : NameParts) (b : Bool) → IsSettled v
    → ((known_in v n ≡ Some Disputed) ⊎ (known_in v n ≡ Some Retired) → b ≡ true) → is_below v n ≡ false → b ≡ false
    → insert v n Disputed ≡ join v (insert empty n Disputed)
dispute_other v n b h settled high other = by (get v n) refl
  where
    not_settled : (o : Option Known) → get v n ≡ o → (own_status o ≡ Some Disputed) ⊎ (own_status o ≡ Some Retired) → ⊥
    not_settled o is e = true≢false (sym
        (settled (⊎_elim (λ x. inl (known_high v n o high is ∙ x)) (λ x. inr (known_high v n o high is ∙ x)) e)) ∙ other)

    by : (o : Option Known) → get v n ≡ o → insert v n Disputed ≡ join v (insert empty n Disputed)
    by None is = dispute_new v n h high is
    by (Some (Live a)) is = dispute_live v n a h high is
    by (Some Disputed) is = absurd (not_settled (Some Disputed) is (inl refl))
    by (Some Retired) is = absurd (not_settled (Some Retired) is (inr refl))
    by (Some Floor) is = absurd (not_settled (Some Floor) is (inr refl))
