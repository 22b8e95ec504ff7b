-- A name behind all that are known: what it adds to the entries.
use Rattle.std.proofs.Common.{◌≡◌, ℕ, cond, not, List, [], ◌∷◌, ◌++◌, None, Some, refl, sym, ap, ◌∙◌, is_eq, Bool, true, false, ◌||◌}
use Rattle.std.proofs.lemmas.Bool.{and_parts, or_right}
use Rattle.std.proofs.lemmas.Cmp.{tied_itself}
use Rattle.std.specs.Ordering.{nat_cmp, ordering_then}
use Rattle.std.specs.Cmp.Lexicographic.{slice_cmp, nat_list_cmp_total}
use Rattle.std.specs.declared.cmp.Ordering.TheVariants.{Less, Equal, Greater}
use Rattle.std.specs.FinMap.Entries.{by_order}
use Rattle.std.specs.FinMap.{get, insert, entries, put, find, get-entries, get-insert, entries-insert}
use Rattle.wvalues.specs.Names.{NameParts, name_cmp, names_total}
use Rattle.wentries.specs.Knowledge.{Known, Live, Disputed, Retired, Floor, is_above, same_bytes, same_name}
use Rattle.wset.specs.Views.{View, IsSettled, is_below, join, join_told}
use Rattle.wset.specs.Items.{SegmentItem, RetirementItem, FloorItem, view_of_item}
use Rattle.wentries.specs.Entries.{AreBelow, AreOriginsBelow, above_floor}
use Rattle.wset.specs.Lending.{IsAbove, IsBehindOrigins, only_disputed}
use Rattle.wentries.proofs.Floors.{both_cases, same_name-true, same_bytes-true}
use Rattle.wentries.proofs.Finding.{turned}
use Rattle.wset.proofs.Joining.{same_view, with_floor}
use Rattle.wset.proofs.Settling.{not_low}
use Rattle.wset.proofs.Singles.{joined_floor, not_above, told_nothing, take_new, retire_other, dispute_new}

greater : (e : NameParts × Known) (n : NameParts) → name_cmp e.0 n ≡ Less → name_cmp n e.0 ≡ Greater
greater e n h = turned e.0 n Less h

pub put_last : (n : NameParts) (k : Known) (es : List (NameParts × Known)) → AreBelow n es → put name_cmp n k es ≡ es ++ (n, k) ∷ []
put_last n k [] h = refl
put_last n k (e ∷ es) h =
    ap (λ o. by_order o ((n, k) ∷ e ∷ es) ((e.0, k) ∷ es) (e ∷ put name_cmp n k es)) (greater e n h.0)
    ∙ ap (λ l. e ∷ l) (put_last n k es h.1)

find_last : (n : NameParts) (es : List (NameParts × Known)) → AreBelow n es → find name_cmp n es ≡ None
find_last n [] h = refl
find_last n (e ∷ es) h = ap (λ o. cond (is_eq o) (Some e.1) (find name_cmp n es)) (greater e n h.0) ∙ find_last n es h.1

unknown : (v : View) (n : NameParts) → IsAbove v n → get v n ≡ None
unknown v n h = get-entries v n ∙ find_last n (entries v) h

inserted : (v : View) (n : NameParts) (k : Known) → IsAbove v n → entries (insert v n k) ≡ entries v ++ (n, k) ∷ []
inserted v n k h = entries-insert names_total v n k ∙ put_last n k (entries v) h

high : (v : View) (n : NameParts) → IsAbove v n → is_below v n ≡ false
high v n h = not_low n (entries v) h

no_floor : (v : View) (n : NameParts) → IsAbove v n → get v n ≡ Some Floor → ⊥
no_floor v n h e = let none : None ≡ Some Floor = sym (unknown v n h) ∙ e in cc

pub take_later : (v : View) (n : NameParts) (bytes : List ℕ) → IsSettled v → IsAbove v n
    → entries (join v (view_of_item (SegmentItem n bytes))) ≡ entries v ++ (n, Live bytes) ∷ []
take_later v n bytes s h = ap entries (sym (take_new v n bytes s (high v n h) (unknown v n h))) ∙ inserted v n (Live bytes) h

pub retire_later : (v : View) (n : NameParts) → IsSettled v → IsAbove v n
    → entries (join v (view_of_item (RetirementItem n))) ≡ entries v ++ (n, Retired) ∷ []
retire_later v n s h = ap entries (sym (retire_other v n s (high v n h) (no_floor v n h))) ∙ inserted v n Retired h

pub dispute_later : (v : View) (n : NameParts) → IsSettled v → IsAbove v n → entries (join v (only_disputed n))
    ≡ entries v ++ (n, Disputed) ∷ []
dispute_later v n s h = ap entries (sym (dispute_new v n s (high v n h) (unknown v n h))) ∙ inserted v n Disputed h

-- ---- a floor behind all origins

pub below_of_origins : (n : NameParts) (es : List (NameParts × Known)) → AreOriginsBelow n.origin es → AreBelow n es
below_of_origins n [] h = tt
below_of_origins n (e ∷ es) h = (ap (λ o. ordering_then o (nat_cmp e.0.number n.number)) h.0, below_of_origins n es h.1)

pub above_all : (v : View) (n : NameParts) → IsBehindOrigins v n → IsAbove v n
above_all v n h = below_of_origins n (entries v) h

not_equal : Less ≡ Equal → ⊥
not_equal e = cc

-- a name of this origin is unknown
unknown_of_origin : (n q : NameParts) (es : List (NameParts × Known)) → is_above q n ≡ true → AreOriginsBelow n.origin es
    → find name_cmp q es ≡ None
unknown_of_origin n q [] over h = refl
unknown_of_origin n q (e ∷ es) over h = by (same_name q e.0) refl (unknown_of_origin n q es over h.1)
  where
    by : (b : Bool) → same_name q e.0 ≡ b → find name_cmp q es ≡ None → find name_cmp q (e ∷ es) ≡ None
    by true same rest =
        let origin : q.origin ≡ n.origin = same_bytes-true q.origin n.origin (and_parts (same_bytes q.origin n.origin) _ over).0 in
        absurd (not_equal (sym h.0 ∙ ap (λ x. slice_cmp nat_cmp x.origin n.origin) (sym (same_name-true q e.0 same))
        ∙ ap (λ o. slice_cmp nat_cmp o n.origin) origin ∙ tied_itself nat_list_cmp_total n.origin))
    by false same rest = ap (λ b. cond b (Some e.1) (find name_cmp q es)) same ∙ rest

floor_inserted : (v : View) (n : NameParts) → IsSettled v → IsBehindOrigins v n → insert v n Floor ≡ join v (view_of_item (FloorItem n))
floor_inserted v n s h = same_view _ _ (λ q. get-insert names_total v n Floor q ∙ by q (is_above q n) refl (same_name q n)
    refl ∙ sym (joined_floor v n q))
  where
    by : (q : NameParts) (a : Bool) → is_above q n ≡ a → (b : Bool) → same_name q n ≡ b
        → cond (same_name q n) (Some Floor) (get v q) ≡ cond (is_below v q || is_above q n) None
        (join_told (get v q) (cond (same_name q n) (Some Floor) None))
    by q true over true same = absurd (both_cases _ (ap (λ x. is_above x n) (sym (same_name-true q n same)) ∙ over) (not_above n))
    by q true over false same = rw same (get-entries v q ∙ unknown_of_origin n q (entries v) over h
        ∙ sym (ap (λ c. cond c None (join_told (get v q) None)) (or_right _ _ over)))
    by q false over true same =
        rw (over, same) (sym (ap (λ b. cond (b || false) None (join_told (get v q) (Some Floor)))
        (ap (is_below v) (same_name-true q n same) ∙ high v n (above_all v n h)) ∙ with_floor (get v q)))
    by q false over false same = rw (over, same) (sym (told_nothing v q s))

pub floor_later : (v : View) (n : NameParts) → IsSettled v → IsBehindOrigins v n
    → entries (join v (view_of_item (FloorItem n))) ≡ entries v ++ (n, Floor) ∷ []
floor_later v n s h = ap entries (sym (floor_inserted v n s h)) ∙ inserted v n Floor (above_all v n h)

not_of_origin : (n q : NameParts) → slice_cmp nat_cmp q.origin n.origin ≡ Less → is_above q n ≡ false
not_of_origin n q h = by (is_above q n) refl
  where
    by : (b : Bool) → is_above q n ≡ b → is_above q n ≡ false
    by true over =
        absurd (not_equal (sym h ∙ ap (λ o. slice_cmp nat_cmp o n.origin) (same_bytes-true q.origin n.origin
        (and_parts (same_bytes q.origin n.origin) _ over).0) ∙ tied_itself nat_list_cmp_total n.origin))
    by false over = over

none_below : (n : NameParts) (es : List (NameParts × Known)) → AreOriginsBelow n.origin es
    → above_floor n (es ++ (n, Floor) ∷ []) ≡ es ++ (n, Floor) ∷ []
none_below n [] h = ap (λ b. cond (not b) ((n, Floor) ∷ []) []) (not_above n)
none_below n (e ∷ es) h =
    ap (λ b. cond (not b) (e ∷ above_floor n (es ++ (n, Floor) ∷ [])) (above_floor n (es ++ (n, Floor) ∷ []))) (not_of_origin n e.0 h.0)
    ∙ ap (λ l. e ∷ l) (none_below n es h.1)

-- nothing that was held is below it
pub floor_alone : (n : NameParts) (es : List (NameParts × Known)) → AreOriginsBelow n.origin es
    → put name_cmp n Floor es ≡ above_floor n (put name_cmp n Floor es)
floor_alone n es h =
    let last = put_last n Floor es (below_of_origins n es h) in
    last ∙ sym (ap (above_floor n) last ∙ none_below n es h)
