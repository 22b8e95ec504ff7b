-- The view that rising entries stand for.
use Rattle.std.proofs.Common.{◌≡◌, T, List, refl, sym, ap, ◌∙◌, subst, [], ◌∷◌, length, arith, Bool}
use Rattle.std.proofs.Common.{true, false, cond, not, None, Some, ◌||◌, ⊎_elim, inl, inr, is_eq}
use Rattle.std.proofs.lemmas.Bool.{true≢false, or_cases, or_from, or_left, or_right}
use Rattle.std.specs.declared.cmp.Ordering.{Ordering}
use Rattle.std.specs.declared.cmp.Ordering.TheVariants.{Less, Equal, Greater}
use Rattle.std.specs.FinMap.Entries.{by_order, find-put, find-where_key, is_sorted-put, is_sorted-where_key}
use Rattle.std.specs.FinMap.{empty, len-entries, len-empty, find, put, is_sorted, entries, insert, get, from_sorted}
use Rattle.std.specs.FinMap.{entries_sorted, same_entries_map, entries-insert, entries-from_sorted, get-from_sorted}
use Rattle.wvalues.specs.Names.{NameParts, name_cmp, names_total}
use Rattle.wentries.specs.Knowledge.{Known, Floor, is_above, is_over, same_name}
use Rattle.wset.specs.Views.{View, IsSettled, is_below, join, join_names, join_told, lives, live_of}
use Rattle.wentries.specs.declared.entries.Entry.{Entry}
use Rattle.wentries.specs.Entries.{AreSettled, IsRising, above_floor, above_floors, known_entries, known_entry}
use Rattle.wset.specs.Merging.{IsKnownTo, join_lists}
use Rattle.std.specs.List.{AllByRecursion, filter_map, list_any}
use Rattle.wset.proofs.Joining.{same_view, get-join, join_laws, with_floor, with_none}
use Rattle.wset.specs.Items.{FloorItem, view_of_item}
use Rattle.wentries.specs.Holding.{known_of}
use Rattle.wentries.proofs.Floors.{find_below, first, second, any_trans, both_cases, exact_names}
use Rattle.wentries.proofs.Floors.{over_floor, same_name-refl, same_name-true, told_over}
use Rattle.wset.proofs.Merging.{entries-join_names}
use Rattle.wset.proofs.Settling.{entries-join, settled_entries, settled_view}
use Rattle.wset.proofs.Singles.{joined_floor, told_nothing}
use Rattle.wentries.proofs.Sizes.{rising_put}

abbrev pub stored_view : List Entry → View
stored_view es = from_sorted (known_entries es)

pub entries-view : (es : List Entry) → IsRising es → entries (stored_view es) ≡ known_entries es
entries-view es h = entries-from_sorted name_cmp (known_entries es) h

pub get-view : (es : List Entry) (n : NameParts) → IsRising es → get (stored_view es) n ≡ find name_cmp n (known_entries es)
get-view es n h = get-from_sorted name_cmp (known_entries es) n h

pub view_put : (es fs : List Entry) (n : NameParts) (k : Known) → IsRising es
    → known_entries fs ≡ put name_cmp n k (known_entries es) → stored_view fs ≡ insert (stored_view es) n k
view_put es fs n k h is = same_entries_map _ _ (
    entries-view fs (rising_put es fs n k h is) ∙ is ∙ ap (put name_cmp n k) (sym (entries-view es h))
    ∙ sym (entries-insert names_total (stored_view es) n k))

joined_entries : (es fs gs : List Entry) → IsRising es → IsRising fs
    → known_entries gs ≡ above_floors (join_lists (known_entries es) (known_entries fs))
    → known_entries gs ≡ entries (join (stored_view es) (stored_view fs))
joined_entries es fs gs h k is =
    is ∙ ap (λ l. above_floors (join_lists l (known_entries fs))) (sym (entries-view es h))
    ∙ ap (λ l. above_floors (join_lists (entries (stored_view es)) l)) (sym (entries-view fs k))
    ∙ sym (entries-join (stored_view es) (stored_view fs))

pub rising_join : (es fs gs : List Entry) → IsRising es → IsRising fs
    → known_entries gs ≡ above_floors (join_lists (known_entries es) (known_entries fs)) → IsRising gs
rising_join es fs gs h k is =
    subst (λ l. T (is_sorted name_cmp l)) (sym (joined_entries es fs gs h k is)) (entries_sorted (join (stored_view es) (stored_view fs)))

pub view_join : (es fs gs : List Entry) → IsRising es → IsRising fs
    → known_entries gs ≡ above_floors (join_lists (known_entries es) (known_entries fs))
    → stored_view gs ≡ join (stored_view es) (stored_view fs)
view_join es fs gs h k is = same_entries_map _ _ (entries-view gs (rising_join es fs gs h k is) ∙ joined_entries es fs gs h k is)

-- what stands for a view that is settled is settled
pub settled_by : (gs : List Entry) (v : View) → IsRising gs → stored_view gs ≡ v → IsSettled v → AreSettled (known_entries gs)
settled_by gs v h is s = settled_entries (known_entries gs) h (subst IsSettled (sym is) s)

pub settled_join : (es fs gs : List Entry) → IsRising es → IsRising fs
    → known_entries gs ≡ above_floors (join_lists (known_entries es) (known_entries fs)) → AreSettled (known_entries gs)
settled_join es fs gs h k is = settled_by gs _ (rising_join es fs gs h k is) (view_join es fs gs h k is)
    (join_laws.settled (stored_view es) (stored_view fs))

-- ---- a floor that rises

pub rising_floor : (es gs : List Entry) (n : NameParts) → IsRising es
    → known_entries gs ≡ above_floor n (put name_cmp n Floor (known_entries es)) → IsRising gs
rising_floor es gs n h is =
    subst (λ l. T (is_sorted name_cmp l)) (sym is) (is_sorted-where_key name_cmp (λ m. not (is_above m n))
    (put name_cmp n Floor (known_entries es)) (is_sorted-put name_cmp names_total n Floor (known_entries es) h))

alike : (n q x : NameParts) → name_cmp q x ≡ Equal → not (is_above x n) ≡ not (is_above q n)
alike n q x h = ap (λ m. not (is_above m n)) (sym (exact_names q x h))

pub view_floor : (es gs : List Entry) (n : NameParts) → IsRising es → AreSettled (known_entries es)
    → list_any (is_over n) (known_entries es) ≡ false
    → known_entries gs ≡ above_floor n (put name_cmp n Floor (known_entries es))
    → stored_view gs ≡ join (stored_view es) (view_of_item (FloorItem n))
view_floor es gs n h s high is = same_view _ _ (λ q.
    get-view gs q (rising_floor es gs n h is)
    ∙ ap (find name_cmp q) is
    ∙ find-where_key name_cmp (λ m. not (is_above m n)) q (alike n q) (put name_cmp n Floor (known_entries es))
    ∙ ap (λ o. cond (not (is_above q n)) o None) (find-put name_cmp names_total q n Floor (known_entries es))
    ∙ ap (λ o. cond (not (is_above q n)) (cond (same_name q n) (Some Floor) o) None) (sym (get-view es q h))
    ∙ by q (is_above q n) refl (same_name q n) refl
    ∙ sym (joined_floor (stored_view es) n q))
  where
    settled_es : IsSettled (stored_view es)
    settled_es = settled_view (known_entries es) h s

    not_under : is_below (stored_view es) n ≡ false
    not_under = ap (list_any (is_over n)) (entries-view es h) ∙ high

    by : (q : NameParts) (a : Bool) → is_above q n ≡ a → (b : Bool) → same_name q n ≡ b
        → cond (not (is_above q n)) (cond (same_name q n) (Some Floor) (get (stored_view es) q)) None
        ≡ cond (is_below (stored_view es) q || is_above q n) None (join_told (get (stored_view es) q)
        (cond (same_name q n) (Some Floor) None))
    by q true over b same = ap (λ c. cond (not c) (cond (same_name q n) (Some Floor) (get (stored_view es) q)) None) over
        ∙ sym (ap (λ c. cond c None (join_told (get (stored_view es) q) (cond (same_name q n) (Some Floor) None))) (or_right _ _ over))
    by q false over true same =
        rw (over, same) (sym (ap (λ b. cond (b || false) None (join_told (get (stored_view es) q) (Some Floor)))
        (ap (is_below (stored_view es)) (same_name-true q n same) ∙ not_under) ∙ with_floor (get (stored_view es) q)))
    by q false over false same = rw (over, same) (sym (told_nothing (stored_view es) q settled_es))

pub view_none : stored_view [] ≡ empty
view_none = same_entries_map _ _ (entries-view [] tt ∙ sym (nothing (entries empty) (sym (len-entries empty) ∙ len-empty name_cmp Known)))
  where
    nothing : (es : List (NameParts × Known)) → length es ≡ 0 → es ≡ []
    nothing [] e = refl
    nothing (x ∷ xs) e = absurd (omega arith)

pub lives-view : (es : List Entry) (v : View) → IsRising es → stored_view es ≡ v → lives v ≡ filter_map live_of (known_entries es)
lives-view es v h is = ap (λ w. filter_map live_of (entries w)) (sym is) ∙ ap (filter_map live_of) (entries-view es h)

pub entries-is : (es : List Entry) (v : View) → IsRising es → stored_view es ≡ v → entries v ≡ known_entries es
entries-is es v h is = ap entries (sym is) ∙ entries-view es h

-- ---- what is known already

-- a floor that is known is above what it is above
low_known : (es fs : List Entry) (q : NameParts) → AllByRecursion (IsKnownTo es) fs
    → list_any (is_over q) (known_entries fs) ≡ true → list_any (is_over q) (known_entries es) ≡ true
low_known es [] q all h = absurd (true≢false (sym h))
low_known es (f ∷ fs) q all h = ⊎_elim here (λ rest. low_known es fs q all.1 rest) (or_cases (is_over q (known_entry f)) _ h)
  where
    found : known_of f.held ≡ Floor → join_told (find name_cmp f.name (known_entries es)) (Some (known_of f.held))
        ≡ find name_cmp f.name (known_entries es) → find name_cmp f.name (known_entries es) ≡ Some Floor
    found is known = sym known ∙ ap (λ k. join_told (find name_cmp f.name (known_entries es)) (Some k)) is
        ∙ with_floor (find name_cmp f.name (known_entries es))

    here : is_over q (known_entry f) ≡ true → list_any (is_over q) (known_entries es) ≡ true
    here over =
        let t = over_floor q (known_entry f) over in
        ⊎_elim (λ low. any_trans q f.name (known_entries es) t.1 low)
        (λ known. told_over (known_entries es) q f.name (found t.0 known) t.1)
        all.0

-- what a name's entry tells besides is known, where no floor is above the name
told_again : (es fs : List Entry) (q : NameParts) → AllByRecursion (IsKnownTo es) fs
    → list_any (is_over q) (known_entries es) ≡ false
    → join_told (find name_cmp q (known_entries es)) (find name_cmp q (known_entries fs)) ≡ find name_cmp q (known_entries es)
told_again es [] q all high = sym (with_none (find name_cmp q (known_entries es)))
told_again es (f ∷ fs) q all high = by (is_eq (name_cmp q f.name)) refl (told_again es fs q all.1 high)
  where
    by : (b : Bool) → is_eq (name_cmp q f.name) ≡ b
        → join_told (find name_cmp q (known_entries es)) (find name_cmp q (known_entries fs)) ≡ find name_cmp q (known_entries es)
        → join_told (find name_cmp q (known_entries es)) (find name_cmp q (known_entries (f ∷ fs))) ≡ find name_cmp q (known_entries es)
    by true e later =
        let same : f.name ≡ q = sym (same_name-true q f.name e) in
        let told : join_told (find name_cmp f.name (known_entries es)) (Some (known_of f.held)) ≡ find name_cmp f.name (known_entries es) =
        ⊎_elim (λ low. absurd (both_cases _ low (ap (λ n. list_any (is_over n) (known_entries es)) same ∙ high))) (λ x. x) all.0 in
        rw e (subst (λ n. join_told (find name_cmp n (known_entries es)) (Some (known_of f.held))
        ≡ find name_cmp n (known_entries es)) same told)
    by false e later = rw e later

-- a view that is told what it knows
pub view_again : (es fs : List Entry) → IsRising es → AreSettled (known_entries es) → IsRising fs
    → AllByRecursion (IsKnownTo es) fs → stored_view es ≡ join (stored_view es) (stored_view fs)
view_again es fs h s k all = sym (same_view _ _ (λ q.
    get-join (stored_view es) (stored_view fs) q
    ∙ ap (λ b. cond (b || is_below (stored_view fs) q) None (join_told (get (stored_view es) q) (get (stored_view fs) q)))
    (ap (list_any (is_over q)) (entries-view es h))
    ∙ ap (λ b. cond (list_any (is_over q) (known_entries es) || b) None (join_told (get (stored_view es) q)
    (get (stored_view fs) q))) (ap (list_any (is_over q)) (entries-view fs k))
    ∙ ap (λ o. cond (list_any (is_over q) (known_entries es) || list_any (is_over q) (known_entries fs)) None
    (join_told o (get (stored_view fs) q))) (get-view es q h)
    ∙ ap (λ o. cond (list_any (is_over q) (known_entries es) || list_any (is_over q) (known_entries fs)) None
    (join_told (find name_cmp q (known_entries es)) o)) (get-view fs q k)
    ∙ by q (list_any (is_over q) (known_entries es)) refl (list_any (is_over q) (known_entries fs)) refl
    ∙ sym (get-view es q h)))
  where
    by : (q : NameParts) (a : Bool) → list_any (is_over q) (known_entries es) ≡ a → (b : Bool)
        → list_any (is_over q) (known_entries fs) ≡ b
        → cond (a || b) None (join_told (find name_cmp q (known_entries es)) (find name_cmp q (known_entries fs)))
        ≡ find name_cmp q (known_entries es)
    by q true low b other = sym (s q low)
    by q false high true low = absurd (both_cases _ (low_known es fs q all low) high)
    by q false high false other = told_again es fs q all high

-- each entry tells what is found of its name
each_entry : (P : Entry → Type 0) (fs : List Entry) → IsRising fs
    → ((f : Entry) → find name_cmp f.name (known_entries fs) ≡ Some (known_of f.held) → P f) → AllByRecursion P fs
each_entry P [] h each = tt
each_entry P (f ∷ fs) h each = (
  each f (ap (λ b. cond b (Some (known_of f.held)) (find name_cmp f.name (known_entries fs))) (same_name-refl f.name)),
  each_entry P fs (second _ _ h) (λ g found. each g (found_behind g (same_name g.name f.name) refl found)),
)
  where
    found_behind : (g : Entry) (b : Bool) → same_name g.name f.name ≡ b → find name_cmp g.name (known_entries fs)
        ≡ Some (known_of g.held) → find name_cmp g.name (known_entries (f ∷ fs)) ≡ Some (known_of g.held)
    found_behind g true same found =
        let none : None ≡ Some (known_of g.held) = sym (find_below f.name (known_entries fs) (first _ _ h))
        ∙ ap (λ n. find name_cmp n (known_entries fs)) (sym (same_name-true g.name f.name same)) ∙ found in
        absurd cc
    found_behind g false same found = ap (λ b. cond b (Some (known_of f.held)) (find name_cmp g.name (known_entries fs))) same ∙ found

-- where a view learns nothing from another, each of the other's entries is known
pub known_again : (es fs : List Entry) (v w : View) → IsRising es → IsRising fs → AreSettled (known_entries fs)
    → stored_view es ≡ v → stored_view fs ≡ w → join v w ≡ v → AllByRecursion (IsKnownTo es) fs
known_again es fs v w h k s ours theirs same = each_entry (IsKnownTo es) fs k each
  where
    alike_views : join (stored_view es) (stored_view fs) ≡ stored_view es
    alike_views = ap (λ u. join u (stored_view fs)) ours ∙ ap (join v) theirs ∙ same ∙ sym ours

    each : (f : Entry) → find name_cmp f.name (known_entries fs) ≡ Some (known_of f.held) → IsKnownTo es f
    each f found = by (list_any (is_over f.name) (known_entries es)) refl
      where
        high : list_any (is_over f.name) (known_entries fs) ≡ false
        high = by_test (list_any (is_over f.name) (known_entries fs)) refl
          where
            by_test : (b : Bool) → list_any (is_over f.name) (known_entries fs) ≡ b → list_any (is_over f.name) (known_entries fs) ≡ false
            by_test true low = let none : None ≡ Some (known_of f.held) = sym (s f.name low) ∙ found in absurd cc
            by_test false low = low

        by : (b : Bool) → list_any (is_over f.name) (known_entries es) ≡ b → IsKnownTo es f
        by true low = inl low
        by false low = inr (
            ap (join_told (find name_cmp f.name (known_entries es))) (sym found)
            ∙ ap (λ o. join_told o (find name_cmp f.name (known_entries fs))) (sym (get-view es f.name h))
            ∙ ap (join_told (get (stored_view es) f.name)) (sym (get-view fs f.name k))
            ∙ ap (λ b. cond b None (join_told (get (stored_view es) f.name) (get (stored_view fs) f.name)))
            (sym (or_from _ _ (ap (list_any (is_over f.name)) (entries-view es h) ∙ low)
            (ap (list_any (is_over f.name)) (entries-view fs k) ∙ high)))
            ∙ sym (get-join (stored_view es) (stored_view fs) f.name)
            ∙ ap (λ u. get u f.name) alike_views
            ∙ get-view es f.name h)

-- what is put below no floor, and is none, leaves all settled
any_put : (m n : NameParts) (k : Known) (es : List (NameParts × Known)) → (k ≡ Floor → ⊥)
    → list_any (is_over m) (put name_cmp n k es) ≡ true → list_any (is_over m) es ≡ true
any_put m n k [] other h = absurd (other (over_floor m (n, k) (⊎_elim (λ x. x) (λ x. absurd (true≢false (sym x)))
    (or_cases (is_over m (n, k)) _ h))).0)
any_put m n k (e ∷ es) other h = by (name_cmp n e.0) h (any_put m n k es other)
  where
    by : (o : Ordering) → list_any (is_over m) (by_order o ((n, k) ∷ e ∷ es) ((e.0, k) ∷ es) (e ∷ put name_cmp n k es))
        ≡ true → (list_any (is_over m) (put name_cmp n k es) ≡ true → list_any (is_over m) es ≡ true) → list_any (is_over m) (e ∷ es) ≡ true
    by Less h rest = ⊎_elim (λ x. absurd (other (over_floor m (n, k) x).0)) (λ x. x) (or_cases (is_over m (n, k)) _ h)
    by Equal h rest = or_right _ _ (⊎_elim (λ x. absurd (other (over_floor m (e.0, k) x).0)) (λ x. x) (or_cases (is_over m (e.0, k)) _ h))
    by Greater h rest = ⊎_elim (λ x. or_left _ _ x) (λ x. or_right _ _ (rest x)) (or_cases (is_over m e) _ h)

pub settled_put : (es fs : List Entry) (n : NameParts) (k : Known) → AreSettled (known_entries es)
    → list_any (is_over n) (known_entries es) ≡ false → (k ≡ Floor → ⊥)
    → known_entries fs ≡ put name_cmp n k (known_entries es) → AreSettled (known_entries fs)
settled_put es fs n k s high other is m low =
    let before = any_put m n k (known_entries es) other (ap (list_any (is_over m)) (sym is) ∙ low) in
    ap (find name_cmp m) is ∙ find-put name_cmp names_total m n k (known_entries es) ∙ by (same_name m n) refl before
  where
    by : (b : Bool) → same_name m n ≡ b → list_any (is_over m) (known_entries es) ≡ true
        → cond (same_name m n) (Some k) (find name_cmp m (known_entries es)) ≡ None
    by true same before = absurd (both_cases _ before (ap (λ x. list_any (is_over x) (known_entries es)) (same_name-true m n same) ∙ high))
    by false same before = ap (λ b. cond b (Some k) (find name_cmp m (known_entries es))) same ∙ s m before

pub settled_floor : (es gs : List Entry) (n : NameParts) → IsRising es → AreSettled (known_entries es)
    → list_any (is_over n) (known_entries es) ≡ false
    → known_entries gs ≡ above_floor n (put name_cmp n Floor (known_entries es)) → AreSettled (known_entries gs)
settled_floor es gs n h s high is = settled_by gs _ (rising_floor es gs n h is) (view_floor es gs n h s high is)
    (join_laws.settled (stored_view es) (view_of_item (FloorItem n)))

-- joined name by name they rise
pub sorted_lists : (es fs : List Entry) → IsRising es → IsRising fs
    → T (is_sorted name_cmp (join_lists (known_entries es) (known_entries fs)))
sorted_lists es fs h k =
    subst (λ l. T (is_sorted name_cmp l))
    (entries-join_names (stored_view es) (stored_view fs) ∙ ap (λ l. join_lists l (entries (stored_view fs)))
    (entries-view es h) ∙ ap (join_lists (known_entries es)) (entries-view fs k))
    (entries_sorted (join_names (stored_view es) (stored_view fs)))
