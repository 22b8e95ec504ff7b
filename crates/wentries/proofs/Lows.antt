-- Looking for a floor, and dropping what is below it.
use Rattle.std.proofs.Common.{◌≡◌, ℕ, zero, suc, ◌<◌, ◌≤◌, ◌+◌, set, ◌||◌, ◌&&◌, ◌++◌, Bool, true, false, cond, not, T, List}
use Rattle.std.proofs.Common.{[], ◌∷◌, length, map, get_or, take, drop, Option, None, Some, refl, sym, ap, ◌∙◌, subst, arith}
use Rattle.std.proofs.lemmas.Bool.{true≢false, or_right, and_parts, and_from}
use Rattle.std.proofs.lemmas.Cmp.{tied_itself}
use Rattle.std.proofs.lemmas.List.Elements.{filter-append, filter_map-append}
use Rattle.std.proofs.lemmas.Map.Lookups.{exact_bytes}
use Rattle.std.specs.Prelude.{◌==◌, nat_lt}
use Rattle.std.specs.List.{filter, filter_map, list_all, list_any}
use Rattle.std.specs.Ordering.{is_lt, nat_cmp, ordering_then}
use Rattle.std.specs.Cmp.Lexicographic.{slice_cmp, nat_list_cmp_total}
use Rattle.std.specs.declared.cmp.Ordering.{Ordering}
use Rattle.std.specs.declared.cmp.Ordering.TheVariants.{Less, Equal, Greater}
use Rattle.std.specs.FinMap.Entries.{below_all}
use Rattle.std.specs.FinMap.{find}
use Rattle.wvalues.specs.Names.{NameParts, name_cmp}
use Rattle.wsegment.specs.Declaration.{Declaration}
use Rattle.wentries.specs.Knowledge.{Known, Floor, first_of as first_of_numbers, floor_number, is_above, is_over, same_bytes, same_name}
use Rattle.wentries.specs.Entries.{AreBelow, AreOriginsBelow, AllHeldBy, AreSettled, IsGap, IsPlace, IsRising}
use Rattle.wentries.specs.Entries.{above_floor, first_from, known_entries, known_entry, AreBehind}
use Rattle.wentries.specs.Holding.{known_of}
use Rattle.wentries.specs.Blocks.{IsHome, first_of, flat, trimmed}
use Rattle.wentries.specs.declared.entries.Entry.{Entry}
use Rattle.wentries.proofs.BlockFacts.{flat_at, known_append}
use Rattle.wentries.proofs.Finding.{below_at, turned}
use Rattle.wentries.proofs.Floors.{first, second, less, floor_told, over_floor, same_bytes-true, same_bytes-refl}
use Rattle.wentries.proofs.Floors.{same_name-true, same_name-refl, told_over, above_less}

-- ---- the first that does not stand before a name

pub place_first : (es : List Entry) (n : NameParts) (i : ℕ) (d : Entry) → IsPlace es n i → Some (get_or es i d) ≡ first_from n es
place_first [] n i d h = absurd h
place_first (e ∷ es) n zero d h = sym (ap (λ o. cond (is_lt o) (first_from n es) (Some e)) (turned n e.name Equal h))
place_first (e ∷ es) n (suc i) d h = place_first es n i d h.1
    ∙ sym (ap (λ o. cond (is_lt o) (first_from n es) (Some e)) (turned n e.name Greater h.0))

pub gap_first : (es : List Entry) (n : NameParts) (i : ℕ) (d : Entry) → IsGap es n i → i < length es
    → Some (get_or es i d) ≡ first_from n es
gap_first [] n i d h lt = absurd (omega arith)
gap_first (e ∷ es) n zero d h lt = sym (ap (λ o. cond (is_lt o) (first_from n es) (Some e)) (turned n e.name Less h))
gap_first (e ∷ es) n (suc i) d h lt = gap_first es n i d h.1 (omega arith)
    ∙ sym (ap (λ o. cond (is_lt o) (first_from n es) (Some e)) (turned n e.name Greater h.0))

pub gap_none : (es : List Entry) (n : NameParts) (i : ℕ) → IsGap es n i → length es ≤ i → None ≡ first_from n es
gap_none [] n i h le = refl
gap_none (e ∷ es) n zero h le = absurd (omega arith)
gap_none (e ∷ es) n (suc i) h le = gap_none es n i h.1 (omega arith)
    ∙ sym (ap (λ o. cond (is_lt o) (first_from n es) (Some e)) (turned n e.name Greater h.0))

first_behind : (xs ys : List Entry) (n : NameParts) → AreBelow n (known_entries xs) → first_from n (xs ++ ys) ≡ first_from n ys
first_behind [] ys n h = refl
first_behind (x ∷ xs) ys n h = ap (λ o. cond (is_lt o) (first_from n (xs ++ ys)) (Some x)) h.0 ∙ first_behind xs ys n h.1

-- the first of the first part that has one
abbrev or_first_of : Option Entry → Option Entry → Option Entry
or_first_of None o = o
or_first_of (Some e) o = Some e

first_parts : (xs ys : List Entry) (n : NameParts) → first_from n (xs ++ ys) ≡ or_first_of (first_from n xs) (first_from n ys)
first_parts [] ys n = refl
first_parts (x ∷ xs) ys n = by (is_lt (name_cmp x.name n)) (first_parts xs ys n)
  where
    by : (b : Bool) → first_from n (xs ++ ys) ≡ or_first_of (first_from n xs) (first_from n ys)
        → cond b (first_from n (xs ++ ys)) (Some x) ≡ or_first_of (cond b (first_from n xs) (Some x)) (first_from n ys)
    by true rest = rest
    by false rest = refl

first_of_behind : (ys : List Entry) (n : NameParts) → AreBehind n (known_entries ys) → first_from n ys ≡ first_of ys
first_of_behind [] n h = refl
first_of_behind (y ∷ ys) n h = ap (λ o. cond (is_lt o) (first_from n ys) (Some y)) (turned n y.name Less h.0)

pub first_home : (bs : List (List Entry)) (n : NameParts) (k : ℕ) (d : List Entry) → IsHome bs n k
    → first_from n (flat bs) ≡ or_first_of (first_from n (get_or bs k d)) (first_of (flat (drop (suc k) bs)))
first_home bs n k d h =
    ap (first_from n) (flat_at bs k d h.in_range)
    ∙ first_behind (flat (take k bs)) (get_or bs k d ++ flat (drop (suc k) bs)) n h.before
    ∙ first_parts (get_or bs k d) (flat (drop (suc k) bs)) n
    ∙ ap (or_first_of (first_from n (get_or bs k d))) (first_of_behind (flat (drop (suc k) bs)) n h.behind)

pub first_here : (bs : List (List Entry)) (n : NameParts) (k : ℕ) (d : List Entry) (e : Entry) → IsHome bs n k
    → first_from n (get_or bs k d) ≡ Some e → Some e ≡ first_from n (flat bs)
first_here bs n k d e h is = sym (first_home bs n k d h ∙ ap (λ o. or_first_of o (first_of (flat (drop (suc k) bs)))) is)

pub first_later : (bs : List (List Entry)) (n : NameParts) (k : ℕ) (d : List Entry) → IsHome bs n k
    → first_from n (get_or bs k d) ≡ None → first_of (flat (drop (suc k) bs)) ≡ first_from n (flat bs)
first_later bs n k d h is = sym (first_home bs n k d h ∙ ap (λ o. or_first_of o (first_of (flat (drop (suc k) bs)))) is)

-- ---- a floor above a name is the first that does not stand before it

-- whether the first entry is a floor above the name
abbrev pub is_over_first : NameParts → Option Entry → Bool
is_over_first n None = false
is_over_first n (Some e) = is_over n (known_entry e)

pub settled_later : (e : Entry) (es : List Entry) → AreSettled (known_entries (e ∷ es)) → AreSettled (known_entries es)
settled_later e es h m low = by (same_name m e.name) (h m (or_right _ _ low))
  where
    by : (b : Bool) → cond b (Some (known_of e.held)) (find name_cmp m (known_entries es)) ≡ None
        → find name_cmp m (known_entries es) ≡ None
    by true is = absurd cc
    by false is = is

pub not_both : Less ≡ Greater → ⊥
not_both e = cc

pub less_number : (a b : ℕ) → nat_cmp a b ≡ Less → nat_lt a b ≡ true
less_number a b h = by (nat_lt a b) refl h
  where
    by_equal : (b : Bool) → cond b Equal Greater ≡ Less → ⊥
    by_equal true e = cc
    by_equal false e = cc

    by : (c : Bool) → nat_lt a b ≡ c → cond c Less (cond (a == b) Equal Greater) ≡ Less → nat_lt a b ≡ true
    by true is e = is
    by false is e = absurd (by_equal (a == b) e)

-- between two names of one origin stand such of that origin
pub between : (n e m : NameParts) → (name_cmp e n ≡ Less → ⊥) → name_cmp e m ≡ Less → is_above n m ≡ true → is_above e m ≡ true
between n e m low high over = by (slice_cmp nat_cmp e.origin n.origin) refl
  where
    origin : n.origin ≡ m.origin
    origin = same_bytes-true n.origin m.origin (and_parts (same_bytes n.origin m.origin) _ over).0

    by : (o : Ordering) → slice_cmp nat_cmp e.origin n.origin ≡ o → is_above e m ≡ true
    by Less is = absurd (low (ap (λ o. ordering_then o (nat_cmp e.number n.number)) is))
    by Greater is =
        let greater : name_cmp e m ≡ Greater =
        ap (λ o. ordering_then (slice_cmp nat_cmp e.origin o) (nat_cmp e.number m.number)) (sym origin)
        ∙ ap (λ o. ordering_then o (nat_cmp e.number m.number)) is in
        absurd (not_both (sym high ∙ greater))
    by Equal is =
        let same : e.origin ≡ m.origin = exact_bytes e.origin n.origin is ∙ origin in
        let numbers : nat_cmp e.number m.number ≡ Less =
        sym (ap (λ o. ordering_then (slice_cmp nat_cmp e.origin o) (nat_cmp e.number m.number)) (sym same)
        ∙ ap (λ o. ordering_then o (nat_cmp e.number m.number)) (tied_itself nat_list_cmp_total e.origin)) ∙ high in
        and_from _ _ (ap (same_bytes e.origin) (sym same) ∙ same_bytes-refl e.origin) (less_number e.number m.number numbers)

found_above : (x m : NameParts) (k : Known) (es : List (NameParts × Known)) → T (below_all name_cmp x es)
    → find name_cmp m es ≡ Some k → name_cmp x m ≡ Less
found_above x m k [] low found = absurd cc
found_above x m k (f ∷ es) low found = by (same_name m f.0) refl found (found_above x m k es (second _ _ low))
  where
    by : (b : Bool) → same_name m f.0 ≡ b → cond b (Some f.1) (find name_cmp m es) ≡ Some k
        → (find name_cmp m es ≡ Some k → name_cmp x m ≡ Less) → name_cmp x m ≡ Less
    by true same e rest = ap (name_cmp x) (same_name-true m f.0 same) ∙ less _ (first _ _ low)
    by false same e rest = rest e

pub none_over : (e : Entry) (es : List Entry) (n : NameParts) → IsRising (e ∷ es) → AreSettled (known_entries (e ∷ es))
    → (name_cmp e.name n ≡ Less → ⊥) → list_any (is_over n) (known_entries es) ≡ false
none_over e es n rises settled low = by (list_any (is_over n) (known_entries es)) refl
  where
    by : (b : Bool) → list_any (is_over n) (known_entries es) ≡ b → list_any (is_over n) (known_entries es) ≡ false
    by true is =
        let t = floor_told (known_entries es) n (second _ _ rises) is in
        let less_floor = found_above e.name t.floor Floor (known_entries es) (first _ _ rises) t.found in
        let below : list_any (is_over e.name) (known_entries es) ≡ true =
        told_over (known_entries es) e.name t.floor t.found (between n e.name t.floor low less_floor t.above) in
        let none = settled e.name (or_right (is_over e.name (known_entry e)) _ below) in
        let some : Some (known_of e.held) ≡ None =
        sym (ap (λ b. cond b (Some (known_of e.held)) (find name_cmp e.name (known_entries es))) (same_name-refl e.name)) ∙ none in
        absurd cc
    by false is = is

pub low_first : (es : List Entry) (n : NameParts) → IsRising es → AreSettled (known_entries es)
    → is_over_first n (first_from n es) ≡ list_any (is_over n) (known_entries es)
low_first [] n rises settled = refl
low_first (e ∷ es) n rises settled = by (name_cmp e.name n) refl (low_first es n (second _ _ rises) (settled_later e es settled))
  where
    not_over : name_cmp e.name n ≡ Less → is_over n (known_entry e) ≡ false
    not_over is = by_test (is_over n (known_entry e)) refl
      where
        by_test : (b : Bool) → is_over n (known_entry e) ≡ b → is_over n (known_entry e) ≡ false
        by_test true over = absurd (not_both (sym (above_less n e.name (over_floor n (known_entry e) over).1) ∙ turned e.name n Less is))
        by_test false over = over

    at_first : (name_cmp e.name n ≡ Less → ⊥) → is_over n (known_entry e) ≡ list_any (is_over n) (known_entries (e ∷ es))
    at_first low = sym (ap (λ b. is_over n (known_entry e) || b) (none_over e es n rises settled low)
        ∙ or_false (is_over n (known_entry e)))
      where
        or_false : (b : Bool) → (b || false) ≡ b
        or_false true = refl
        or_false false = refl

    not_less : (o : Ordering) → name_cmp e.name n ≡ o → (o ≡ Less → ⊥) → name_cmp e.name n ≡ Less → ⊥
    not_less o is other e = other (sym is ∙ e)

    by : (o : Ordering) → name_cmp e.name n ≡ o → is_over_first n (first_from n es)
        ≡ list_any (is_over n) (known_entries es) → is_over_first n (first_from n (e ∷ es)) ≡ list_any (is_over n) (known_entries (e ∷ es))
    by Less is rest = ap (λ o. is_over_first n (cond (is_lt o) (first_from n es) (Some e))) is ∙ rest
        ∙ sym (ap (λ b. b || list_any (is_over n) (known_entries es)) (not_over is))
    by Equal is rest = ap (λ o. is_over_first n (cond (is_lt o) (first_from n es) (Some e))) is
        ∙ at_first (not_less Equal is (λ e. absurd cc))
    by Greater is rest = ap (λ o. is_over_first n (cond (is_lt o) (first_from n es) (Some e))) is
        ∙ at_first (not_less Greater is (λ e. absurd cc))

-- ---- dropping in blocks

pub known_filter : (n : NameParts) (es : List Entry) → known_entries (filter (λ e. not (is_above e.name n)) es)
    ≡ above_floor n (known_entries es)
known_filter n [] = refl
known_filter n (e ∷ es) = by (is_above e.name n) (known_filter n es)
  where
    by : (b : Bool) → known_entries (filter (λ e. not (is_above e.name n)) es) ≡ above_floor n (known_entries es)
        → known_entries (cond (not b) (e ∷ filter (λ e. not (is_above e.name n)) es) (filter (λ e. not (is_above e.name n))
        es)) ≡ cond (not b) (known_entry e ∷ above_floor n (known_entries es)) (above_floor n (known_entries es))
    by true rest = rest
    by false rest = ap (λ l. known_entry e ∷ l) rest

pub held_filter : (d : Declaration) (p : Entry → Bool) (es : List Entry) → AllHeldBy d es → AllHeldBy d (filter p es)
held_filter d p [] all = tt
held_filter d p (e ∷ es) all = by (p e) (held_filter d p es all.1)
  where
    by : (b : Bool) → AllHeldBy d (filter p es) → AllHeldBy d (cond b (e ∷ filter p es) (filter p es))
    by true rest = (all.0, rest)
    by false rest = rest

abbrev pub under : NameParts → List Entry → Bool
under n es = list_all (λ e. is_above e.name n) es

abbrev pub kept : NameParts → List Entry → List Entry
kept n es = filter (λ e. not (is_above e.name n)) es

pub kept_none : (n : NameParts) (es : List Entry) → under n es ≡ true → kept n es ≡ []
kept_none n [] h = refl
kept_none n (e ∷ es) h =
    let p = and_parts (is_above e.name n) _ h in
    ap (λ b. cond (not b) (e ∷ kept n es) (kept n es)) p.0 ∙ kept_none n es p.1

kept_some : (n : NameParts) (es : List Entry) → under n es ≡ false → under n (kept n es) ≡ false
kept_some n [] h = h
kept_some n (e ∷ es) h = by (is_above e.name n) refl (kept_some n es)
  where
    by : (b : Bool) → is_above e.name n ≡ b → (under n es ≡ false → under n (kept n es) ≡ false)
        → under n (cond (not (is_above e.name n)) (e ∷ kept n es) (kept n es)) ≡ false
    by true is rest = ap (λ b. under n (cond (not b) (e ∷ kept n es) (kept n es))) is ∙ rest (sym (ap (λ b. b && under n es) is) ∙ h)
    by false is rest = ap (λ b. under n (cond (not b) (e ∷ kept n es) (kept n es))) is ∙ ap (λ b. b && under n (kept n es)) is

-- blocks whose entries are all below the floor go, and those of others are trimmed
pub flat_trimmed : (n : NameParts) (bs : List (List Entry)) → flat (filter (λ b. not (under n b)) (map (trimmed n) bs)) ≡ kept n (flat bs)
flat_trimmed n [] = refl
flat_trimmed n (b ∷ bs) = by (under n b) refl (flat_trimmed n bs)
  where
    by : (u : Bool) → under n b ≡ u → flat (filter (λ b. not (under n b)) (map (trimmed n) bs)) ≡ kept n (flat bs)
        → flat (filter (λ b. not (under n b)) (map (trimmed n) (b ∷ bs))) ≡ kept n (b ++ flat bs)
    by true is rest =
        let same : trimmed n b ≡ b = ap (λ u. cond u b (kept n b)) is in
        ap (λ c. flat (cond (not (under n c)) (c ∷ filter (λ b. not (under n b)) (map (trimmed n) bs))
        (filter (λ b. not (under n b)) (map (trimmed n) bs)))) same
        ∙ ap (λ u. flat (cond (not u) (b ∷ filter (λ b. not (under n b)) (map (trimmed n) bs))
        (filter (λ b. not (under n b)) (map (trimmed n) bs)))) is
        ∙ rest ∙ sym (filter-append (λ e. not (is_above e.name n)) b (flat bs) ∙ ap (λ l. l ++ kept n (flat bs)) (kept_none n b is))
    by false is rest =
        let same : trimmed n b ≡ kept n b = ap (λ u. cond u b (kept n b)) is in
        ap (λ c. flat (cond (not (under n c)) (c ∷ filter (λ b. not (under n b)) (map (trimmed n) bs))
        (filter (λ b. not (under n b)) (map (trimmed n) bs)))) same
        ∙ ap (λ u. flat (cond (not u) (kept n b ∷ filter (λ b. not (under n b)) (map (trimmed n) bs))
        (filter (λ b. not (under n b)) (map (trimmed n) bs)))) (kept_some n b is)
        ∙ ap (λ l. kept n b ++ l) rest ∙ sym (filter-append (λ e. not (is_above e.name n)) b (flat bs))

-- ---- one block more is trimmed

pub trimmed_more : (n : NameParts) (bs : List (List Entry)) (k : ℕ) (d : List Entry) → k < length bs
    → set (map (trimmed n) (take k bs) ++ drop k bs) k (trimmed n (get_or (map (trimmed n) (take k bs) ++ drop k bs) k d))
    ≡ map (trimmed n) (take (suc k) bs) ++ drop (suc k) bs
trimmed_more n [] k d lt = absurd (omega arith)
trimmed_more n (b ∷ bs) zero d lt = refl
trimmed_more n (b ∷ bs) (suc k) d lt = ap (λ l. trimmed n b ∷ l) (trimmed_more n bs k d (omega arith))

pub trimmed_step : (n : NameParts) (bs now : List (List Entry)) (k : ℕ) (old new : List Entry) → k < length bs
    → now ≡ map (trimmed n) (take k bs) ++ drop k bs → old ≡ get_or now k old → new ≡ trimmed n old
    → set now k new ≡ map (trimmed n) (take (k + 1) bs) ++ drop (k + 1) bs
trimmed_step n bs now k old new lt is value made =
    ap (set now k) (made ∙ ap (trimmed n) (value ∙ ap (λ l. get_or l k old) is))
    ∙ ap (λ l. set l k (trimmed n (get_or (map (trimmed n) (take k bs) ++ drop k bs) k old))) is
    ∙ trimmed_more n bs k old lt
    ∙ ap (λ m. map (trimmed n) (take m bs) ++ drop m bs) {x = suc k} {y = k + 1} (omega arith)

pub kept_fewer : (n : NameParts) (es : List Entry) → length (kept n es) ≤ length es
kept_fewer n [] = omega arith
kept_fewer n (e ∷ es) = by (is_above e.name n) (kept_fewer n es)
  where
    by : (b : Bool) → length (kept n es) ≤ length es → length (cond (not b) (e ∷ kept n es) (kept n es)) ≤ suc (length es)
    by true rest = omega (arith, rest)
    by false rest = omega (arith, rest)

pub kept_filled : (n : NameParts) (es : List Entry) → under n es ≡ false → 0 < length (kept n es)
kept_filled n [] h = absurd (true≢false h)
kept_filled n (e ∷ es) h = by (is_above e.name n) refl (kept_filled n es)
  where
    by : (b : Bool) → is_above e.name n ≡ b → (under n es ≡ false → 0 < length (kept n es))
        → 0 < length (cond (not (is_above e.name n)) (e ∷ kept n es) (kept n es))
    by true is rest = subst (λ b. 0 < length (cond (not b) (e ∷ kept n es) (kept n es))) (sym is)
        (rest (sym (ap (λ b. b && under n es) is) ∙ h))
    by false is rest = subst (λ b. 0 < length (cond (not b) (e ∷ kept n es) (kept n es))) (sym is) (omega arith)

pub kept_bounded : (n : NameParts) (es : List Entry) (m : ℕ) → length es ≤ m → length (kept n es) ≤ m
kept_bounded n es m le = omega (arith, le, kept_fewer n es)

-- ---- origins

origin_before : (a b n : NameParts) → name_cmp a b ≡ Less → slice_cmp nat_cmp b.origin n.origin ≡ Less
    → slice_cmp nat_cmp a.origin n.origin ≡ Less
origin_before a b n ab bn = by (slice_cmp nat_cmp a.origin b.origin) refl
  where
    by : (o : Ordering) → slice_cmp nat_cmp a.origin b.origin ≡ o → slice_cmp nat_cmp a.origin n.origin ≡ Less
    by Less is = nat_list_cmp_total.trans a.origin b.origin n.origin is bn
    by Equal is = ap (λ o. slice_cmp nat_cmp o n.origin) (exact_bytes a.origin b.origin is) ∙ bn
    by Greater is = absurd (not_both (sym ab ∙ ap (λ o. ordering_then o (nat_cmp a.number b.number)) is))

origins_below : (xs : List Entry) (i : ℕ) (d : Entry) (n : NameParts) → suc i ≡ length xs → IsRising xs
    → slice_cmp nat_cmp (get_or xs i d).name.origin n.origin ≡ Less → AreOriginsBelow n.origin (known_entries xs)
origins_below [] i d n e h is = absurd (omega arith)
origins_below (x ∷ []) zero d n e h is = (is, tt)
origins_below (x ∷ []) (suc i) d n e h is = absurd (omega arith)
origins_below (x ∷ y ∷ xs) zero d n e h is = absurd (omega arith)
origins_below (x ∷ y ∷ xs) (suc i) d n e h is = (
  origin_before x.name (get_or (y ∷ xs) i d).name n (below_at x.name (y ∷ xs) i d (first _ _ h) (omega arith)) is,
  origins_below (y ∷ xs) i d n (omega arith) (second _ _ h) is,
)

pub origins_below_last : (xs ys : List Entry) (i : ℕ) (d : Entry) (n : NameParts) → suc i ≡ length ys → IsRising (xs ++ ys)
    → slice_cmp nat_cmp (get_or ys i d).name.origin n.origin ≡ Less → AreOriginsBelow n.origin (known_entries (xs ++ ys))
origins_below_last [] ys i d n e h is = origins_below ys i d n e h is
origins_below_last (x ∷ xs) ys i d n e h is =
    (origin_before x.name (get_or ys i d).name n (last_behind xs (first _ _ h)) is, origins_below_last xs ys i d n e (second _ _ h) is)
  where
    last_behind : (zs : List Entry) → T (below_all name_cmp x.name (known_entries (zs ++ ys))) → name_cmp x.name (get_or ys i d).name ≡ Less
    last_behind [] low = below_at x.name ys i d low (omega (arith, e))
    last_behind (z ∷ zs) low = last_behind zs (second _ _ low)

pub origin_last : (es : List Entry) (i : ℕ) (d : Entry) (n : NameParts) → i < length es
    → AreOriginsBelow n.origin (known_entries es) → slice_cmp nat_cmp (get_or es i d).name.origin n.origin ≡ Less
origin_last [] i d n lt h = absurd (omega arith)
origin_last (e ∷ es) zero d n lt h = h.0
origin_last (e ∷ es) (suc i) d n lt h = origin_last es i d n (omega arith) h.1

pub origins_end : (xs ys : List Entry) (n : NameParts) → AreOriginsBelow n.origin (known_entries (xs ++ ys))
    → AreOriginsBelow n.origin (known_entries ys)
origins_end [] ys n h = h
origins_end (x ∷ xs) ys n h = origins_end xs ys n h.1

pub is_less : (o : Ordering) → is_lt o ≡ true → o ≡ Less
is_less Less e = refl
is_less Equal e = absurd (true≢false (sym e))
is_less Greater e = absurd (true≢false (sym e))

-- ---- how many are left

pub fewer : (n : NameParts) (es : List (NameParts × Known)) → length (above_floor n es) ≤ length es
fewer n [] = omega arith
fewer n (e ∷ es) = by (is_above e.0 n) (fewer n es)
  where
    by : (b : Bool) → length (above_floor n es) ≤ length es
        → length (cond (not b) (e ∷ above_floor n es) (above_floor n es)) ≤ suc (length es)
    by true h = omega (arith, h)
    by false h = omega (arith, h)

-- ---- the first floor of an origin

abbrev pub or_number : Option ℕ → Option ℕ → Option ℕ
or_number None o = o
or_number (Some n) o = Some n

first_parts_of : (xs ys : List ℕ) → first_of_numbers (xs ++ ys) ≡ or_number (first_of_numbers xs) (first_of_numbers ys)
first_parts_of [] ys = refl
first_parts_of (x ∷ xs) ys = refl

pub numbers : (o : List ℕ) (xs ys : List Entry) → first_of_numbers (filter_map (floor_number o) (known_entries (xs ++ ys)))
    ≡ or_number (first_of_numbers (filter_map (floor_number o) (known_entries xs)))
    (first_of_numbers (filter_map (floor_number o) (known_entries ys)))
numbers o xs ys =
    ap (λ l. first_of_numbers (filter_map (floor_number o) l)) (known_append xs ys)
    ∙ ap first_of_numbers (filter_map-append (floor_number o) (known_entries xs) (known_entries ys))
    ∙ first_parts_of (filter_map (floor_number o) (known_entries xs)) (filter_map (floor_number o) (known_entries ys))
