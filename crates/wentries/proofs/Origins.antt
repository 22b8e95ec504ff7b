-- The block where an origin begins: its floor is there or nowhere, and no block before it changes as names of the origin are dropped.
use Rattle.std.proofs.Common.{◌≡◌, ℕ, zero, suc, ◌<◌, ◌≤◌, ◌+◌, ◌++◌, Bool, true, false, cond, not, T, List, [], ◌∷◌, length}
use Rattle.std.proofs.Common.{map, get_or, take, drop, Option, None, Some, refl, sym, ap, ◌∙◌, subst, arith, ⊎_elim}
use Rattle.std.proofs.lemmas.Bool.{or_left, or_right, and_parts, and_from}
use Rattle.std.proofs.lemmas.Cmp.{tied_itself}
use Rattle.std.proofs.lemmas.List.{take-append-drop}
use Rattle.std.proofs.lemmas.Map.Lookups.{exact_bytes}
use Rattle.std.specs.List.{AllByRecursion, filter_map, list_any}
use Rattle.std.specs.Ordering.{nat_cmp, ordering_then}
use Rattle.std.specs.Cmp.Lexicographic.{slice_cmp, nat_list_cmp_total}
use Rattle.std.specs.declared.cmp.Ordering.{Ordering}
use Rattle.std.specs.declared.cmp.Ordering.TheVariants.{Less, Equal, Greater}
use Rattle.std.specs.FinMap.Entries.{below_all}
use Rattle.wvalues.specs.Names.{NameParts, name_cmp, names_total}
use Rattle.wentries.specs.Knowledge.{Known, Live, Disputed, Retired, Floor, first_of as first_of_numbers}
use Rattle.wentries.specs.Knowledge.{floor_number, is_above, is_over, same_bytes}
use Rattle.wentries.specs.Entries.{AreOriginsBelow, AreSettled, IsRising, known_entries, AreBehind}
use Rattle.wentries.specs.Holding.{known_of}
use Rattle.wentries.specs.Blocks.{IsOriginHome, flat, trimmed}
use Rattle.wentries.specs.declared.entries.Entry.{Entry}
use Rattle.wentries.proofs.BlockFacts.{flat_at, flat_more, rising_from, rising_to}
use Rattle.wentries.proofs.Cutting.{block_at}
use Rattle.wentries.proofs.Floors.{first, second, less, both_cases, no_some, same_bytes-true, same_bytes-refl, above_less}
use Rattle.wentries.proofs.Finding.{turned}
use Rattle.wentries.proofs.Lows.{kept, less_number, none_over, not_both, numbers, or_number, settled_later, under}

-- ---- the search

-- one more block of which the last origin stands before
pub origins_next : (bs : List (List Entry)) (k : ℕ) (b : List Entry) (o : List ℕ) → k < length bs → b ≡ get_or bs k b
    → IsRising (flat bs) → ((before : List Entry) → IsRising (before ++ b)
    → AreOriginsBelow o (known_entries (before ++ b))) → AreOriginsBelow o (known_entries (flat (take (k + 1) bs)))
origins_next bs k b o lt is h below =
    let next : flat (take (k + 1) bs) ≡ flat (take k bs) ++ b =
    ap (λ m. flat (take m bs)) {x = k + 1} {y = suc k} (omega arith) ∙ flat_more bs k b lt ∙ ap (λ es. flat (take k bs) ++ es) (sym is) in
    subst (λ es. AreOriginsBelow o (known_entries es)) (sym next)
    (below (flat (take k bs)) (subst (λ es. IsRising (flat (take k bs) ++ es)) (sym is) (rising_to bs k b lt h)))

-- ---- the floor of the origin

abbrev first_floor : List ℕ → List Entry → Option ℕ
first_floor o es = first_of_numbers (filter_map (floor_number o) (known_entries es))

none_left : (m p : Option ℕ) → or_number m p ≡ None → (m ≡ None) × (p ≡ None)
none_left None p e = (refl, e)
none_left (Some n) p e = absurd (no_some n (sym e))

no_floor_below : (o : List ℕ) (es : List Entry) → AreOriginsBelow o (known_entries es) → first_floor o es ≡ None
no_floor_below o [] h = refl
no_floor_below o (e ∷ es) h =
    numbers o (e ∷ []) es ∙ ap (λ m. or_number m (first_floor o es)) (here (known_of e.held)) ∙ no_floor_below o es h.1
  where
    other : (b : Bool) → same_bytes o e.name.origin ≡ b → b ≡ false
    other true is = absurd (not_equal (sym h.0 ∙ ap (λ a. slice_cmp nat_cmp a o) (sym (same_bytes-true o e.name.origin is))
        ∙ tied_itself nat_list_cmp_total o))
      where
        not_equal : Less ≡ Equal → ⊥
        not_equal e = cc
    other false is = refl

    here : (k : Known) → first_of_numbers (filter_map (floor_number o) ((e.name, k) ∷ [])) ≡ None
    here (Live bytes) = refl
    here Disputed = refl
    here Retired = refl
    here Floor = ap (λ b. first_of_numbers (filter_map (λ (x : NameParts × Known). cond b (Some e.name.number) None)
        ((e.name, Floor) ∷ []))) (other (same_bytes o e.name.origin) refl)

above_of : (e m : NameParts) → (slice_cmp nat_cmp e.origin m.origin ≡ Less → ⊥) → name_cmp e m ≡ Less → is_above e m ≡ true
above_of e m low high = by (slice_cmp nat_cmp e.origin m.origin) refl
  where
    by : (o : Ordering) → slice_cmp nat_cmp e.origin m.origin ≡ o → is_above e m ≡ true
    by Less is = absurd (low is)
    by Greater is = absurd (not_both (sym high ∙ ap (λ o. ordering_then o (nat_cmp e.number m.number)) is))
    by Equal is =
        let same : e.origin ≡ m.origin = exact_bytes e.origin m.origin is in
        let number : nat_cmp e.number m.number ≡ Less = sym (ap (λ o. ordering_then o (nat_cmp e.number m.number)) is) ∙ high in
        and_from _ _ (ap (same_bytes e.origin) (sym same) ∙ same_bytes-refl e.origin) (less_number e.number m.number number)

-- behind a name whose origin does not stand before, and that is below no floor, no floor is of the origin
none_from : (e : NameParts) (es : List Entry) (o : List ℕ) → T (below_all name_cmp e (known_entries es))
    → (slice_cmp nat_cmp e.origin o ≡ Less → ⊥) → list_any (is_over e) (known_entries es) ≡ false → first_floor o es ≡ None
none_from e [] o low at none = refl
none_from e (f ∷ es) o low at none =
    numbers o (f ∷ []) es ∙ ap (λ m. or_number m (first_floor o es)) (here (known_of f.held) refl)
    ∙ none_from e es o (second _ _ low) at (later (list_any (is_over e) (known_entries es)) refl)
  where
    later : (b : Bool) → list_any (is_over e) (known_entries es) ≡ b → b ≡ false
    later true is = absurd (both_cases _ (or_right _ _ is) none)
    later false is = refl

    here : (k : Known) → known_of f.held ≡ k → first_of_numbers (filter_map (floor_number o) ((f.name, k) ∷ [])) ≡ None
    here (Live bytes) is = refl
    here Disputed is = refl
    here Retired is = refl
    here Floor is = ap (λ b. first_of_numbers (filter_map (λ (x : NameParts × Known). cond b (Some f.name.number) None)
        ((f.name, Floor) ∷ []))) (other (same_bytes o f.name.origin) refl)
      where
        other : (b : Bool) → same_bytes o f.name.origin ≡ b → b ≡ false
        other true same =
            let over : is_over e (f.name, Floor) ≡ true =
            above_of e f.name (λ h. at (ap (slice_cmp nat_cmp e.origin) (same_bytes-true o f.name.origin same) ∙ h))
            (less _ (first _ _ low)) in
            absurd (both_cases _ (or_left _ _ (ap (λ k. is_over e (f.name, k)) is ∙ over)) none)
        other false same = refl

settled_back : (xs ys : List Entry) → AreSettled (known_entries (xs ++ ys)) → AreSettled (known_entries ys)
settled_back [] ys h = h
settled_back (x ∷ xs) ys h = settled_back xs ys (settled_later x (xs ++ ys) h)

floor_behind : (b rest : List Entry) (o : List ℕ) → IsRising (b ++ rest) → AreSettled (known_entries (b ++ rest))
    → (AreOriginsBelow o (known_entries b) → ⊥) → first_floor o b ≡ None → first_floor o rest ≡ None
floor_behind [] rest o rises settled reached none = absurd (reached tt)
floor_behind (e ∷ b) rest o rises settled reached none =
    by (slice_cmp nat_cmp e.name.origin o) refl (λ is. floor_behind b rest o (second _ _ rises)
    (settled_later e (b ++ rest) settled) (λ h. reached (is, h)) tail)
  where
    tail : first_floor o b ≡ None
    tail = (none_left (first_floor o (e ∷ [])) (first_floor o b) (sym (numbers o (e ∷ []) b) ∙ none)).1

    not_itself : name_cmp e.name e.name ≡ Less → ⊥
    not_itself h = not_equal (sym h ∙ tied_itself names_total e.name)
      where
        not_equal : Less ≡ Equal → ⊥
        not_equal e = cc

    at_first : (slice_cmp nat_cmp e.name.origin o ≡ Less → ⊥) → first_floor o rest ≡ None
    at_first at = (none_left (first_floor o b) (first_floor o rest) (sym (numbers o b rest) ∙ none_from e.name (b ++ rest) o
        (first _ _ rises) at (none_over e (b ++ rest) e.name rises settled not_itself))).1

    other : (c : Ordering) → slice_cmp nat_cmp e.name.origin o ≡ c → (c ≡ Less → ⊥) → slice_cmp nat_cmp e.name.origin o ≡ Less → ⊥
    other c is isnt h = isnt (sym is ∙ h)

    by : (c : Ordering) → slice_cmp nat_cmp e.name.origin o ≡ c → (slice_cmp nat_cmp e.name.origin o ≡ Less
        → first_floor o rest ≡ None) → first_floor o rest ≡ None
    by Less is later = later is
    by Equal is later = at_first (other Equal is (λ h. absurd cc))
    by Greater is later = at_first (other Greater is (λ h. absurd cc))

flat_end : (bs : List (List Entry)) (k : ℕ) → suc k ≡ length bs → flat (drop (suc k) bs) ≡ []
flat_end [] k e = absurd (omega arith)
flat_end (b ∷ []) zero e = refl
flat_end (b ∷ []) (suc k) e = absurd (omega arith)
flat_end (b ∷ c ∷ bs) zero e = absurd (omega arith)
flat_end (b ∷ c ∷ bs) (suc k) e = flat_end (c ∷ bs) k (omega arith)

-- the floor of an origin is in the block where the origin begins
pub floor_home : (o : List ℕ) (bs : List (List Entry)) (k : ℕ) (d : List Entry) → IsOriginHome bs o k → IsRising (flat bs)
    → AreSettled (known_entries (flat bs)) → first_of_numbers (filter_map (floor_number o) (known_entries (get_or bs k d)))
    ≡ first_of_numbers (filter_map (floor_number o) (known_entries (flat bs)))
floor_home o bs k d h rises settled =
    by (first_floor o b) refl
    ∙ sym (numbers o b rest)
    ∙ sym (ap (λ m. or_number m (first_floor o (b ++ rest))) (no_floor_below o (flat (take k bs)) h.before))
    ∙ sym (numbers o (flat (take k bs)) (b ++ rest))
    ∙ ap (first_floor o) (sym (flat_at bs k d h.in_range))
  where
    b : List Entry
    b = get_or bs k d

    rest : List Entry
    rest = flat (drop (suc k) bs)

    behind : first_floor o b ≡ None → first_floor o rest ≡ None
    behind none = ⊎_elim (λ e. ap (first_floor o) (flat_end bs k e))
        (λ reached. floor_behind b rest o (rising_from bs k d h.in_range rises) (settled_back (flat (take k bs)) (b ++ rest)
        (subst (λ es. AreSettled (known_entries es)) (flat_at bs k d h.in_range) settled))
        (λ below. reached (subst (λ es. AreOriginsBelow o (known_entries es)) (block_at bs k d [] h.in_range) below)) none)
        h.reached

    by : (m : Option ℕ) → first_floor o b ≡ m → first_floor o b ≡ or_number (first_floor o b) (first_floor o rest)
    by None is = is ∙ sym (ap (λ m. or_number m (first_floor o rest)) is ∙ behind is)
    by (Some n) is = is ∙ sym (ap (λ m. or_number m (first_floor o rest)) is)

-- ---- dropping between

-- none of these is below the floor
abbrev pub AreBeside : NameParts → List Entry → Type 0
AreBeside n es = AllByRecursion (λ e. is_above e.name n ≡ false) es

pub kept_all : (n : NameParts) (es : List Entry) → AreBeside n es → kept n es ≡ es
kept_all n [] h = refl
kept_all n (e ∷ es) h = ap (λ b. cond (not b) (e ∷ kept n es) (kept n es)) h.0 ∙ ap (λ l. e ∷ l) (kept_all n es h.1)

trimmed_same : (n : NameParts) (b : List Entry) → AreBeside n b → trimmed n b ≡ b
trimmed_same n b h = by (under n b)
  where
    by : (u : Bool) → cond u b (kept n b) ≡ b
    by true = refl
    by false = kept_all n b h

beside_parts : (n : NameParts) (xs ys : List Entry) → AreBeside n (xs ++ ys) → AreBeside n xs × AreBeside n ys
beside_parts n [] ys h = (tt, h)
beside_parts n (x ∷ xs) ys h = let rest = beside_parts n xs ys h.1 in ((h.0, rest.0), rest.1)

pub untouched : (n : NameParts) (bs : List (List Entry)) → AreBeside n (flat bs) → map (trimmed n) bs ≡ bs
untouched n [] h = refl
untouched n (b ∷ bs) h =
    let parts = beside_parts n b (flat bs) h in
    ap (λ c. c ∷ map (trimmed n) bs) (trimmed_same n b parts.0) ∙ ap (λ l. b ∷ l) (untouched n bs parts.1)

not_above : (n : NameParts) (e : Entry) → (is_above e.name n ≡ true → ⊥) → is_above e.name n ≡ false
not_above n e isnt = by (is_above e.name n) refl
  where
    by : (b : Bool) → is_above e.name n ≡ b → is_above e.name n ≡ false
    by true is = absurd (isnt is)
    by false is = is

pub origins_beside : (n : NameParts) (es : List Entry) → AreOriginsBelow n.origin (known_entries es) → AreBeside n es
origins_beside n [] h = tt
origins_beside n (e ∷ es) h = (
  not_above n e
      (λ above. not_equal (sym h.0 ∙ ap (λ o. slice_cmp nat_cmp o n.origin) (same_bytes-true e.name.origin n.origin
      (and_parts (same_bytes e.name.origin n.origin) _ above).0) ∙ tied_itself nat_list_cmp_total n.origin)),
  origins_beside n es h.1,
)
  where
    not_equal : Less ≡ Equal → ⊥
    not_equal e = cc

pub behind_beside : (n : NameParts) (es : List Entry) → AreBehind n (known_entries es) → AreBeside n es
behind_beside n [] h = tt
behind_beside n (e ∷ es) h = (
  not_above n e
      (λ above. not_both (sym h.0 ∙ turned e.name n Less (above_less e.name n above))),
  behind_beside n es h.1,
)

pub beside_later : (n : NameParts) (bs : List (List Entry)) (i k : ℕ) → i ≤ k → AreBeside n (flat (drop i bs)) → AreBeside n (flat (drop k bs))
beside_later n [] zero zero le h = h
beside_later n [] zero (suc k) le h = tt
beside_later n [] (suc i) zero le h = absurd (omega arith)
beside_later n [] (suc i) (suc k) le h = tt
beside_later n (b ∷ bs) zero zero le h = h
beside_later n (b ∷ bs) zero (suc k) le h = beside_later n bs zero k (omega arith) (beside_parts n b (flat bs) h).1
beside_later n (b ∷ bs) (suc i) zero le h = absurd (omega arith)
beside_later n (b ∷ bs) (suc i) (suc k) le h = beside_later n bs i k (omega arith) h

map_parts : (n : NameParts) (xs ys : List (List Entry)) → map (trimmed n) (xs ++ ys) ≡ map (trimmed n) xs ++ map (trimmed n) ys
map_parts n [] ys = refl
map_parts n (x ∷ xs) ys = ap (λ l. trimmed n x ∷ l) (map_parts n xs ys)

-- before the first block that is trimmed
pub trimmed_before : (n : NameParts) (bs : List (List Entry)) (start : ℕ)
    → AreOriginsBelow n.origin (known_entries (flat (take start bs))) → bs ≡ map (trimmed n) (take start bs) ++ drop start bs
trimmed_before n bs start h =
    sym (ap (λ l. l ++ drop start bs) (untouched n (take start bs) (origins_beside n (flat (take start bs)) h)) ∙ take-append-drop start bs)

-- behind the last
pub trimmed_behind : (n : NameParts) (bs now : List (List Entry)) (end k : ℕ) → suc end ≤ k
    → AreBehind n (known_entries (flat (drop (suc end) bs))) → now ≡ map (trimmed n) (take k bs) ++ drop k bs → now ≡ map (trimmed n) bs
trimmed_behind n bs now end k le h is =
    is
    ∙ ap (λ l. map (trimmed n) (take k bs) ++ l)
    (sym (untouched n (drop k bs) (beside_later n bs (suc end) k le (behind_beside n (flat (drop (suc end) bs)) h))))
    ∙ sym (map_parts n (take k bs) (drop k bs))
    ∙ ap (map (trimmed n)) (take-append-drop k bs)
