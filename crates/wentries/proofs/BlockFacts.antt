-- What blocks of entries hold together.
use Rattle.std.proofs.Common.{option_map, is_some, IfSome, ◌≡◌, ◌∙◌, ◌+◌, ◌<◌, ◌++◌, Bool, true, false}
use Rattle.std.proofs.Common.{cond, T, ℕ, zero, suc, List, [], ◌∷◌, length, get_or, set, take, drop, Option}
use Rattle.std.proofs.Common.{None, Some, refl, sym, ap, subst, arith, append_assoc, is_eq}
use Rattle.std.proofs.lemmas.List.{append-nil, map-append}
use Rattle.std.specs.Ordering.{is_lt}
use Rattle.std.specs.declared.cmp.Ordering.{Ordering}
use Rattle.std.specs.declared.cmp.Ordering.TheVariants.{Less, Equal, Greater}
use Rattle.std.specs.Option.{option_copied}
use Rattle.std.specs.FinMap.Entries.{length-put, below_all}
use Rattle.std.specs.FinMap.{find, put}
use Rattle.wvalues.specs.Names.{NameParts, name_cmp, names_total}
use Rattle.wsegment.specs.Declaration.{Declaration}
use Rattle.wentries.specs.Knowledge.{Known}
use Rattle.wentries.specs.Entries.{AreBelow, AllHeldBy, IsRising, known_entry, known_entries, AreBehind}
use Rattle.wentries.specs.Holding.{IsHeldBy, known_of}
use Rattle.wentries.specs.Blocks.{IsHome, flat}
use Rattle.wentries.specs.declared.entries.Entry.{Entry}
use Rattle.wentries.specs.declared.held.Held.{Held}
use Rattle.std.specs.Borrow.{Bor}
use Rattle.wentries.proofs.EntryFacts.{length-known_entries}
use Rattle.wentries.proofs.Finding.{below_at, put_here, turned}
use Rattle.wentries.proofs.Floors.{both, first, second, less}

-- ---- the parts of the whole

pub flat_at : (bs : List (List Entry)) (k : ℕ) (d : List Entry) → k < length bs
    → flat bs ≡ flat (take k bs) ++ (get_or bs k d ++ flat (drop (suc k) bs))
flat_at [] k d lt = absurd (omega arith)
flat_at (b ∷ bs) zero d lt = refl
flat_at (b ∷ bs) (suc k) d lt = ap (λ es. b ++ es) (flat_at bs k d (omega arith))
    ∙ sym (append_assoc b (flat (take k bs)) (get_or bs k d ++ flat (drop (suc k) bs)))

pub flat_set : (bs : List (List Entry)) (k : ℕ) (c : List Entry) → k < length bs
    → flat (set bs k c) ≡ flat (take k bs) ++ (c ++ flat (drop (suc k) bs))
flat_set [] k c lt = absurd (omega arith)
flat_set (b ∷ bs) zero c lt = refl
flat_set (b ∷ bs) (suc k) c lt = ap (λ es. b ++ es) (flat_set bs k c (omega arith))
    ∙ sym (append_assoc b (flat (take k bs)) (c ++ flat (drop (suc k) bs)))

pub known_append : (xs ys : List Entry) → known_entries (xs ++ ys) ≡ known_entries xs ++ known_entries ys
known_append xs ys = map-append known_entry xs ys

-- ---- looking up and putting in a part

pub find_behind : (xs ys : List (NameParts × Known)) (n : NameParts) → AreBelow n xs → find name_cmp n (xs ++ ys) ≡ find name_cmp n ys
find_behind [] ys n h = refl
find_behind (x ∷ xs) ys n h = ap (λ o. cond (is_eq o) (Some x.1) (find name_cmp n (xs ++ ys))) (turned x.0 n Less h.0)
    ∙ find_behind xs ys n h.1

find_none : (ys : List (NameParts × Known)) (n : NameParts) → AreBehind n ys → find name_cmp n ys ≡ None
find_none [] n h = refl
find_none (y ∷ ys) n h = ap (λ o. cond (is_eq o) (Some y.1) (find name_cmp n ys)) h.0 ∙ find_none ys n h.1

pub find_before : (xs ys : List (NameParts × Known)) (n : NameParts) → AreBehind n ys → find name_cmp n (xs ++ ys) ≡ find name_cmp n xs
find_before [] ys n h = find_none ys n h
find_before (x ∷ xs) ys n h = ap (cond (is_eq (name_cmp n x.0)) (Some x.1)) (find_before xs ys n h)

pub put_behind : (xs ys : List (NameParts × Known)) (n : NameParts) (k : Known) → AreBelow n xs
    → put name_cmp n k (xs ++ ys) ≡ xs ++ put name_cmp n k ys
put_behind [] ys n k h = refl
put_behind (x ∷ xs) ys n k h = put_here x (xs ++ ys) n k Greater (turned x.0 n Less h.0) ∙ ap (λ es. x ∷ es) (put_behind xs ys n k h.1)

put_first : (ys : List (NameParts × Known)) (n : NameParts) (k : Known) → AreBehind n ys → put name_cmp n k ys ≡ (n, k) ∷ ys
put_first [] n k h = refl
put_first (y ∷ ys) n k h = put_here y ys n k Less h.0

pub put_before : (xs ys : List (NameParts × Known)) (n : NameParts) (k : Known) → AreBehind n ys
    → put name_cmp n k (xs ++ ys) ≡ put name_cmp n k xs ++ ys
put_before [] ys n k h = put_first ys n k h
put_before (x ∷ xs) ys n k h = by (name_cmp n x.0) refl (put_before xs ys n k h)
  where
    by : (o : Ordering) → name_cmp n x.0 ≡ o → put name_cmp n k (xs ++ ys) ≡ put name_cmp n k xs ++ ys
        → put name_cmp n k ((x ∷ xs) ++ ys) ≡ put name_cmp n k (x ∷ xs) ++ ys
    by Less e rest = put_here x (xs ++ ys) n k Less e ∙ sym (ap (λ es. es ++ ys) (put_here x xs n k Less e))
    by Equal e rest = put_here x (xs ++ ys) n k Equal e ∙ sym (ap (λ es. es ++ ys) (put_here x xs n k Equal e))
    by Greater e rest = put_here x (xs ++ ys) n k Greater e ∙ ap (λ es. x ∷ es) rest
        ∙ sym (ap (λ es. es ++ ys) (put_here x xs n k Greater e))

-- ---- rising parts

below_front : (n : NameParts) (xs ys : List Entry) → T (below_all name_cmp n (known_entries (xs ++ ys)))
    → T (below_all name_cmp n (known_entries xs))
below_front n [] ys h = tt
below_front n (x ∷ xs) ys h = both _ _ (first _ _ h) (below_front n xs ys (second _ _ h))

below_back : (n : NameParts) (xs ys : List Entry) → T (below_all name_cmp n (known_entries (xs ++ ys)))
    → T (below_all name_cmp n (known_entries ys))
below_back n [] ys h = h
below_back n (x ∷ xs) ys h = below_back n xs ys (second _ _ h)

pub rising_front : (xs ys : List Entry) → IsRising (xs ++ ys) → IsRising xs
rising_front [] ys h = tt
rising_front (x ∷ xs) ys h = both _ _ (below_front x.name xs ys (first _ _ h)) (rising_front xs ys (second _ _ h))

pub rising_back : (xs ys : List Entry) → IsRising (xs ++ ys) → IsRising ys
rising_back [] ys h = h
rising_back (x ∷ xs) ys h = rising_back xs ys (second _ _ h)

-- a block of rising ones rises, also with all before it, and with all behind it
pub rising_from : (bs : List (List Entry)) (k : ℕ) (d : List Entry) → k < length bs → IsRising (flat bs)
    → IsRising (get_or bs k d ++ flat (drop (suc k) bs))
rising_from bs k d lt h = rising_back (flat (take k bs)) (get_or bs k d ++ flat (drop (suc k) bs)) (subst IsRising (flat_at bs k d lt) h)

pub rising_at : (bs : List (List Entry)) (k : ℕ) (d : List Entry) → k < length bs → IsRising (flat bs) → IsRising (get_or bs k d)
rising_at bs k d lt h = rising_front (get_or bs k d) (flat (drop (suc k) bs)) (rising_from bs k d lt h)

pub rising_to : (bs : List (List Entry)) (k : ℕ) (d : List Entry) → k < length bs → IsRising (flat bs)
    → IsRising (flat (take k bs) ++ get_or bs k d)
rising_to bs k d lt h =
    rising_front (flat (take k bs) ++ get_or bs k d) (flat (drop (suc k) bs))
    (subst IsRising (flat_at bs k d lt ∙ sym (append_assoc (flat (take k bs)) (get_or bs k d) (flat (drop (suc k) bs)))) h)

behind_of : (n m : NameParts) (es : List Entry) → (name_cmp n m ≡ Greater → ⊥) → T (below_all name_cmp m (known_entries es))
    → AreBehind n (known_entries es)
behind_of n m [] h below = tt
behind_of n m (e ∷ es) h below = (by (name_cmp n m) refl, behind_of n m es h (second _ _ below))
  where
    by : (o : Ordering) → name_cmp n m ≡ o → name_cmp n e.name ≡ Less
    by Less is = names_total.trans n m e.name is (less _ (first _ _ below))
    by Equal is = names_total.congr n m e.name is ∙ less _ (first _ _ below)
    by Greater is = absurd (h is)

-- a name that is not behind the last of some stands before what is behind them
pub not_behind : (xs ys : List Entry) (i : ℕ) (d : Entry) (n : NameParts) → i < length xs → IsRising (xs ++ ys)
    → (name_cmp n (get_or xs i d).name ≡ Greater → ⊥) → AreBehind n (known_entries ys)
not_behind [] ys i d n lt h low = absurd (omega arith)
not_behind (x ∷ xs) ys zero d n lt h low = behind_of n x.name ys low (below_back x.name xs ys (first _ _ h))
not_behind (x ∷ xs) ys (suc i) d n lt h low = not_behind xs ys i d n (omega arith) (second _ _ h) low

-- a name that is behind the last is behind all
all_below : (xs : List Entry) (i : ℕ) (d : Entry) (n : NameParts) → suc i ≡ length xs → IsRising xs
    → name_cmp (get_or xs i d).name n ≡ Less → AreBelow n (known_entries xs)
all_below [] i d n e h is = absurd (omega arith)
all_below (x ∷ []) zero d n e h is = (is, tt)
all_below (x ∷ []) (suc i) d n e h is = absurd (omega arith)
all_below (x ∷ y ∷ xs) zero d n e h is = absurd (omega arith)
all_below (x ∷ y ∷ xs) (suc i) d n e h is = (
  names_total.trans x.name (get_or (y ∷ xs) i d).name n (below_at x.name (y ∷ xs) i d (first _ _ h) (omega arith)) is,
  all_below (y ∷ xs) i d n (omega arith) (second _ _ h) is,
)

pub all_below_last : (xs ys : List Entry) (i : ℕ) (d : Entry) (n : NameParts) → suc i ≡ length ys → IsRising (xs ++ ys)
    → name_cmp (get_or ys i d).name n ≡ Less → AreBelow n (known_entries (xs ++ ys))
all_below_last [] ys i d n e h is = all_below ys i d n e h is
all_below_last (x ∷ xs) ys i d n e h is = (
  names_total.trans x.name (get_or ys i d).name n (below_at x.name ys i d (below_back x.name xs ys (first _ _ h))
      (omega (arith, e))) is,
  all_below_last xs ys i d n e (second _ _ h) is,
)

-- what a comparison of the last name with a name says
pub lower : (e f : Entry) {o : Ordering} (n : NameParts) → e ≡ f → o ≡ name_cmp e.name n → is_lt o ≡ true → name_cmp f.name n ≡ Less
lower e f {o} n same is lt = ap (λ (x : Entry). name_cmp x.name n) (sym same) ∙ sym is ∙ by o lt
  where
    by : (o : Ordering) → is_lt o ≡ true → o ≡ Less
    by Less h = refl
    by Equal h = cc
    by Greater h = cc

pub not_lower : (e f : Entry) {o : Ordering} (n : NameParts) → e ≡ f → o ≡ name_cmp e.name n → is_lt o ≡ false
    → name_cmp n f.name ≡ Greater → ⊥
not_lower e f {o} n same is lt above = by o lt (is ∙ ap (λ (x : Entry). name_cmp x.name n) same ∙ turned n f.name Greater above)
  where
    by : (o : Ordering) → is_lt o ≡ false → o ≡ Less → ⊥
    by Less h e = cc
    by Equal h e = cc
    by Greater h e = cc

flat_drop : (bs : List (List Entry)) (k : ℕ) (b : List Entry) → k < length bs → b ≡ get_or bs k b
    → flat (drop k bs) ≡ b ++ flat (drop (suc k) bs)
flat_drop [] k b lt is = absurd (omega arith)
flat_drop (x ∷ bs) zero b lt is = ap (λ es. es ++ flat bs) (sym is)
flat_drop (x ∷ bs) (suc k) b lt is = flat_drop bs k b (omega arith) is

-- the first of the blocks that are left, and the others
pub flat_next : (bs : List (List Entry)) (k : ℕ) (b : List Entry) → k < length bs → b ≡ get_or bs k b
    → flat (drop k bs) ≡ b ++ flat (drop (k + 1) bs)
flat_next bs k b lt is = flat_drop bs k b lt is ∙ ap (λ m. b ++ flat (drop m bs)) {x = suc k} {y = k + 1} (omega arith)

-- one more block
pub flat_more : (bs : List (List Entry)) (k : ℕ) (d : List Entry) → k < length bs
    → flat (take (suc k) bs) ≡ flat (take k bs) ++ get_or bs k d
flat_more [] k d lt = absurd (omega arith)
flat_more (b ∷ bs) zero d lt = append-nil b
flat_more (b ∷ bs) (suc k) d lt = ap (λ es. b ++ es) (flat_more bs k d (omega arith))
    ∙ sym (append_assoc b (flat (take k bs)) (get_or bs k d))

-- a name that is behind the last of a block is behind all up to there
pub below_next : (bs : List (List Entry)) (k : ℕ) (b : List Entry) (n : NameParts) → k < length bs → b ≡ get_or bs k b
    → IsRising (flat bs) → ((before : List Entry) → IsRising (before ++ b) → AreBelow n (known_entries (before ++ b)))
    → AreBelow n (known_entries (flat (take (k + 1) bs)))
below_next bs k b n lt is h below =
    let next : flat (take (k + 1) bs) ≡ flat (take k bs) ++ b =
    ap (λ m. flat (take m bs)) {x = k + 1} {y = suc k} (omega arith) ∙ flat_more bs k b lt ∙ ap (λ es. flat (take k bs) ++ es) (sym is) in
    subst (λ es. AreBelow n (known_entries es)) (sym next)
    (below (flat (take k bs)) (subst (λ es. IsRising (flat (take k bs) ++ es)) (sym is) (rising_to bs k b lt h)))

pub behind_next : (bs : List (List Entry)) (k : ℕ) (b : List Entry) (n : NameParts) → k < length bs → b ≡ get_or bs k b
    → IsRising (flat bs) → ((after : List Entry) → IsRising (b ++ after) → AreBehind n (known_entries after))
    → AreBehind n (known_entries (flat (drop (suc k) bs)))
behind_next bs k b n lt is h behind =
    behind (flat (drop (suc k) bs)) (subst (λ es. IsRising (es ++ flat (drop (suc k) bs))) (sym is) (rising_from bs k b lt h))

-- ---- what is held

pub held_front : (d : Declaration) (xs ys : List Entry) → AllHeldBy d (xs ++ ys) → AllHeldBy d xs
held_front d [] ys h = tt
held_front d (x ∷ xs) ys h = (h.0, held_front d xs ys h.1)

pub held_back : (d : Declaration) (xs ys : List Entry) → AllHeldBy d (xs ++ ys) → AllHeldBy d ys
held_back d [] ys h = h
held_back d (x ∷ xs) ys h = held_back d xs ys h.1

pub held_append : (d : Declaration) (xs ys : List Entry) → AllHeldBy d xs → AllHeldBy d ys → AllHeldBy d (xs ++ ys)
held_append d [] ys h k = k
held_append d (x ∷ xs) ys h k = (h.0, held_append d xs ys h.1 k)

-- another block in the place of one
pub held_set : (d : Declaration) (bs : List (List Entry)) (k : ℕ) (e c : List Entry) → k < length bs → AllHeldBy d (flat bs)
    → (AllHeldBy d (get_or bs k e) → AllHeldBy d c) → AllHeldBy d (flat (set bs k c))
held_set d bs k e c lt all more =
    let whole = subst (AllHeldBy d) (flat_at bs k e lt) all in
    let rest = held_back d (flat (take k bs)) (get_or bs k e ++ flat (drop (suc k) bs)) whole in
    subst (AllHeldBy d) (sym (flat_set bs k c lt))
    (held_append d (flat (take k bs)) (c ++ flat (drop (suc k) bs))
    (held_front d (flat (take k bs)) (get_or bs k e ++ flat (drop (suc k) bs)) whole)
    (held_append d c (flat (drop (suc k) bs)) (more (held_front d (get_or bs k e) (flat (drop (suc k) bs)) rest))
    (held_back d (get_or bs k e) (flat (drop (suc k) bs)) rest)))

pub held_block : (d : Declaration) (bs : List (List Entry)) (k : ℕ) (e : List Entry) → k < length bs → AllHeldBy d (flat bs)
    → AllHeldBy d (get_or bs k e)
held_block d bs k e lt all =
    held_front d (get_or bs k e) (flat (drop (suc k) bs))
    (held_back d (flat (take k bs)) (get_or bs k e ++ flat (drop (suc k) bs)) (subst (AllHeldBy d) (flat_at bs k e lt) all))

-- ---- a name's home

pub find_home : (bs : List (List Entry)) (n : NameParts) (k : ℕ) (d : List Entry) → IsHome bs n k
    → find name_cmp n (known_entries (flat bs)) ≡ find name_cmp n (known_entries (get_or bs k d))
find_home bs n k d h =
    ap (λ es. find name_cmp n (known_entries es)) (flat_at bs k d h.in_range)
    ∙ ap (find name_cmp n) (known_append (flat (take k bs)) (get_or bs k d ++ flat (drop (suc k) bs)))
    ∙ find_behind (known_entries (flat (take k bs))) (known_entries (get_or bs k d ++ flat (drop (suc k) bs))) n h.before
    ∙ ap (find name_cmp n) (known_append (get_or bs k d) (flat (drop (suc k) bs)))
    ∙ find_before (known_entries (get_or bs k d)) (known_entries (flat (drop (suc k) bs))) n h.behind

-- what is known of a name is put into its home
pub put_home : (bs : List (List Entry)) (n : NameParts) (held : Known) (k : ℕ) (d c : List Entry) → IsHome bs n k
    → known_entries c ≡ put name_cmp n held (known_entries (get_or bs k d)) → known_entries (flat (set bs k c))
    ≡ put name_cmp n held (known_entries (flat bs))
put_home bs n held k d c h is =
    let xs = flat (take k bs) in
    let b = get_or bs k d in
    let ys = flat (drop (suc k) bs) in
    ap known_entries (flat_set bs k c h.in_range)
    ∙ known_append xs (c ++ ys)
    ∙ ap (λ es. known_entries xs ++ es) (known_append c ys ∙ ap (λ es. es ++ known_entries ys) is
    ∙ sym (put_before (known_entries b) (known_entries ys) n held h.behind) ∙ ap (put name_cmp n held) (sym (known_append b ys)))
    ∙ sym (put_behind (known_entries xs) (known_entries (b ++ ys)) n held h.before)
    ∙ ap (put name_cmp n held) (sym (known_append xs (b ++ ys)))
    ∙ ap (λ es. put name_cmp n held (known_entries es)) (sym (flat_at bs k d h.in_range))

-- what is held of a name was read by the declaration, also where more is read
pub read_more : (o : Option (Bor Held)) (es fs : List Entry) → ((d : Declaration) → AllHeldBy d fs → AllHeldBy d es)
    → IfSome o (λ held. (d : Declaration) → AllHeldBy d es → IsHeldBy d held.now) → IfSome o (λ held. (d : Declaration)
    → AllHeldBy d fs → IsHeldBy d held.now)
read_more None es fs more h = tt
read_more (Some held) es fs more h = λ d all. h d (more d all)

-- ---- the number of entries

some_same : (o : Option (Bor Held)) → is_some (option_map known_of (option_copied o)) ≡ is_some o
some_same None = refl
some_same (Some held) = refl

pub counted_after : (o : Option (Bor Held)) (es : List Entry) (n : NameParts) (k : Known) (b : Bool)
    → option_map known_of (option_copied o) ≡ find name_cmp n (known_entries es) → is_some o ≡ b → IsRising es
    → length (put name_cmp n k (known_entries es)) ≡ cond b (length es) (length es + 1)
counted_after o es n k b known is h =
    length-put name_cmp names_total n k (known_entries es) h
    ∙ ap (λ c. cond c (length (known_entries es)) (length (known_entries es) + 1)) (ap is_some (sym known) ∙ some_same o ∙ is)
    ∙ ap (λ m. cond b m (m + 1)) (length-known_entries es)

-- ---- the last name

pub below_last : (es : List Entry) (i : ℕ) (d : Entry) (n : NameParts) → i < length es → AreBelow n (known_entries es)
    → name_cmp (get_or es i d).name n ≡ Less
below_last [] i d n lt h = absurd (omega arith)
below_last (e ∷ es) zero d n lt h = h.0
below_last (e ∷ es) (suc i) d n lt h = below_last es i d n (omega arith) h.1

pub below_end : (xs ys : List Entry) (n : NameParts) → AreBelow n (known_entries (xs ++ ys)) → AreBelow n (known_entries ys)
below_end [] ys n h = h
below_end (x ∷ xs) ys n h = below_end xs ys n h.1

pub flat_last : (bs : List (List Entry)) (k : ℕ) (d : List Entry) → suc k ≡ length bs → flat bs ≡ flat (take k bs) ++ get_or bs k d
flat_last [] k d e = absurd (omega arith)
flat_last (b ∷ []) zero d e = append-nil b
flat_last (b ∷ []) (suc k) d e = absurd (omega arith)
flat_last (b ∷ c ∷ bs) zero d e = absurd (omega arith)
flat_last (b ∷ c ∷ bs) (suc k) d e = ap (λ es. b ++ es) (flat_last (c ∷ bs) k d (omega arith))
    ∙ sym (append_assoc b (flat (take k (c ∷ bs))) (get_or (c ∷ bs) k d))
