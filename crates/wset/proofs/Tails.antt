-- Entries that are put behind others, without those that are then below a floor.
use Rattle.std.proofs.Common.{◌≡◌, ℕ, zero, suc, ◌<◌, ◌||◌, ◌++◌, Bool, true, false, cond, not, T, List, [], ◌∷◌, length, get_or}
use Rattle.std.proofs.Common.{take, None, Some, refl, sym, ap, ◌∙◌, subst, arith, append_assoc, append-nil, ⊎_elim, ◌⊎◌}
use Rattle.std.proofs.lemmas.Bool.{true≢false, or_cases, or_left, or_right}
use Rattle.std.proofs.lemmas.List.Folds.{list_any-append}
use Rattle.std.proofs.lemmas.List.Elements.{filter-append}
use Rattle.std.specs.List.{filter, list_any}
use Rattle.std.specs.declared.cmp.Ordering.TheVariants.{Less}
use Rattle.std.specs.FinMap.Entries.{below_all, find-where_key}
use Rattle.std.specs.FinMap.{find, is_sorted}
use Rattle.wvalues.specs.Names.{NameParts, name_cmp}
use Rattle.wsegment.specs.Declaration.{Declaration}
use Rattle.wentries.specs.Knowledge.{Known, Floor, is_above, is_over, same_name}
use Rattle.wentries.specs.Entries.{AreBelow, AllHeldBy, AreSettled, IsRising, above_floors, known_entries, known_entry}
use Rattle.wentries.specs.Holding.{IsHeldBy, known_of}
use Rattle.wentries.specs.declared.entries.Entry.{Entry}
use Rattle.wentries.proofs.BlockFacts.{held_append, known_append, rising_front}
use Rattle.wentries.proofs.Finding.{below_at, turned}
use Rattle.wentries.proofs.Floors.{both, first, second, less, any_trans, both_cases, exact_names, not_above_itself}
use Rattle.wentries.proofs.Floors.{over_floor, same_name-true, same_name-refl, find_below}
use Rattle.wset.proofs.Settling.{not_low}
use Rattle.wentries.proofs.Lows.{between, held_filter, not_both}

-- ---- an entry behind others

-- the entries that are not below this one
abbrev pub beside : (NameParts × Known) → List (NameParts × Known) → List (NameParts × Known)
beside e es = filter (λ x. not (is_over x.0 e)) es

pub known_beside : (e : NameParts × Known) (es : List Entry) → known_entries (filter (λ x. not (is_over x.name e)) es)
    ≡ beside e (known_entries es)
known_beside e [] = refl
known_beside e (x ∷ xs) = by (is_over x.name e) (known_beside e xs)
  where
    by : (b : Bool) → known_entries (filter (λ x. not (is_over x.name e)) xs) ≡ beside e (known_entries xs)
        → known_entries (cond (not b) (x ∷ filter (λ x. not (is_over x.name e)) xs) (filter (λ x. not (is_over x.name e))
        xs)) ≡ cond (not b) (known_entry x ∷ beside e (known_entries xs)) (beside e (known_entries xs))
    by true rest = rest
    by false rest = ap (λ l. known_entry x ∷ l) rest

-- what is dropped from a list below one of its entries does not change what is above its floors
abbrev high : List (NameParts × Known) → List (NameParts × Known) → List (NameParts × Known)
high all es = filter (λ e. not (list_any (is_over e.0) all)) es

high_same : (all more : List (NameParts × Known)) → ((n : NameParts) → list_any (is_over n) all ≡ list_any (is_over n) more)
    → (es : List (NameParts × Known)) → high all es ≡ high more es
high_same all more same [] = refl
high_same all more same (e ∷ es) = ap (λ b. cond (not b) (e ∷ high all es) (high all es)) (same e.0)
    ∙ ap (λ l. cond (not (list_any (is_over e.0) more)) (e ∷ l) l) (high_same all more same es)

high_beside : (all : List (NameParts × Known)) (e : NameParts × Known) (es : List (NameParts × Known))
    → ((n : NameParts) → is_over n e ≡ true → list_any (is_over n) all ≡ true) → high all (beside e es) ≡ high all es
high_beside all e [] h = refl
high_beside all e (x ∷ xs) h = by (is_over x.0 e) refl (high_beside all e xs h)
  where
    by : (b : Bool) → is_over x.0 e ≡ b → high all (beside e xs) ≡ high all xs → high all (beside e (x ∷ xs)) ≡ high all (x ∷ xs)
    by true is rest = ap (λ b. high all (cond (not b) (x ∷ beside e xs) (beside e xs))) is ∙ rest
        ∙ sym (ap (λ b. cond (not b) (x ∷ high all xs) (high all xs)) (h x.0 is))
    by false is rest = ap (λ b. high all (cond (not b) (x ∷ beside e xs) (beside e xs))) is
        ∙ ap (λ l. cond (not (list_any (is_over x.0) all)) (x ∷ l) l) rest

-- an entry that is over what is over a name is over the name
over_by : (n : NameParts) (x e : NameParts × Known) → is_over n x ≡ true → is_over x.0 e ≡ true → is_over n e ≡ true
over_by n x e nx xe =
    let f = over_floor n x nx in
    sym (or_single (is_over n e)) ∙ any_trans n x.0 (e ∷ []) f.1 (or_single (is_over x.0 e) ∙ xe)
  where
    or_single : (b : Bool) → (b || false) ≡ b
    or_single true = refl
    or_single false = refl

any_beside : (n : NameParts) (e : NameParts × Known) (es rest : List (NameParts × Known))
    → list_any (is_over n) (beside e es ++ e ∷ rest) ≡ list_any (is_over n) (es ++ e ∷ rest)
any_beside n e [] rest = refl
any_beside n e (x ∷ xs) rest = by (is_over x.0 e) refl (any_beside n e xs rest)
  where
    has_e : (xs : List (NameParts × Known)) → is_over n e ≡ true → list_any (is_over n) (xs ++ e ∷ rest) ≡ true
    has_e [] is = or_left _ _ is
    has_e (x ∷ xs) is = or_right _ _ (has_e xs is)

    dropped : is_over x.0 e ≡ true → (c : Bool) → is_over n x ≡ c → list_any (is_over n) (xs ++ e ∷ rest)
        ≡ (is_over n x || list_any (is_over n) (xs ++ e ∷ rest))
    dropped is true over = has_e xs (over_by n x e over is) ∙ sym (or_left _ _ over)
    dropped is false over = sym (ap (λ b. b || list_any (is_over n) (xs ++ e ∷ rest)) over)

    by : (b : Bool) → is_over x.0 e ≡ b → list_any (is_over n) (beside e xs ++ e ∷ rest)
        ≡ list_any (is_over n) (xs ++ e ∷ rest) → list_any (is_over n) (beside e (x ∷ xs) ++ e ∷ rest)
        ≡ list_any (is_over n) ((x ∷ xs) ++ e ∷ rest)
    by true is same = ap (λ b. list_any (is_over n) (cond (not b) (x ∷ beside e xs) (beside e xs) ++ e ∷ rest)) is ∙ same
        ∙ dropped is (is_over n x) refl
    by false is same = ap (λ b. list_any (is_over n) (cond (not b) (x ∷ beside e xs) (beside e xs) ++ e ∷ rest)) is
        ∙ ap (λ b. is_over n x || b) same

over_here : (n : NameParts) (e : NameParts × Known) (es rest : List (NameParts × Known)) → is_over n e ≡ true
    → list_any (is_over n) (es ++ e ∷ rest) ≡ true
over_here n e [] rest is = or_left _ _ is
over_here n e (x ∷ xs) rest is = or_right _ _ (over_here n e xs rest is)

pub above_beside : (e : NameParts × Known) (es rest : List (NameParts × Known)) → above_floors (beside e es ++ e ∷ rest)
    ≡ above_floors (es ++ e ∷ rest)
above_beside e es rest =
    let all = es ++ e ∷ rest in
    high_same (beside e es ++ e ∷ rest) all (λ n. any_beside n e es rest) (beside e es ++ e ∷ rest)
    ∙ filter-append (λ x. not (list_any (is_over x.0) all)) (beside e es) (e ∷ rest)
    ∙ ap (λ l. l ++ high all (e ∷ rest)) (high_beside all e es (λ n is. over_here n e es rest is))
    ∙ sym (filter-append (λ x. not (list_any (is_over x.0) all)) es (e ∷ rest))

-- ---- one more entry behind others

below_beside : (x : NameParts) (e : NameParts × Known) (es l : List (NameParts × Known))
    → T (below_all name_cmp x (es ++ l)) → T (below_all name_cmp x (beside e es ++ l))
below_beside x e [] l h = h
below_beside x e (f ∷ es) l h = by (is_over f.0 e) (below_beside x e es l (second _ _ h))
  where
    by : (b : Bool) → T (below_all name_cmp x (beside e es ++ l))
        → T (below_all name_cmp x (cond (not b) (f ∷ beside e es) (beside e es) ++ l))
    by true rest = rest
    by false rest = both _ _ (first _ _ h) rest

pub sorted_beside : (e : NameParts × Known) (es l : List (NameParts × Known)) → T (is_sorted name_cmp (es ++ l))
    → T (is_sorted name_cmp (beside e es ++ l))
sorted_beside e [] l h = h
sorted_beside e (f ∷ es) l h = by (is_over f.0 e) (sorted_beside e es l (second _ _ h))
  where
    by : (b : Bool) → T (is_sorted name_cmp (beside e es ++ l)) → T (is_sorted name_cmp (cond (not b) (f ∷ beside e es) (beside e es) ++ l))
    by true rest = rest
    by false rest = both _ _ (below_beside f.0 e es l (first _ _ h)) rest

-- the names before an entry of rising ones are below it
below_entry : (x : NameParts) (es : List (NameParts × Known)) (e : NameParts × Known) (l : List (NameParts × Known))
    → T (below_all name_cmp x (es ++ e ∷ l)) → name_cmp x e.0 ≡ Less
below_entry x [] e l h = less _ (first _ _ h)
below_entry x (f ∷ es) e l h = below_entry x es e l (second _ _ h)

pub before_entry : (es : List (NameParts × Known)) (e : NameParts × Known) (l : List (NameParts × Known))
    → T (is_sorted name_cmp (es ++ e ∷ l)) → AreBelow e.0 es
before_entry [] e l h = tt
before_entry (f ∷ es) e l h = (below_entry f.0 es e l (first _ _ h), before_entry es e l (second _ _ h))

below_parts : (x : NameParts) (es l : List (NameParts × Known)) → T (below_all name_cmp x (es ++ l)) → T (below_all name_cmp x es)
below_parts x [] l h = tt
below_parts x (f ∷ es) l h = both _ _ (first _ _ h) (below_parts x es l (second _ _ h))

pub sorted_front : (es l : List (NameParts × Known)) → T (is_sorted name_cmp (es ++ l)) → T (is_sorted name_cmp es)
sorted_front [] l h = tt
sorted_front (f ∷ es) l h = both _ _ (below_parts f.0 es l (first _ _ h)) (sorted_front es l (second _ _ h))

find_parts : (m : NameParts) (es l : List (NameParts × Known)) → find name_cmp m es ≡ None → find name_cmp m (es ++ l) ≡ find name_cmp m l
find_parts m [] l h = refl
find_parts m (f ∷ es) l h = by (same_name m f.0) h (find_parts m es l)
  where
    by : (b : Bool) → cond b (Some f.1) (find name_cmp m es) ≡ None
        → (find name_cmp m es ≡ None → find name_cmp m (es ++ l) ≡ find name_cmp m l)
        → cond b (Some f.1) (find name_cmp m (es ++ l)) ≡ find name_cmp m l
    by true e rest = absurd cc
    by false e rest = rest e

find_beside : (m : NameParts) (e : NameParts × Known) (es : List (NameParts × Known))
    → find name_cmp m (beside e es) ≡ cond (not (is_over m e)) (find name_cmp m es) None
find_beside m e es = find-where_key name_cmp (λ n. not (is_over n e)) m (λ x h. ap (λ n. not (is_over n e)) (sym (exact_names m x h))) es

-- it is not over itself
not_over_itself : (e : NameParts × Known) → is_over e.0 e ≡ false
not_over_itself e = by (is_over e.0 e) refl
  where
    by : (b : Bool) → is_over e.0 e ≡ b → is_over e.0 e ≡ false
    by true is = absurd (not_above_itself e.0 (over_floor e.0 e is).1)
    by false is = is

pub settled_more : (e : NameParts × Known) (es : List (NameParts × Known)) → AreSettled es → AreBelow e.0 es
    → AreSettled (beside e es ++ e ∷ [])
settled_more e es settled below m low = by (is_over m e) refl (or_cases (list_any (is_over m) es) _
    (sym (list_any-append (is_over m) es (e ∷ [])) ∙ sym (any_beside m e es []) ∙ low))
  where
    last : is_over m e ≡ true → find name_cmp m (e ∷ []) ≡ None
    last over = by_name (same_name m e.0) refl
      where
        by_name : (b : Bool) → same_name m e.0 ≡ b → find name_cmp m (e ∷ []) ≡ None
        by_name true same = absurd (both_cases _ over (ap (λ n. is_over n e) (same_name-true m e.0 same) ∙ not_over_itself e))
        by_name false same = ap (λ b. cond b (Some e.1) None) same

    other : list_any (is_over m) es ≡ true → find name_cmp m (e ∷ []) ≡ None
    other over = by_name (same_name m e.0) refl
      where
        by_name : (b : Bool) → same_name m e.0 ≡ b → find name_cmp m (e ∷ []) ≡ None
        by_name true same = absurd (both_cases _ over (ap (λ n. list_any (is_over n) es) (same_name-true m e.0 same)
            ∙ not_low e.0 es below))
        by_name false same = ap (λ b. cond b (Some e.1) None) same

    by : (b : Bool) → is_over m e ≡ b → (list_any (is_over m) es ≡ true) ⊎ (list_any (is_over m) (e ∷ []) ≡ true)
        → find name_cmp m (beside e es ++ e ∷ []) ≡ None
    by true over h = find_parts m (beside e es) (e ∷ []) (find_beside m e es
        ∙ ap (λ b. cond (not b) (find name_cmp m es) None) over) ∙ last over
    by false over h =
        let low_es : list_any (is_over m) es ≡ true = ⊎_elim (λ x. x) (λ x. absurd (both_cases _ x (ap (λ b. b || false) over))) h in
        find_parts m (beside e es) (e ∷ []) (find_beside m e es ∙ ap (λ b. cond (not b) (find name_cmp m es) None) over
        ∙ settled m low_es) ∙ other low_es

-- settled entries are all above the floors
stays : (all es : List (NameParts × Known)) → T (is_sorted name_cmp es)
    → ((m : NameParts) (k : Known) → find name_cmp m es ≡ Some k → list_any (is_over m) all ≡ false) → high all es ≡ es
stays all [] s h = refl
stays all (e ∷ es) s h =
    ap (λ b. cond (not b) (e ∷ high all es) (high all es))
    (h e.0 e.1 (ap (λ b. cond b (Some e.1) (find name_cmp e.0 es)) (same_name-refl e.0)))
    ∙ ap (λ l. e ∷ l) (stays all es (second _ _ s) (λ m k found. h m k (by m k (same_name m e.0) refl found)))
  where
    by : (m : NameParts) (k : Known) (b : Bool) → same_name m e.0 ≡ b → find name_cmp m es ≡ Some k → find name_cmp m (e ∷ es) ≡ Some k
    by m k true same found =
        let none : None ≡ Some k = sym (find_below e.0 es (first _ _ s)) ∙ ap (λ n. find name_cmp n es)
        (sym (same_name-true m e.0 same)) ∙ found in
        absurd cc
    by m k false same found = ap (λ b. cond b (Some e.1) (find name_cmp m es)) same ∙ found

pub settled_stays : (es : List (NameParts × Known)) → T (is_sorted name_cmp es) → AreSettled es → above_floors es ≡ es
settled_stays es s settled = stays es es s (λ m k found. by m k found (list_any (is_over m) es) refl)
  where
    by : (m : NameParts) (k : Known) → find name_cmp m es ≡ Some k → (b : Bool) → list_any (is_over m) es ≡ b
        → list_any (is_over m) es ≡ false
    by m k found true low = let none : None ≡ Some k = sym (settled m low) ∙ found in absurd cc
    by m k found false low = low

-- ---- the entries at the end of some below a floor

-- what is before the last that is not below the floor is not, either
pub tail_stays : (es : List Entry) (n : NameParts) (i : ℕ) (d : Entry) → IsRising es → suc i ≡ length es
    → AreBelow n (known_entries es) → is_above (get_or es i d).name n ≡ false → filter (λ e. not (is_over e.name (n, Floor))) es ≡ es
tail_stays [] n i d rises is below high = refl
tail_stays (e ∷ []) n zero d rises is below high = ap (λ b. cond (not b) (e ∷ []) []) high
tail_stays (e ∷ []) n (suc i) d rises is below high = absurd (omega arith)
tail_stays (e ∷ f ∷ es) n zero d rises is below high = absurd (omega arith)
tail_stays (e ∷ f ∷ es) n (suc i) d rises is below high =
    let rest = tail_stays (f ∷ es) n i d (second _ _ rises) (omega arith) below.1 high in
    ap (λ b. cond (not b) (e ∷ filter (λ x. not (is_over x.name (n, Floor))) (f ∷ es))
    (filter (λ x. not (is_over x.name (n, Floor))) (f ∷ es))) (by (is_above e.name n) refl)
    ∙ ap (λ l. e ∷ l) rest
  where
    last : Entry
    last = get_or (f ∷ es) i d

    last_behind : name_cmp e.name last.name ≡ Less
    last_behind = below_at e.name (f ∷ es) i d (first _ _ rises) (omega arith)

    last_before : name_cmp last.name n ≡ Less
    last_before = at_below (f ∷ es) i d below.1 (omega arith)
      where
        at_below : (xs : List Entry) (i : ℕ) (d : Entry) → AreBelow n (known_entries xs) → i < length xs
            → name_cmp (get_or xs i d).name n ≡ Less
        at_below [] i d h lt = absurd (omega arith)
        at_below (x ∷ xs) zero d h lt = h.0
        at_below (x ∷ xs) (suc i) d h lt = at_below xs i d h.1 (omega arith)

    not_before : name_cmp last.name e.name ≡ Less → ⊥
    not_before h = not_both (sym h ∙ turned e.name last.name Less last_behind)

    by : (b : Bool) → is_above e.name n ≡ b → is_above e.name n ≡ false
    by true over = absurd (both_cases _ (between e.name last.name n not_before last_before over) high)
    by false over = over

-- the last goes where it is below the floor
pub tail_goes : (es : List Entry) (e : Entry) (n : NameParts) → is_above e.name n ≡ true
    → filter (λ x. not (is_over x.name (n, Floor))) (es ++ e ∷ []) ≡ filter (λ x. not (is_over x.name (n, Floor))) es
tail_goes es e n over =
    filter-append (λ x. not (is_over x.name (n, Floor))) es (e ∷ [])
    ∙ ap (λ b. filter (λ x. not (is_over x.name (n, Floor))) es ++ cond (not b) (e ∷ []) []) over
    ∙ append-nil (filter (λ x. not (is_over x.name (n, Floor))) es)

-- no entry is below one that is no floor
pub no_floor_stays : (es : List Entry) (e : Entry) → (known_of e.held ≡ Floor → ⊥)
    → filter (λ x. not (is_over x.name (known_entry e))) es ≡ es
no_floor_stays [] e other = refl
no_floor_stays (x ∷ xs) e other = ap (λ b. cond (not b) (x ∷ filter (λ x. not (is_over x.name (known_entry e))) xs)
    (filter (λ x. not (is_over x.name (known_entry e))) xs)) (by (is_over x.name (known_entry e)) refl)
    ∙ ap (λ l. x ∷ l) (no_floor_stays xs e other)
  where
    by : (b : Bool) → is_over x.name (known_entry e) ≡ b → is_over x.name (known_entry e) ≡ false
    by true over = absurd (other (over_floor x.name (known_entry e) over).0)
    by false over = over

-- ---- one more entry of a join

pub record MergesOn (all : List Entry) (rest : List (NameParts × Known)) (whole : List (NameParts × Known)) : Type 0 where
  pub joined : above_floors (known_entries all ++ rest) ≡ above_floors whole
  pub rises : T (is_sorted name_cmp (known_entries all ++ rest))
  pub settled : AreSettled (known_entries all)

pub known_pushed : (all new : List Entry) (e : Entry) → new ≡ filter (λ x. not (is_over x.name (known_entry e))) all ++ e
    ∷ [] → known_entries new ≡ beside (known_entry e) (known_entries all) ++ known_entry e ∷ []
known_pushed all new e is =
    ap known_entries is ∙ known_append (filter (λ x. not (is_over x.name (known_entry e))) all) (e ∷ [])
    ∙ ap (λ l. l ++ known_entry e ∷ []) (known_beside (known_entry e) all)

pub merged_step : (all new : List Entry) (e : Entry) (left rest whole : List (NameParts × Known))
    → left ≡ known_entry e ∷ rest → MergesOn all left whole → new ≡ filter (λ x. not (is_over x.name (known_entry e))) all
    ++ e ∷ [] → MergesOn new rest whole
merged_step all new e left rest whole is m made =
    let known = known_pushed all new e made in
    let parts : known_entries new ++ rest ≡ beside (known_entry e) (known_entries all) ++ known_entry e ∷ rest =
    ap (λ l. l ++ rest) known ∙ append_assoc (beside (known_entry e) (known_entries all)) (known_entry e ∷ []) rest in
    let sorted : T (is_sorted name_cmp (known_entries all ++ known_entry e ∷ rest)) =
    subst (λ l. T (is_sorted name_cmp (known_entries all ++ l))) is m.rises in
    record {
      joined = ap above_floors parts ∙ above_beside (known_entry e) (known_entries all) rest
          ∙ ap (λ l. above_floors (known_entries all ++ l)) (sym is) ∙ m.joined;
      rises = subst (λ l. T (is_sorted name_cmp l)) (sym parts) (sorted_beside (known_entry e) (known_entries all)
          (known_entry e ∷ rest) sorted);
      settled = subst AreSettled (sym known) (settled_more (known_entry e) (known_entries all) m.settled
          (before_entry (known_entries all) (known_entry e) rest sorted));
    }

-- what stands before an entry of a join rises, and stands before it
pub merged_before : (all : List Entry) (e : Entry) (left rest whole : List (NameParts × Known))
    → left ≡ known_entry e ∷ rest → MergesOn all left whole → IsRising all × AreBelow e.name (known_entries all)
merged_before all e left rest whole is m = (
  sorted_front (known_entries all) left m.rises,
  before_entry (known_entries all) (known_entry e) rest
      (subst (λ l. T (is_sorted name_cmp (known_entries all ++ l))) is m.rises),
)

-- all entries of a join
pub merged_all : (all : List Entry) (whole : List (NameParts × Known)) (left : List (NameParts × Known)) → left ≡ []
    → MergesOn all left whole → known_entries all ≡ above_floors whole
merged_all all whole left none m =
    let same : known_entries all ++ left ≡ known_entries all = ap (λ l. known_entries all ++ l) none ∙ append-nil (known_entries all) in
    sym (settled_stays (known_entries all) (sorted_front (known_entries all) left m.rises) m.settled)
    ∙ ap above_floors (sym same) ∙ m.joined

pub held_pushed : (d : Declaration) (all new : List Entry) (e : Entry)
    → new ≡ filter (λ x. not (is_over x.name (known_entry e))) all ++ e ∷ [] → AllHeldBy d all → IsHeldBy d e.held → AllHeldBy d new
held_pushed d all new e made held one = subst (AllHeldBy d) (sym made)
    (held_append d (filter (λ x. not (is_over x.name (known_entry e))) all) (e ∷ [])
    (held_filter d (λ x. not (is_over x.name (known_entry e))) all held) (one, tt))

-- nothing of a join yet
pub merged_none : (all : List Entry) (whole : List (NameParts × Known)) → all ≡ [] → T (is_sorted name_cmp whole) → MergesOn all whole whole
merged_none all whole none sorted =
    let known : known_entries all ≡ [] = ap known_entries none in
    record {
      joined = ap (λ l. above_floors (l ++ whole)) known;
      rises = subst (λ l. T (is_sorted name_cmp (l ++ whole))) (sym known) sorted;
      settled = subst AreSettled (sym known) (λ n low. absurd (true≢false (sym low)));
    }

-- the last goes
last_cut : (all : List Entry) (i : ℕ) (d : Entry) → suc i ≡ length all → all ≡ take i all ++ get_or all i d ∷ []
last_cut [] i d e = absurd (omega arith)
last_cut (x ∷ []) zero d e = refl
last_cut (x ∷ []) (suc i) d e = absurd (omega arith)
last_cut (x ∷ y ∷ all) zero d e = absurd (omega arith)
last_cut (x ∷ y ∷ all) (suc i) d e = ap (λ l. x ∷ l) (last_cut (y ∷ all) i d (omega arith))

below_front : (n : NameParts) (xs ys : List Entry) → AreBelow n (known_entries (xs ++ ys)) → AreBelow n (known_entries xs)
below_front n [] ys h = tt
below_front n (x ∷ xs) ys h = (h.0, below_front n xs ys h.1)

pub record TailIsCut (all : List Entry) (n : NameParts) (new : List Entry) : Type 0 where
  pub rising : IsRising new
  pub behind : AreBelow n (known_entries new)
  pub same : filter (λ e. not (is_over e.name (n, Floor))) new ≡ filter (λ e. not (is_over e.name (n, Floor))) all

pub tail_cut : (all new : List Entry) (n : NameParts) (i : ℕ) (d : Entry) → IsRising all → AreBelow n (known_entries all)
    → suc i ≡ length all → new ≡ take i all → is_above (get_or all i d).name n ≡ true → TailIsCut all n new
tail_cut all new n i d rises below is made over =
    let cut = last_cut all i d is in
    record {
      rising = subst IsRising (sym made) (rising_front (take i all) (get_or all i d ∷ []) (subst IsRising cut rises));
      behind = subst (λ es. AreBelow n (known_entries es)) (sym made) (below_front n (take i all) (get_or all i d ∷ [])
          (subst (λ es. AreBelow n (known_entries es)) cut below));
      same = ap (filter (λ e. not (is_over e.name (n, Floor)))) made
          ∙ sym (ap (filter (λ e. not (is_over e.name (n, Floor)))) cut ∙ tail_goes (take i all) (get_or all i d) n over);
    }
