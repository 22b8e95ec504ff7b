-- What the lists of a disk in memory are as a disk of the model.
use Rattle.std.proofs.Common.{◌≡◌, ◌≢◌, ◌∙◌, ◌+◌, ◌-◌, ◌<◌, ◌≤◌, ◌⊎◌, ◌++◌, ℕ, Bool, true, false, cond, List, [], ◌∷◌, Option, None, Some}
use Rattle.std.proofs.Common.{inl, inr, refl, sym, ap, subst, arith}
use Rattle.std.proofs.Common.{append_assoc, drop, get_or, length, map, nat_lt, option_map, take, not, set, string_bytes}
use Rattle.std.specs.Prelude.{reverse}
use Rattle.std.proofs.lemmas.List.{append-nil, get_or-map, length-map, map-append, map-set, reverse-append, set-get_or, take-append-drop}
use Rattle.std.proofs.lemmas.List.{take-append-le, take_all, take_more}
use Rattle.std.proofs.Math.Numerals.{one-add}
use Rattle.std.proofs.lemmas.Bool.{false≢true}
use Rattle.std.proofs.lemmas.Bool.Decides.{Decides-ltb}
use Rattle.std.proofs.lemmas.List.Concat.{flat_map-append}
use Rattle.std.proofs.lemmas.List.Elements.{filter_map-append}
use Rattle.std.proofs.lemmas.List.Edits.{map_over_more}
use Rattle.std.proofs.lemmas.List.FromFn.{map-range_with_len_more}
use Rattle.std.proofs.lemmas.Slice.Eq.{bytes_eq-Decides}
use Rattle.std.specs.Bool.{Decides}
use Rattle.std.specs.List.{flat_map, position, position_or_len, range_with_len}
use Rattle.std.specs.Borrow.{Bor}
use Rattle.std.specs.Option.{MatchOption}
use Rattle.std.specs.Str.{bytes_eq}
use Rattle.std.specs.Str.Pattern.{FindsTextPrefix, StripsPrefix}
use Rattle.wfolder.specs.Memory.{AreKnown, File, IsKnown, Leading, behind, new_name, new_names, shorter_states, states_at, states_of}
use Rattle.wfolder.specs.Memory.{held_by, leads, leading_of, led, may_lead, relinked, settled}
use Rattle.wfolder.specs.Model.{IsAmong}
use Rattle.wfolder.specs.declared.disk.Entry.{Entry}

same_bytes : (a : List ℕ) → bytes_eq a a ≡ true
same_bytes a = (bytes_eq-Decides a a).1 refl

-- the path that is led
pub leads_led : (path : List ℕ) (file : Option ℕ) (es : List Leading) → leads path (led path file es) ≡ file
leads_led path file [] = rw (same_bytes path) refl
leads_led path file (e ∷ es) = by (bytes_eq e.path path) refl (leads_led path file es)
  where
    by : (b : Bool) → bytes_eq e.path path ≡ b → leads path (led path file es) ≡ file
        → leads path (cond b (relinked file e ∷ es) (e ∷ led path file es)) ≡ file
    by true is more = rw is refl
    by false is more = rw is more

pub may_lead_led : (path : List ℕ) (file : Option ℕ) (es : List Leading) → may_lead path (led path file es) ≡ file ∷ may_lead path es
may_lead_led path file [] = rw (same_bytes path) refl
may_lead_led path file (e ∷ es) = by (bytes_eq e.path path) refl (may_lead_led path file es)
  where
    by : (b : Bool) → bytes_eq e.path path ≡ b → may_lead path (led path file es) ≡ file ∷ may_lead path es
        → may_lead path (cond b (relinked file e ∷ es) (e ∷ led path file es))
        ≡ file ∷ cond b (e.file ∷ reverse e.earlier) (may_lead path es)
    by true is more = rw is (ap (λ fs. file ∷ fs) (reverse-append e.earlier (e.file ∷ [])))
    by false is more = rw is more

-- each other path
differs : (a path other : List ℕ) → bytes_eq a path ≡ true → other ≢ path → bytes_eq a other ≡ false
differs a path other is not_it = by (bytes_eq a other) (bytes_eq-Decides a other)
  where
    by : (r : Bool) → Decides r (a ≡ other) → r ≡ false
    by true d = absurd (not_it (sym (d.0 refl) ∙ (bytes_eq-Decides a path).0 is))
    by false d = refl

pub leads_other : (path other : List ℕ) (file : Option ℕ) (es : List Leading) → other ≢ path
    → leads other (led path file es) ≡ leads other es
leads_other path other file [] not_it = rw (differs path path other (same_bytes path) not_it) refl
leads_other path other file (e ∷ es) not_it = by (bytes_eq e.path path) refl (leads_other path other file es not_it)
  where
    by : (b : Bool) → bytes_eq e.path path ≡ b → leads other (led path file es) ≡ leads other es
        → leads other (cond b (relinked file e ∷ es) (e ∷ led path file es)) ≡ cond (bytes_eq e.path other) e.file (leads other es)
    by true is more = rw (differs e.path path other is not_it) refl
    by false is more = ap (λ f. cond (bytes_eq e.path other) e.file f) more

pub may_lead_other : (path other : List ℕ) (file : Option ℕ) (es : List Leading) → other ≢ path
    → may_lead other (led path file es) ≡ may_lead other es
may_lead_other path other file [] not_it = rw (differs path path other (same_bytes path) not_it) refl
may_lead_other path other file (e ∷ es) not_it = by (bytes_eq e.path path) refl (may_lead_other path other file es not_it)
  where
    by : (b : Bool) → bytes_eq e.path path ≡ b → may_lead other (led path file es) ≡ may_lead other es
        → may_lead other (cond b (relinked file e ∷ es) (e ∷ led path file es))
        ≡ cond (bytes_eq e.path other) (e.file ∷ reverse e.earlier) (may_lead other es)
    by true is more = rw (differs e.path path other is not_it) refl
    by false is more = ap (λ fs. cond (bytes_eq e.path other) (e.file ∷ reverse e.earlier) fs) more

-- where it leads a crash may leave it leading
pub among_leads : (path : List ℕ) (es : List Leading) (number : ℕ) → leads path es ≡ Some number → IsAmong (Some number) (may_lead path es)
among_leads path [] number is = absurd (cc is)
among_leads path (e ∷ es) number is = by (bytes_eq e.path path) is (among_leads path es number)
  where
    by : (b : Bool) → cond b e.file (leads path es) ≡ Some number
        → (leads path es ≡ Some number → IsAmong (Some number) (may_lead path es))
        → IsAmong (Some number) (cond b (e.file ∷ reverse e.earlier) (may_lead path es))
    by true is more = inl (sym is)
    by false is more = more is

-- the numbers are known
pub known_leads : (path : List ℕ) (es : List Leading) (count : ℕ) → AreKnown count es → IsKnown count (leads path es)
known_leads path es count known = by (leads path es) refl
  where
    by : (file : Option ℕ) → leads path es ≡ file → IsKnown count file
    by None is = tt
    by (Some number) is = known path number (among_leads path es number is)

pub known_led : (path : List ℕ) (file : Option ℕ) (es : List Leading) (count : ℕ) → IsKnown count file → AreKnown count es
    → AreKnown count (led path file es)
known_led path file es count is known other number among = by (bytes_eq other path) (bytes_eq-Decides other path)
  where
    new : (f : Option ℕ) → IsKnown count f → Some number ≡ f → number < count
    new None k e = absurd (cc e)
    new (Some m) k e = let same : number ≡ m = cc e in omega arith

    at : IsAmong (Some number) (file ∷ may_lead path es) → number < count
    at (inl e) = new file is e
    at (inr more) = known path number more

    by : (r : Bool) → Decides r (other ≡ path) → number < count
    by true d = at (subst (λ (fs : List (Option ℕ)). IsAmong (Some number) fs)
        (ap (λ p. may_lead p (led path file es)) (d.0 refl) ∙ may_lead_led path file es) among)
    by false d = known other number (subst (λ (fs : List (Option ℕ)). IsAmong (Some number) fs)
        (may_lead_other path other file es (λ e. false≢true (d.1 e))) among)

pub known_more : (count more : ℕ) (es : List Leading) → count ≤ more → AreKnown count es → AreKnown more es
known_more count more es le known path number among = let lt = known path number among in omega arith

-- a path in a list, by its place
abbrev place : List ℕ → List Leading → ℕ
place path es = position_or_len (λ e. bytes_eq e.path path) es

led_there : (path : List ℕ) (file : Option ℕ) (es : List Leading) (d : Leading) → place path es < length es
    → led path file es ≡ set es (place path es) (relinked file (get_or es (place path es) d))
led_there path file [] d lt = absurd (omega arith)
led_there path file (e ∷ es) d lt = by (bytes_eq e.path path) lt (led_there path file es d)
  where
    by : (b : Bool) → cond (not b) (1 + place path es) 0 < length (e ∷ es)
        → (place path es < length es → led path file es ≡ set es (place path es) (relinked file (get_or es (place path es) d)))
        → cond b (relinked file e ∷ es) (e ∷ led path file es)
        ≡ set (e ∷ es) (cond (not b) (1 + place path es) 0) (relinked file (get_or (e ∷ es) (cond (not b) (1 + place path es) 0) d))
    by true lt more = refl
    by false lt more = rw one-add (ap (λ fs. e ∷ fs) (more (omega arith)))

led_behind : (path : List ℕ) (file : Option ℕ) (es : List Leading) → length es ≤ place path es
    → led path file es ≡ es ++ record { path = path; earlier = None ∷ []; file = file } ∷ []
led_behind path file [] le = refl
led_behind path file (e ∷ es) le = by (bytes_eq e.path path) le (led_behind path file es)
  where
    by : (b : Bool) → length (e ∷ es) ≤ cond (not b) (1 + place path es) 0
        → (length es ≤ place path es → led path file es ≡ es ++ record { path = path; earlier = None ∷ []; file = file } ∷ [])
        → cond b (relinked file e ∷ es) (e ∷ led path file es) ≡ e ∷ es ++ record { path = path; earlier = None ∷ []; file = file } ∷ []
    by true le more = absurd (omega arith)
    by false le more = ap (λ fs. e ∷ fs) (more (omega arith))

leads_there : (path : List ℕ) (es : List Leading) (d : Leading) → place path es < length es
    → leads path es ≡ (get_or es (place path es) d).file
leads_there path [] d lt = absurd (omega arith)
leads_there path (e ∷ es) d lt = by (bytes_eq e.path path) lt (leads_there path es d)
  where
    by : (b : Bool) → cond (not b) (1 + place path es) 0 < length (e ∷ es)
        → (place path es < length es → leads path es ≡ (get_or es (place path es) d).file)
        → cond b e.file (leads path es) ≡ (get_or (e ∷ es) (cond (not b) (1 + place path es) 0) d).file
    by true lt more = refl
    by false lt more = rw one-add (more (omega arith))

leads_behind : (path : List ℕ) (es : List Leading) → length es ≤ place path es → leads path es ≡ None
leads_behind path [] le = refl
leads_behind path (e ∷ es) le = by (bytes_eq e.path path) le (leads_behind path es)
  where
    by : (b : Bool) → length (e ∷ es) ≤ cond (not b) (1 + place path es) 0 → (length es ≤ place path es → leads path es ≡ None)
        → cond b e.file (leads path es) ≡ None
    by true le more = absurd (omega arith)
    by false le more = more (omega arith)

-- whether the place is that of an entry
abbrev test : List ℕ → Entry → Bool
test path e = bytes_eq (string_bytes e.path) path

place-map : (path : List ℕ) (es : List Entry) → place path (map leading_of es) ≡ position_or_len (test path) es
place-map path [] = refl
place-map path (e ∷ es) = ap (λ (n : ℕ). cond (not (test path e)) (1 + n) 0) (place-map path es)

le_or : (a b : ℕ) → (a < b → ⊥) → b ≤ a
le_or a b h = grind (arith, h)

found : (path : List ℕ) (es : List Entry) (r : Option ℕ) → r ≡ position (test path) es
    → MatchOption r (length (map leading_of es) ≤ place path (map leading_of es))
    (λ k. (k ≡ place path (map leading_of es)) × (place path (map leading_of es) < length (map leading_of es)))
found path es r is = rw (place-map path es, length-map es leading_of) (by r is (nat_lt (position_or_len (test path) es) (length es))
    (Decides-ltb (position_or_len (test path) es) (length es)) refl)
  where
    by : (r : Option ℕ) → r ≡ position (test path) es → (b : Bool) → Decides b (position_or_len (test path) es < length es)
        → nat_lt (position_or_len (test path) es) (length es) ≡ b
        → MatchOption r (length es ≤ position_or_len (test path) es)
        (λ k. (k ≡ position_or_len (test path) es) × (position_or_len (test path) es < length es))
    by None is true d e = let t = rw e at is in absurd (cc t)
    by None is false d e = le_or (position_or_len (test path) es) (length es) (λ lt. false≢true (d.1 lt))
    by (Some k) is true d e = let t = rw e at is in (cc t, d.0 refl)
    by (Some k) is false d e = let t = rw e at is in absurd (cc t)

-- what the place of a path tells, where there is one, and where there is none
pub leads_none : (path : List ℕ) (es : List Entry) (r : Option ℕ) → r ≡ position (test path) es → r ≡ None
    → leads path (map leading_of es) ≡ None
leads_none path es None is e = leads_behind path (map leading_of es) (found path es None is)
leads_none path es (Some k) is e = absurd (cc e)

-- an entry at that place, in the list that clauses see
at_place : (path : List ℕ) (es : List Entry) (r : Option ℕ) (k : ℕ) (e : Entry) → r ≡ position (test path) es → r ≡ Some k
    → e ≡ get_or es k e → (get_or (map leading_of es) k (leading_of e) ≡ leading_of e) × (k ≡ place path (map leading_of es))
    × (place path (map leading_of es) < length (map leading_of es))
at_place path es r k e is some at =
    let f = found path es (Some k) (sym some ∙ is) in
    let lt : k < length es = omega (arith, f, length-map es leading_of) in
    (get_or-map leading_of es k e (leading_of e) lt ∙ ap leading_of (sym at), f.0, f.1)

pub leads_some : (path : List ℕ) (es : List Entry) (r : Option ℕ) (k : ℕ) (e : Entry) → r ≡ position (test path) es → r ≡ Some k
    → e ≡ get_or es k e → leads path (map leading_of es) ≡ e.file
leads_some path es r k e is some at =
    let f = at_place path es r k e is some at in
    leads_there path (map leading_of es) (leading_of e) f.2
    ∙ ap (λ (n : ℕ). (get_or (map leading_of es) n (leading_of e)).file) (sym f.1)
    ∙ ap (λ (x : Leading). x.file) f.0

pub led_none : (path : List ℕ) (file : Option ℕ) (es : List Entry) (r : Option ℕ) (e : Entry) → r ≡ position (test path) es → r ≡ None
    → leading_of e ≡ record { path = path; earlier = None ∷ []; file = file }
    → map leading_of (es ++ e ∷ []) ≡ led path file (map leading_of es)
led_none path file es None e is none new = map-append leading_of es (e ∷ [])
    ∙ ap (λ (x : Leading). map leading_of es ++ x ∷ []) new
    ∙ sym (led_behind path file (map leading_of es) (found path es None is))
led_none path file es (Some k) e is none new = absurd (cc none)

pub led_some : (path : List ℕ) (file : Option ℕ) (es : List Entry) (r : Option ℕ) (k : ℕ) (e f : Entry) → r ≡ position (test path) es
    → r ≡ Some k → e ≡ get_or es k e → leading_of f ≡ relinked file (leading_of e)
    → map leading_of (set es k f) ≡ led path file (map leading_of es)
led_some path file es r k e f is some at new =
    let g = at_place path es r k e is some at in
    map-set leading_of es k f
    ∙ ap (λ (x : Leading). set (map leading_of es) k x) (new ∙ ap (relinked file) (sym g.0))
    ∙ ap (λ (n : ℕ). set (map leading_of es) n (relinked file (get_or (map leading_of es) n (leading_of e)))) g.1
    ∙ sym (led_there path file (map leading_of es) (leading_of e) g.2)

-- one that stays as it was
pub led_same : (path : List ℕ) (es : List Entry) (r : Option ℕ) (k : ℕ) (e f : Entry) → r ≡ position (test path) es → r ≡ Some k
    → e ≡ get_or es k e → leading_of f ≡ leading_of e → map leading_of (set es k f) ≡ map leading_of es
led_same path es r k e f is some at same =
    let g = at_place path es r k e is some at in
    map-set leading_of es k f
    ∙ ap (λ (x : Leading). set (map leading_of es) k x) (same ∙ sym g.0)
    ∙ set-get_or (map leading_of es) k (leading_of e)

-- a path that was led nowhere yet
pub new_leading : (p path : List ℕ) (file : Option ℕ) (earlier : List (Option ℕ)) → p ≡ path → earlier ≡ None ∷ []
    → ◌≡◌ {A = Leading} (record { path = p; earlier = earlier; file = file }) (record { path = path; earlier = None ∷ []; file = file })
new_leading p path file earlier same none =
    let make : List ℕ → List (Option ℕ) → Leading = λ p earlier. record { path = p; earlier = earlier; file = file } in
    ap (λ (q : List ℕ). make q earlier) same ∙ ap (λ (fs : List (Option ℕ)). make path fs) none

-- one more path is settled
pub cleared : (e : Leading) (earlier : List (Option ℕ)) → earlier ≡ []
    → ◌≡◌ {A = Leading} (record { path = e.path; earlier = earlier; file = e.file }) (settled e)
cleared e earlier none =
    let make : List (Option ℕ) → Leading = λ fs. record { path = e.path; earlier = fs; file = e.file } in
    ap make none

pub settled_more : (old es : List Entry) (i : ℕ) (d e : Entry) → i < length old → i < length es
    → map leading_of es ≡ map settled (take i (map leading_of old)) ++ drop i (map leading_of old)
    → leading_of e ≡ settled (leading_of (get_or es i d))
    → map leading_of (set es i e) ≡ map settled (take (i + 1) (map leading_of old)) ++ drop (i + 1) (map leading_of old)
settled_more old es i d e lt less is new =
    map-set leading_of es i e ∙ ap (λ (x : Leading). set (map leading_of es) i x) new
    ∙ map_over_more settled (map leading_of old) (map leading_of es) i (leading_of (get_or es i d))
    (omega (arith, length-map old leading_of)) is (sym (get_or-map leading_of es i d (leading_of (get_or es i d)) less))

-- one more state is told
pub state_more : (left : List (Option (Bor (List ℕ)))) (state : Option (Bor (List ℕ))) (before : List (Option (List ℕ))) (bytes : List ℕ)
    (n : ℕ) → held_by left ≡ before ++ map (λ k. Some (take k bytes)) (range_with_len 0 n)
    → option_map (λ b. b.now) state ≡ Some (take n bytes)
    → held_by (left ++ state ∷ []) ≡ before ++ map (λ k. Some (take k bytes)) (range_with_len 0 (n + 1))
state_more left state before bytes n is new =
    map-append (option_map (λ (b : Bor (List ℕ)). b.now)) left (state ∷ [])
    ∙ ap (λ (xs : List (Option (List ℕ))). xs ++ option_map (λ b. b.now) state ∷ []) is
    ∙ ap (λ (x : Option (List ℕ)). (before ++ map (λ k. Some (take k bytes)) (range_with_len 0 n)) ++ x ∷ []) new
    ∙ append_assoc before (map (λ k. Some (take k bytes)) (range_with_len 0 n)) (Some (take n bytes) ∷ [])
    ∙ ap (λ (xs : List (Option (List ℕ))). before ++ xs) (sym (map-range_with_len_more (λ k. Some (take k bytes)) 0 n n (omega arith)))

-- a beginning that is lent
pub cut_is : (r : Option (Bor (List ℕ))) (text bytes : List ℕ) (n : ℕ) → text ≡ bytes → n < length bytes
    → MatchOption r ((n < 0) ⊎ (length text < n)) (λ x. (0 ≤ n) × (n ≤ length text) × (x.now ≡ take (n - 0) text) × (length x.now + 0 ≡ n))
    → option_map (λ b. b.now) r ≡ Some (take n bytes)
cut_is None text bytes n same lt (inl h) = absurd (omega arith)
cut_is None text bytes n same lt (inr h) = absurd (omega (arith, ap length same))
cut_is (Some x) text bytes n same lt h =
    let e : n - 0 ≡ n = omega arith in
    ap Some (h.2 ∙ ap (λ (k : ℕ). take k text) e ∙ ap (take n) same)

-- what stands in a list so far, and its next element
pub states_more : (fs : List File) (files : List (Option ℕ)) (i : ℕ) (d : Option ℕ) (old new : List (Option (List ℕ))) → i < length files
    → old ≡ flat_map (states_at fs) (take i files) → new ≡ old ++ states_at fs (get_or files i d)
    → new ≡ flat_map (states_at fs) (take (i + 1) files)
states_more fs files i d old new lt is more =
    more ∙ ap (λ (xs : List (Option (List ℕ))). xs ++ states_at fs (get_or files i d)) is
    ∙ ap (λ (xs : List (Option (List ℕ))). flat_map (states_at fs) (take i files) ++ xs)
    (sym (append-nil (states_at fs (get_or files i d))))
    ∙ sym (flat_map-append (states_at fs) (take i files) (get_or files i d ∷ []))
    ∙ ap (flat_map (states_at fs)) (sym (take_more files i d lt))

pub states_all : (fs : List File) (files : List (Option ℕ)) (i : ℕ) (file : Option ℕ) (old new : List (Option (List ℕ)))
    → length files ≤ i → old ≡ flat_map (states_at fs) (take i files) → new ≡ old ++ states_at fs file
    → new ≡ flat_map (states_at fs) (files ++ file ∷ [])
states_all fs files i file old new le is more =
    more ∙ ap (λ (xs : List (Option (List ℕ))). xs ++ states_at fs file) (is ∙ ap (flat_map (states_at fs)) (take_all i files le))
    ∙ ap (λ (xs : List (Option (List ℕ))). flat_map (states_at fs) files ++ xs) (sym (append-nil (states_at fs file)))
    ∙ sym (flat_map-append (states_at fs) files (file ∷ []))

pub names_more : (folder : List ℕ) (es : List Entry) (i : ℕ) (e : Entry) (old new : List (List ℕ)) → i < length es → e ≡ get_or es i e
    → old ≡ new_names folder (map leading_of (take i es)) → new ≡ old ++ new_names folder (leading_of e ∷ [])
    → new ≡ new_names folder (map leading_of (take (i + 1) es))
names_more folder es i e old new lt at is more =
    more ∙ ap (λ (xs : List (List ℕ)). xs ++ new_names folder (leading_of e ∷ [])) is
    ∙ sym (filter_map-append (new_name folder) (map leading_of (take i es)) (leading_of e ∷ []))
    ∙ ap (new_names folder) (sym (map-append leading_of (take i es) (e ∷ []))
    ∙ ap (λ (x : Entry). map leading_of (take i es ++ x ∷ [])) at ∙ ap (map leading_of) (sym (take_more es i e lt)))

-- what stands behind a beginning of a text
pub behind_is : (front text : List ℕ) (r : Option (Bor (List ℕ)))
    → MatchOption r (FindsTextPrefix front text None) (λ x. StripsPrefix (FindsTextPrefix front) text x.now)
    → option_map (λ b. b.now) r ≡ behind front text
behind_is front text r h = by r (bytes_eq front (take (length front) text)) (bytes_eq-Decides front (take (length front) text)) h
  where
    by : (r : Option (Bor (List ℕ))) (b : Bool) → Decides b (front ≡ take (length front) text)
        → MatchOption r (FindsTextPrefix front text None) (λ x. StripsPrefix (FindsTextPrefix front) text x.now)
        → option_map (λ b. b.now) r ≡ cond b (Some (drop (length front) text)) None
    by None true d h = absurd (h (drop (length front) text) (sym (ap (λ (xs : List ℕ). xs ++ drop (length front) text) (d.0 refl)
        ∙ take-append-drop (length front) text)))
    by None false d h = refl
    by (Some x) true d h = ap Some (h.2 ∙ ap (λ (k : ℕ). drop k text) h.1.0)
    by (Some x) false d h = absurd (false≢true (d.1 (sym (ap (take (length front)) h.1.1
        ∙ take-append-le (length front) front (drop h.0 text) (omega arith) ∙ take_all (length front) front (omega arith)))))

-- the whole behind what is there
pub state_last : (left : List (Option (Bor (List ℕ)))) (x : Bor (List ℕ)) (before : List (Option (List ℕ))) (f : File) (b : Bool)
    → f.synced ≡ b → x.now ≡ f.bytes → held_by left ≡ before ++ cond b [] (shorter_states f)
    → held_by (left ++ Some x ∷ []) ≡ before ++ states_of f
state_last left x before f b synced whole is =
    map-append (option_map (λ (b : Bor (List ℕ)). b.now)) left (Some x ∷ [])
    ∙ ap (λ (xs : List (Option (List ℕ))). xs ++ Some x.now ∷ []) is
    ∙ ap (λ (bytes : List ℕ). (before ++ cond b [] (shorter_states f)) ++ Some bytes ∷ []) whole
    ∙ append_assoc before (cond b [] (shorter_states f)) (Some f.bytes ∷ [])
    ∙ ap (λ (c : Bool). before ++ (cond c [] (shorter_states f) ++ Some f.bytes ∷ [])) (sym synced)

-- a list that was settled whole, through a slice of it
pub settled_whole : (len : ℕ) (new old lent : List Entry) → len ≡ length old → lent ≡ old
    → map leading_of new ≡ map settled (map leading_of lent)
    → map leading_of (take len (new ++ drop (length new) old)) ≡ map settled (map leading_of old)
settled_whole len new old lent count same is =
    let all : length new ≡ length old = omega (
      arith,
      length-map new leading_of,
      length-map lent leading_of,
      length-map (map leading_of lent) settled,
      ap length is,
      ap length same,
    ) in
    ap (map leading_of) (ap (λ (k : ℕ). take k (new ++ drop (length new) old)) (count ∙ sym all)
    ∙ take-append-le (length new) new (drop (length new) old) (omega arith) ∙ take_all (length new) new (omega arith))
    ∙ is ∙ ap (λ (es : List Entry). map settled (map leading_of es)) same

pub known_same : (count : ℕ) (old new : List Leading) → new ≡ old → AreKnown count old → AreKnown count new
known_same count old new is known = subst (AreKnown count) (sym is) known
