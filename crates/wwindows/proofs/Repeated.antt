-- Windows of one name.
use Rattle.std.proofs.Common.{◌≡◌, ℕ, zero, suc, ◌<◌, ◌+◌, Bool, true, false, not, ◌||◌, List, [], ◌∷◌, ◌++◌, append_assoc, length}
use Rattle.std.proofs.Common.{map, take, drop, get_or, refl, ap, sym, ◌∙◌, arith, Option, Some, None, if◌then◌else◌}
use Rattle.std.proofs.Math.Dec.{eqb-suc-suc, eqb-zero-suc}
use Rattle.std.proofs.lemmas.List.{map-append, take_more}
use Rattle.std.proofs.lemmas.List.Folds.{list_any-append}
use Rattle.std.proofs.lemmas.Slice.Eq.{bytes_eq-Decides}
use Rattle.std.specs.List.{list_any}
use Rattle.std.specs.Str.{bytes_eq}
use Rattle.wquery.specs.QueryTree.{EntryTree}
use Rattle.wscope.specs.declared.full_window.FullEntry.{FullEntry}
use Rattle.wscope.specs.Windows.{NamedWindow, named_window, named_windows, expand_all, expand_tree}
use Rattle.wscope.specs.Indexes.{further, has_window_name, is_place, place_of, repeats}
use Rattle.wscope.proofs.Grouped.{name_sym}
use Rattle.wscope.proofs.Links.{or_assoc, or_false}
use Rattle.wwindows.specs.Windows.{breaks_entries, has_entry_name}

or_turned : (a b : Bool) → (a || b) ≡ (b || a)
or_turned true true = refl
or_turned true false = refl
or_turned false true = refl
or_turned false false = refl

place_further : (n : ℕ) (o : Option ℕ) → is_place (suc n) (further o) ≡ is_place n o
place_further n None = refl
place_further n (Some k) = eqb-suc-suc k n

-- a window is the first of its name where none before it has the name
pub first_is : (passed : List NamedWindow) (w : NamedWindow) (ws : List NamedWindow)
    → is_place (length passed) (place_of w.name (passed ++ w ∷ ws)) ≡ not (list_any (has_window_name w.name) passed)
first_is [] w ws = ap (λ (b : Bool). is_place 0 (if b then Some 0 else further (place_of w.name ws)))
    ((bytes_eq-Decides w.name w.name).1 refl)
first_is (v ∷ vs) w ws = by (bytes_eq v.name w.name) (first_is vs w ws)
  where
    by : (b : Bool) → is_place (length vs) (place_of w.name (vs ++ w ∷ ws)) ≡ not (list_any (has_window_name w.name) vs)
        → is_place (suc (length vs)) (if b then Some 0 else further (place_of w.name (vs ++ w ∷ ws)))
        ≡ not (b || list_any (has_window_name w.name) vs)
    by true behind = eqb-zero-suc (length vs)
    by false behind = place_further (length vs) (place_of w.name (vs ++ w ∷ ws)) ∙ behind

-- the windows' names, one with another
abbrev among : List (List ℕ) → Bool
among [] = false
among (n ∷ ns) = list_any (bytes_eq n) ns || among ns

abbrev names_of : List NamedWindow → List (List ℕ)
names_of ws = map (λ (w : NamedWindow). w.name) ws

any_or : {X : Type 0} (p q : X → Bool) (xs : List X) → list_any (λ x. p x || q x) xs ≡ (list_any p xs || list_any q xs)
any_or p q [] = refl
any_or p q (x ∷ xs) = ap (λ (b : Bool). (p x || q x) || b) (any_or p q xs) ∙ by (p x) (q x) (list_any p xs) (list_any q xs)
  where
    by : (a b c d : Bool) → ((a || b) || (c || d)) ≡ ((a || c) || (b || d))
    by true b c d = refl
    by false true true d = refl
    by false true false d = refl
    by false false c d = refl

any_same : {X : Type 0} (p q : X → Bool) → ((x : X) → p x ≡ q x) → (xs : List X) → list_any p xs ≡ list_any q xs
any_same p q h [] = refl
any_same p q h (x ∷ xs) = ap (λ (b : Bool). b || list_any p xs) (h x) ∙ ap (λ (b : Bool). q x || b) (any_same p q h xs)

any_named : (n : List ℕ) (ws : List NamedWindow) → list_any (λ (v : NamedWindow). bytes_eq n v.name) ws
    ≡ list_any (bytes_eq n) (names_of ws)
any_named n [] = refl
any_named n (w ∷ ws) = ap (λ (b : Bool). bytes_eq n w.name || b) (any_named n ws)

none_passed : (ws : List NamedWindow) → list_any (λ (v : NamedWindow). list_any (has_window_name v.name) []) ws ≡ false
none_passed [] = refl
none_passed (w ∷ ws) = none_passed ws

mixed : (a b c d : Bool) → (a || ((b || c) || d)) ≡ ((a || b) || (c || d))
mixed true b c d = refl
mixed false b c d = or_assoc b c d

-- a window repeats one that is passed, or two behind them are of one name
repeats_are : (passed ws : List NamedWindow)
    → repeats passed ws ≡ (list_any (λ (v : NamedWindow). list_any (has_window_name v.name) passed) ws || among (names_of ws))
repeats_are passed [] = refl
repeats_are passed (w ∷ ws) =
    let seen : NamedWindow → Bool = λ v. list_any (has_window_name v.name) passed in
    let step : (v : NamedWindow) → list_any (has_window_name v.name) (passed ++ w ∷ []) ≡ (seen v || bytes_eq w.name v.name) =
    λ v. list_any-append (has_window_name v.name) passed (w ∷ []) ∙ ap (λ (b : Bool). seen v || b) (or_false (bytes_eq w.name v.name)) in
    let whole : list_any (λ (v : NamedWindow). list_any (has_window_name v.name) (passed ++ w ∷ [])) ws
    ≡ (list_any seen ws || list_any (bytes_eq w.name) (names_of ws)) =
    any_same (λ (v : NamedWindow). list_any (has_window_name v.name) (passed ++ w ∷ []))
    (λ v. seen v || bytes_eq w.name v.name) step ws ∙ any_or seen (λ v. bytes_eq w.name v.name) ws
    ∙ ap (λ (b : Bool). list_any seen ws || b) (any_named w.name ws) in
    ap (λ (b : Bool). seen w || b) (repeats_are (passed ++ w ∷ []) ws ∙ ap (λ (b : Bool). b || among (names_of ws)) whole)
    ∙ mixed (seen w) (list_any seen ws) (list_any (bytes_eq w.name) (names_of ws)) (among (names_of ws))

repeats_all : (ws : List NamedWindow) → repeats [] ws ≡ among (names_of ws)
repeats_all ws = repeats_are [] ws ∙ ap (λ (b : Bool). b || among (names_of ws)) (none_passed ws)

-- expanding keeps names
names_kept : (earlier : List NamedWindow) (es : List EntryTree) → names_of (expand_all earlier es) ≡ names_of earlier ++ map
    (λ (e : EntryTree). e.name) es
names_kept earlier [] = sym (append_nil (names_of earlier))
  where
    append_nil : (ns : List (List ℕ)) → ns ++ [] ≡ ns
    append_nil [] = refl
    append_nil (n ∷ ns) = ap (λ (l : List (List ℕ)). n ∷ l) (append_nil ns)
names_kept earlier (e ∷ es) =
    let w : NamedWindow = record { name = e.name; window = expand_tree earlier e.window } in
    names_kept (earlier ++ w ∷ []) es ∙ ap (λ (l : List (List ℕ)). l ++ map (λ (x : EntryTree). x.name) es)
    (map-append (λ (v : NamedWindow). v.name) earlier (w ∷ []))
    ∙ append_assoc (names_of earlier) (e.name ∷ []) (map (λ (x : EntryTree). x.name) es)

entry_named : (n : List ℕ) (es : List EntryTree) → list_any (bytes_eq n) (map (λ (e : EntryTree). e.name) es)
    ≡ list_any (has_entry_name n) es
entry_named n [] = refl
entry_named n (e ∷ es) = ap (λ (b : Bool). b || list_any (bytes_eq n) (map (λ (x : EntryTree). x.name) es))
    (name_sym n e.name) ∙ ap (λ (b : Bool). bytes_eq e.name n || b) (entry_named n es)

entries_among : (es : List EntryTree) → among (map (λ (e : EntryTree). e.name) es) ≡ breaks_entries es
entries_among [] = refl
entries_among (e ∷ es) = ap (λ (b : Bool). b || among (map (λ (x : EntryTree). x.name) es)) (entry_named e.name es)
    ∙ ap (λ (b : Bool). list_any (has_entry_name e.name) es || b) (entries_among es)

-- the windows repeat a name where the entries do that they were expanded from
pub repeats_entries : (ws : List NamedWindow) (es : List EntryTree) → ws ≡ expand_all [] es → repeats [] ws ≡ breaks_entries es
repeats_entries ws es e = repeats_all ws ∙ ap (λ (vs : List NamedWindow). among (names_of vs)) e
    ∙ ap among (names_kept [] es) ∙ entries_among es

-- the next window
drop_next : {X : Type 0} (xs : List X) (i : ℕ) (x : X) → i < length xs → x ≡ get_or xs i x → drop i xs ≡ x ∷ drop (i + 1) xs
drop_next [] i x lt is = absurd (omega arith)
drop_next (y ∷ ys) zero x lt is = ap (λ z. z ∷ ys) (sym is)
drop_next (y ∷ ys) (suc i) x lt is =
    let s : suc i + 1 ≡ suc (i + 1) = omega arith in
    drop_next ys i x (omega arith) is ∙ ap (λ k. x ∷ drop k (y ∷ ys)) (sym s)

whole_is : {X : Type 0} (xs : List X) (i : ℕ) (x : X) → i < length xs → x ≡ get_or xs i x → xs ≡ take i xs ++ x ∷ drop (i + 1) xs
whole_is [] i x lt is = absurd (omega arith)
whole_is (y ∷ ys) zero x lt is = ap (λ z. z ∷ ys) (sym is)
whole_is (y ∷ ys) (suc i) x lt is =
    let s : suc i + 1 ≡ suc (i + 1) = omega arith in
    ap (λ l. y ∷ l) (whole_is ys i x (omega arith) is) ∙ ap (λ k. y ∷ take i ys ++ x ∷ drop k (y ∷ ys)) (sym s)

length_taken : {X Y : Type 0} (f : X → Y) (xs : List X) (i : ℕ) → i < length xs → length (map f (take i xs)) ≡ i
length_taken f [] i h = absurd (omega arith)
length_taken f (x ∷ xs) zero h = refl
length_taken f (x ∷ xs) (suc i) h = ap suc (length_taken f xs i (omega arith))

-- whether the window at a place is the first of its name
pub first_here : (es : List FullEntry) (i n : ℕ) (e : FullEntry) → n ≡ i → i < length es → e ≡ get_or es i e
    → is_place n (place_of e.name.now (named_windows es)) ≡ not (list_any (has_window_name e.name.now) (named_windows (take i es)))
first_here es i n e en h is =
    let front : List NamedWindow = named_windows (take i es) in
    let back : List NamedWindow = named_windows (drop (i + 1) es) in
    let whole : named_windows es ≡ front ++ named_window e ∷ back = ap named_windows (whole_is es i e h is)
    ∙ map-append named_window (take i es) (e ∷ drop (i + 1) es) in
    ap (λ (ws : List NamedWindow). is_place n (place_of e.name.now ws)) whole
    ∙ ap (λ (k : ℕ). is_place k (place_of e.name.now (front ++ named_window e ∷ back))) (en ∙ sym (length_taken named_window es i h))
    ∙ first_is front (named_window e) back

-- one more window is passed
pub repeats_step : (es : List FullEntry) (i : ℕ) (e : FullEntry) → i < length es → e ≡ get_or es i e
    → repeats (named_windows (take i es)) (named_windows (drop i es))
    ≡ (list_any (has_window_name e.name.now) (named_windows (take i es)) || repeats (named_windows (take (i + 1) es))
    (named_windows (drop (i + 1) es)))
repeats_step es i e h is =
    let more : take (i + 1) es ≡ take i es ++ e ∷ [] = take_more es i e h ∙ ap (λ (y : FullEntry). take i es ++ y ∷ []) (sym is) in
    ap (λ (l : List FullEntry). repeats (named_windows (take i es)) (named_windows l)) (drop_next es i e h is)
    ∙ ap (λ (l : List NamedWindow). list_any (has_window_name e.name.now) (named_windows (take i es))
    || repeats l (named_windows (drop (i + 1) es)))
    (sym (map-append named_window (take i es) (e ∷ [])) ∙ ap named_windows (sym more))

not_first : (r any : Bool) → r ≡ not any → r ≡ false → any ≡ true
not_first r true e n = refl
not_first r false e n = let no : false ≡ true = sym n ∙ e in cc

first_one : (r any : Bool) → r ≡ not any → r ≡ true → any ≡ false
first_one r true e n = let no : true ≡ false = sym n ∙ e in cc
first_one r false e n = refl

-- where the window at a place is not the first of its name
pub repeated : (es : List FullEntry) (i n : ℕ) (e : FullEntry) (r : Bool) → n ≡ i → i < length es → e ≡ get_or es i e
    → repeats [] (named_windows es) ≡ repeats (named_windows (take i es)) (named_windows (drop i es))
    → r ≡ is_place n (place_of e.name.now (named_windows es)) → r ≡ false → true ≡ repeats [] (named_windows es)
repeated es i n e r en h is so_far er nr =
    sym (so_far ∙ repeats_step es i e h is
    ∙ ap (λ (b : Bool). b || repeats (named_windows (take (i + 1) es)) (named_windows (drop (i + 1) es)))
    (not_first r (list_any (has_window_name e.name.now) (named_windows (take i es))) (er ∙ first_here es i n e en h is) nr))

-- where it is
pub passed_on : (es : List FullEntry) (i n : ℕ) (e : FullEntry) (r : Bool) → n ≡ i → i < length es → e ≡ get_or es i e
    → repeats [] (named_windows es) ≡ repeats (named_windows (take i es)) (named_windows (drop i es))
    → r ≡ is_place n (place_of e.name.now (named_windows es)) → r ≡ true
    → repeats [] (named_windows es) ≡ repeats (named_windows (take (i + 1) es)) (named_windows (drop (i + 1) es))
passed_on es i n e r en h is so_far er nr =
    so_far ∙ repeats_step es i e h is
    ∙ ap (λ (b : Bool). b || repeats (named_windows (take (i + 1) es)) (named_windows (drop (i + 1) es)))
    (first_one r (list_any (has_window_name e.name.now) (named_windows (take i es))) (er ∙ first_here es i n e en h is) nr)
