-- Where a name stands in rising entries, and what putting it there gives.
use Rattle.std.proofs.Common.{◌≡◌, ℕ, zero, suc, ◌<◌, ◌≤◌, false, cond, T, List, [], ◌∷◌, length, get_or, set, None}
use Rattle.std.proofs.Common.{Some, Result, Ok, Err, IfOk, IfErr, refl, sym, ap, ◌∙◌, subst, arith, is_eq, add-one}
use Rattle.std.specs.Ordering.{is_lt, ordering_reverse}
use Rattle.std.specs.List.{insert}
use Rattle.std.specs.List.Sorted.{IsBinarySearchResult}
use Rattle.std.proofs.lemmas.List.Sorted.{searchable_from_sorted}
use Rattle.std.specs.declared.cmp.Ordering.{Ordering}
use Rattle.std.specs.declared.cmp.Ordering.TheVariants.{Less, Equal, Greater}
use Rattle.std.specs.FinMap.Entries.{below_all}
use Rattle.std.specs.FinMap.{find, put}
use Rattle.wvalues.specs.Names.{NameParts, name_cmp, names_total}
use Rattle.wentries.specs.Knowledge.{Known}
use Rattle.wentries.specs.declared.entries.Entry.{Entry}
use Rattle.wentries.specs.declared.held.Held.{Held}
use Rattle.wentries.specs.Holding.{known_of}
use Rattle.wentries.specs.Entries.{known_entry, known_entries, IsRising, IsPlace, IsGap}
use Rattle.wentries.proofs.Floors.{exact_names, both, first, second, less, find_below}

pub is_less : (o : Ordering) → o ≡ Less → T (is_lt o)
is_less o e = subst (λ r. T (is_lt r)) (sym e) tt

pub turned : (a b : NameParts) (o : Ordering) → name_cmp a b ≡ o → name_cmp b a ≡ ordering_reverse o
turned a b o e = names_total.antisymm b a ∙ ap ordering_reverse e

-- ---- names above x

pub below_at : (x : NameParts) (es : List Entry) (i : ℕ) (d : Entry) → T (below_all name_cmp x (known_entries es))
    → i < length es → name_cmp x (get_or es i d).name ≡ Less
below_at x [] i d h lt = absurd (omega arith)
below_at x (e ∷ es) zero d h lt = less _ (first _ _ h)
below_at x (e ∷ es) (suc i) d h lt = below_at x es i d (second _ _ h) (omega arith)

pub below_all_below : (x y : NameParts) (es : List (NameParts × Known)) → name_cmp x y ≡ Less → T (below_all name_cmp y es)
    → T (below_all name_cmp x es)
below_all_below x y [] e h = tt
below_all_below x y (f ∷ es) e h = both _ _ (is_less _ (names_total.trans x y f.0 e (less _ (first _ _ h))))
    (below_all_below x y es e (second _ _ h))

-- ---- what a search answers

adjacent : (es : List Entry) → IsRising es → (k : ℕ) (d : Entry) → suc k < length es
    → is_lt (name_cmp (get_or es (suc k) d).name (get_or es k d).name) ≡ false
adjacent [] h k d lt = absurd (omega arith)
adjacent (e ∷ es) h zero d lt = ap is_lt (turned e.name (get_or es 0 d).name Less (below_at e.name es 0 d (first _ _ h) (omega arith)))
adjacent (e ∷ es) h (suc k) d lt = adjacent es (second _ _ h) k d (omega arith)

place_of : (es : List Entry) (n : NameParts) (i : ℕ) → IsRising es → i < length es
    → ((d : Entry) → name_cmp (get_or es i d).name n ≡ Equal) → IsPlace es n i
place_of [] n i r lt h = absurd (omega arith)
place_of (e ∷ es) n zero r lt h = turned e.name n Equal (h e)
place_of (e ∷ es) n (suc i) r lt h =
    let above : name_cmp e.name n ≡ Less = ap (name_cmp e.name) (sym (exact_names (get_or es i e).name n (h e)))
    ∙ below_at e.name es i e (first _ _ r) (omega arith) in
    (turned e.name n Less above, place_of es n i (second _ _ r) (omega arith) h)

gap_of : (es : List Entry) (n : NameParts) (i : ℕ) → i ≤ length es
    → ((k : ℕ) (d : Entry) → k < i → name_cmp (get_or es k d).name n ≡ Less) → ((k : ℕ) (d : Entry) → i ≤ k → k < length es
    → name_cmp (get_or es k d).name n ≡ Greater) → IsGap es n i
gap_of [] n zero le before after = tt
gap_of [] n (suc i) le before after = absurd (omega arith)
gap_of (e ∷ es) n zero le before after = turned e.name n Greater (after 0 e (omega arith) (omega arith))
gap_of (e ∷ es) n (suc i) le before after = (
  turned e.name n Less (before 0 e (omega arith)),
  gap_of es n i (omega arith) (λ k d lt. before (suc k) d (omega arith))
      (λ k d ge lt. after (suc k) d (omega arith) (omega arith)),
)

pub searched : (es : List Entry) (n : NameParts) (r : Result ℕ ℕ) → IsRising es
    → Rattle.std.specs.List.Sorted.IsSearchInRange r (length es) → IsBinarySearchResult (λ e. name_cmp e.name n) es r
    → IfOk r (IsPlace es n) × IfErr r (IsGap es n)
searched es n (Ok i) rising range h = (place_of es n i rising range h, tt)
searched es n (Err i) rising range h =
    let up = searchable_from_sorted names_total (λ (e : Entry). e.name) es n
    (λ k d low high. rw add-one (adjacent es rising k d (omega arith))) in
    (tt, gap_of es n i range (λ k d lt. (h up).0 k d (omega arith) lt) (λ k d ge lt. (h up).1 k d ge lt))

-- ---- looking a name up

pub place_find : (es : List Entry) (n : NameParts) (i : ℕ) (d : Entry) → IsPlace es n i → find name_cmp n (known_entries es)
    ≡ Some (known_of (get_or es i d).held)
place_find [] n i d h = absurd h
place_find (e ∷ es) n zero d h = ap (λ o. cond (is_eq o) (Some (known_of e.held)) (find name_cmp n (known_entries es))) h
place_find (e ∷ es) n (suc i) d h = ap (λ o. cond (is_eq o) (Some (known_of e.held)) (find name_cmp n (known_entries es)))
    h.0 ∙ place_find es n i d h.1

pub gap_find : (es : List Entry) (n : NameParts) (i : ℕ) → IsRising es → IsGap es n i → find name_cmp n (known_entries es) ≡ None
gap_find [] n i r h = refl
gap_find (e ∷ es) n zero r h = find_below n (known_entries (e ∷ es))
    (both _ _ (is_less _ h) (below_all_below n e.name (known_entries es) h (first _ _ r)))
gap_find (e ∷ es) n (suc i) r h = ap (λ o. cond (is_eq o) (Some (known_of e.held)) (find name_cmp n (known_entries es))) h.0
    ∙ gap_find es n i (second _ _ r) h.1

-- ---- putting

pub put_here : (e : NameParts × Known) (es : List (NameParts × Known)) (n : NameParts) (k : Known) (o : Ordering)
    → name_cmp n e.0 ≡ o → put name_cmp n k (e ∷ es) ≡ Rattle.std.specs.FinMap.Entries.by_order o ((n, k) ∷ e ∷ es)
    ((e.0, k) ∷ es) (e ∷ put name_cmp n k es)
put_here e es n k o h = ap (λ r. Rattle.std.specs.FinMap.Entries.by_order r ((n, k) ∷ e ∷ es) ((e.0, k) ∷ es) (e ∷ put name_cmp n k es)) h

pub gap_put : (es : List Entry) (e : Entry) (i : ℕ) → IsGap es e.name i
    → known_entries (insert es i e) ≡ put name_cmp e.name (known_of e.held) (known_entries es)
gap_put [] e zero h = refl
gap_put [] e (suc i) h = absurd h
gap_put (f ∷ es) e zero h = sym (put_here (known_entry f) (known_entries es) e.name (known_of e.held) Less h)
gap_put (f ∷ es) e (suc i) h = ap (λ l. known_entry f ∷ l) (gap_put es e i h.1)
    ∙ sym (put_here (known_entry f) (known_entries es) e.name (known_of e.held) Greater h.0)

pub place_put : (es : List Entry) (n : NameParts) (held : Held) (i : ℕ) (d : Entry) → IsPlace es n i
    → known_entries (set es i (record (get_or es i d) { held = held })) ≡ put name_cmp n (known_of held) (known_entries es)
place_put [] n held i d h = absurd h
place_put (f ∷ es) n held zero d h = sym (put_here (known_entry f) (known_entries es) n (known_of held) Equal h)
place_put (f ∷ es) n held (suc i) d h = ap (λ l. known_entry f ∷ l) (place_put es n held i d h.1)
    ∙ sym (put_here (known_entry f) (known_entries es) n (known_of held) Greater h.0)

pub place_put_named : (es : List Entry) (n m : NameParts) (held old : Held) (i : ℕ) (d : Entry) → IsPlace es n i
    → record { name = m; held = old } ≡ get_or es i d → known_entries (set es i (record { name = m; held = held }))
    ≡ put name_cmp n (known_of held) (known_entries es)
place_put_named es n m held old i d h e = ap (λ (x : Entry). known_entries (set es i (record x { held = held }))) e
    ∙ place_put es n held i d h
