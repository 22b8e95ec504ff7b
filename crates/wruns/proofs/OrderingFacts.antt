-- An ordering of the table's rows serves the rows that a condition keeps.
use Rattle.std.proofs.Common.{◌≡◌, ℕ, zero, suc, ◌+◌, ◌<◌, ◌≤◌, Bool, true, false, cond, List, [], ◌∷◌, ◌++◌, length, map}
use Rattle.std.proofs.Common.{filter, take, refl, sym, ap, subst, ◌∙◌, arith, Ordering, Less, Equal, Greater, get_or}
use Rattle.std.specs.List.{AllByRecursion}
use Rattle.std.specs.Ordering.{on, nat_cmp, ordering_then, then_cmp}
use Rattle.std.specs.Cmp.{IsTotalOrder, nat_cmp_is}
use Rattle.std.proofs.lemmas.Cmp.{on_total}
use Rattle.std.proofs.lemmas.List.{length-append, map-append, append_assoc}
use Rattle.std.proofs.lemmas.List.Elements.{filter-append}
use Rattle.wvalues.specs.declared.key.SortKey.{SortKey}
use Rattle.wvalues.specs.Meaning.{Meaning, Null}
use Rattle.wframe.specs.Peers.{key_at}
use Rattle.wvalues.specs.Order.{key_cmp, keys_cmp}
use Rattle.wvalues.specs.OrderLaws.{keys_total}
use Rattle.wframe.specs.Places.{places_from, places}
use Rattle.wframe.specs.Sorting.{sorted}
use Rattle.wframe.proofs.SortFacts.{filter_sorted}
use Rattle.wruns.specs.Runs.{joined, keys_at, row_keys, run_of}
use Rattle.wruns.specs.Lists.{ref}
use Rattle.wruns.specs.Refs.{number_cmp, rows_at, ref_keys, pieces_from, refs, refs_by}
use Rattle.wruns.specs.Orderings.{number_of, kept_before, kept_numbers}
use Rattle.wruns.specs.declared.refs.RowRef.{RowRef}
use Rattle.wcodes.proofs.MoreSorting.{sorted_map, sorted_same}
use Rattle.wruns.proofs.OneList.{sorted_then, Rises}
use Rattle.wruns.proofs.RefFacts.{later}

pub at_front : {X : Type 0} (front xs : List X) (k : ℕ) (d : X) → get_or (front ++ xs) (length front + k) d ≡ get_or xs k d
at_front [] xs k d = ap (λ i. get_or xs i d) (omega arith)
at_front (f ∷ front) xs k d =
    let e : length (f ∷ front) + k ≡ suc (length front + k) = omega arith in
    ap (λ i. get_or (f ∷ front ++ xs) i d) e ∙ at_front front xs k d

first_behind : {X : Type 0} (front : List X) (x : X) (xs : List X) (d : X) → get_or (front ++ x ∷ xs) (length front) d ≡ x
first_behind front x xs d = ap (λ i. get_or (front ++ x ∷ xs) i d) (omega arith) ∙ at_front front (x ∷ xs) 0 d

take_front : {X : Type 0} (front xs : List X) → take (length front) (front ++ xs) ≡ front
take_front [] xs = refl
take_front (f ∷ front) xs = ap (λ l. f ∷ l) (take_front front xs)

pub within : {X : Type 0} (xs ys : List X) (k : ℕ) (d : X) → k < length xs → get_or (xs ++ ys) k d ≡ get_or xs k d
within [] ys k d lt = absurd (omega (arith, lt))
within (x ∷ xs) ys zero d lt = refl
within (x ∷ xs) ys (suc k) d lt = within xs ys k d (omega (arith, lt))

one_more : {X : Type 0} (front : List X) (x : X) (xs : List X) → (front ++ x ∷ []) ++ xs ≡ front ++ x ∷ xs
one_more [] x xs = refl
one_more (f ∷ front) x xs = ap (λ l. f ∷ l) (one_more front x xs)

joined-append : {X : Type 0} (a b : List (List X)) → joined (a ++ b) ≡ joined a ++ joined b
joined-append [] b = refl
joined-append (x ∷ a) b = ap (λ l. x ++ l) (joined-append a b) ∙ sym (append_assoc x (joined a) (joined b))

pub all_joined : {X : Type 0} (P : X → Type 0) (xs ys : List X) → AllByRecursion P xs → AllByRecursion P ys → AllByRecursion P (xs ++ ys)
all_joined P [] ys h k = k
all_joined P (x ∷ xs) ys h k = (h.0, all_joined P xs ys h.1 k)

pub map-seen : {X Y Z : Type 0} (f : X → Y) (g : Y → Z) (xs : List X) → map g (map f xs) ≡ map (λ x. g (f x)) xs
map-seen f g [] = refl
map-seen f g (x ∷ xs) = ap (λ l. g (f x) ∷ l) (map-seen f g xs)

moved_places : (l a n : ℕ) → map (λ row. l + row) (places_from a n) ≡ places_from (l + a) n
moved_places l a zero = refl
moved_places l a (suc n) =
    let e : l + (a + 1) ≡ l + a + 1 = omega arith in
    ap (λ p. (l + a) ∷ p) (moved_places l (a + 1) n ∙ ap (λ k. places_from k n) e)

pub joined_places : (a n m : ℕ) → places_from a n ++ places_from (a + n) m ≡ places_from a (n + m)
joined_places a zero m = let e : a + 0 ≡ a = omega arith in let f : m ≡ 0 + m = omega arith in ap (λ k. places_from k m) e
    ∙ ap (places_from a) f
joined_places a (suc n) m =
    let e : a + suc n ≡ a + 1 + n = omega arith in
    let f : suc (n + m) ≡ suc n + m = omega arith in
    ap (λ k. a ∷ places_from (a + 1) n ++ places_from k m) e ∙ ap (λ l. a ∷ l) (joined_places (a + 1) n m) ∙ ap (places_from a) f

-- the numbers of all rows are the places of the table
pub numbers : (front segs : List (List (List Meaning)))
    → map (number_of (front ++ segs)) (joined (pieces_from (length front) segs)) ≡ places_from (length (joined front))
    (length (joined segs))
numbers front [] = refl
numbers front (rows ∷ more) =
    let s = front ++ rows ∷ more in
    let l = length (joined front) in
    let here : map (number_of s) (map (ref (length front)) (places (length rows))) ≡ places_from (l + 0) (length rows) =
    map-seen (ref (length front)) (number_of s) (places (length rows))
    ∙ ap (λ f. map (λ row. length (joined f) + row) (places (length rows))) (take_front front (rows ∷ more))
    ∙ moved_places l 0 (length rows) in
    let next = numbers (front ++ rows ∷ []) more in
    let i : length (front ++ rows ∷ []) ≡ length front + 1 = length-append front (rows ∷ []) in
    let j : length (joined (front ++ rows ∷ [])) ≡ l + 0 + length rows =
    ap length (joined-append front (rows ∷ [])) ∙ length-append (joined front) (rows ++ [])
    ∙ ap (λ k. l + k) (length-append rows []) ∙ omega arith in
    let rest : map (number_of s) (joined (pieces_from (length front + 1) more)) ≡ places_from (l + 0 + length rows) (length (joined more)) =
    ap (λ k. map (number_of s) (joined (pieces_from k more))) (sym i)
    ∙ ap (λ f. map (number_of f) (joined (pieces_from (length (front ++ rows ∷ [])) more)))
    (sym (one_more front rows more)) ∙ next ∙ ap (λ k. places_from k (length (joined more))) j in
    map-append (number_of s) (map (ref (length front)) (places (length rows))) (joined (pieces_from (length front + 1) more))
    ∙ ap (λ p. p ++ map (number_of s) (joined (pieces_from (length front + 1) more))) here
    ∙ ap (λ p. places_from (l + 0) (length rows) ++ p) rest
    ∙ joined_places (l + 0) (length rows) (length (joined more))
    ∙ ap (λ k. places_from k (length rows + length (joined more))) (omega arith)
    ∙ ap (places_from l) (sym (length-append rows (joined more)))

module _ (keys : List SortKey) where
  abbrev pub IsTold : List (List (List Meaning)) → RowRef → Type 0
  IsTold s r = ref_keys keys s r ≡ keys_at keys (joined s) (number_of s r)

  piece_told : (front : List (List (List Meaning))) (rows : List (List Meaning)) (more : List (List (List Meaning)))
      (a n : ℕ) → a + n ≤ length rows → AllByRecursion (IsTold (front ++ rows ∷ more)) (map (ref (length front)) (places_from a n))
  piece_told front rows more a zero h = tt
  piece_told front rows more a (suc n) h =
      let s = front ++ rows ∷ more in
      let one : get_or (rows_at s (length front)) a [] ≡ get_or rows a [] = ap (λ r. get_or r a []) (first_behind front rows more []) in
      let two : get_or (joined s) (number_of s (ref (length front) a)) [] ≡ get_or rows a [] =
      ap (λ f. get_or (joined s) (length (joined f) + a) []) (take_front front (rows ∷ more))
      ∙ ap (λ l. get_or l (length (joined front) + a) []) (joined-append front (rows ∷ more))
      ∙ at_front (joined front) (rows ++ joined more) a [] ∙ within rows (joined more) a [] (omega (arith, h)) in
      (ap (row_keys keys) (one ∙ sym two), piece_told front rows more (a + 1) n (omega (arith, h)))

  pub all_told : (front segs : List (List (List Meaning))) → AllByRecursion (IsTold (front ++ segs)) (joined (pieces_from (length front) segs))
  all_told front [] = tt
  all_told front (rows ∷ more) =
      let i : length (front ++ rows ∷ []) ≡ length front + 1 = length-append front (rows ∷ []) in
      let next = all_told (front ++ rows ∷ []) more in
      let rest : AllByRecursion (IsTold (front ++ rows ∷ more)) (joined (pieces_from (length front + 1) more)) =
      subst (λ k. AllByRecursion (IsTold (front ++ rows ∷ more)) (joined (pieces_from k more))) i
      (subst (λ f. AllByRecursion (IsTold f) (joined (pieces_from (length (front ++ rows ∷ [])) more)))
      (one_more front rows more) next) in
      all_joined (IsTold (front ++ rows ∷ more)) (map (ref (length front)) (places (length rows)))
      (joined (pieces_from (length front + 1) more)) (piece_told front rows more 0 (length rows) (omega arith)) rest

below_piece : (i a j b n : ℕ) → i < j → AllByRecursion (λ r. number_cmp (ref i a) r ≡ Less) (map (ref j) (places_from b n))
below_piece i a j b zero h = tt
below_piece i a j b (suc n) h =
    let less : nat_cmp i j ≡ Less = sym (nat_cmp_is i j Less h) in
    (ap (λ o. ordering_then o (nat_cmp a b)) less, below_piece i a j (b + 1) n h)

below_all : (i a j : ℕ) (segs : List (List (List Meaning))) → i < j
    → AllByRecursion (λ r. number_cmp (ref i a) r ≡ Less) (joined (pieces_from j segs))
below_all i a j [] h = tt
below_all i a j (rows ∷ more) h = all_joined (λ r. number_cmp (ref i a) r ≡ Less) (map (ref j) (places (length rows)))
    (joined (pieces_from (j + 1) more)) (below_piece i a j 0 (length rows) h) (below_all i a (j + 1) more (omega (arith, h)))

rises_piece : (i a n : ℕ) (ys : List RowRef) → Rises number_cmp ys
    → ((b : ℕ) → AllByRecursion (λ r. number_cmp (ref i b) r ≡ Less) ys) → Rises number_cmp (map (ref i) (places_from a n) ++ ys)
rises_piece i a zero ys rise below = rise
rises_piece i a (suc n) ys rise below = (
  all_joined (λ r. number_cmp (ref i a) r ≡ Less) (map (ref i) (places_from (a + 1) n)) ys
      (later i a n (a + 1) (omega arith)) (below a),
  rises_piece i (a + 1) n ys rise below,
)

pub rises_all : (i : ℕ) (segs : List (List (List Meaning))) → Rises number_cmp (joined (pieces_from i segs))
rises_all i [] = tt
rises_all i (rows ∷ more) = rises_piece i 0 (length rows) (joined (pieces_from (i + 1) more)) (rises_all (i + 1) more)
    (λ b. below_all i b (i + 1) more (omega arith))

-- the numbers of the one list are the run of the whole table
pub numbers_in_order : (keys : List SortKey) (s : List (List (List Meaning))) → map (number_of s) (refs_by keys s) ≡ run_of keys (joined s)
numbers_in_order keys s =
    let byrefs = on (ref_keys keys s) (keys_cmp keys) in
    let bynumbers = on (keys_at keys (joined s)) (keys_cmp keys) in
    let alike : sorted byrefs (refs s) ≡ sorted (on (number_of s) bynumbers) (refs s) =
    sorted_same (IsTold keys s) byrefs (on (number_of s) bynumbers)
    (λ x y p q. ap (λ k. keys_cmp keys k (ref_keys keys s y)) p
    ∙ ap (keys_cmp keys (keys_at keys (joined s) (number_of s x))) q) (refs s) (all_told keys [] s) in
    ap (map (number_of s)) (sorted_then byrefs number_cmp (refs s) (rises_all 0 s) ∙ alike)
    ∙ sym (sorted_map bynumbers (number_of s) (refs s)) ∙ ap (sorted bynumbers) (numbers [] s)

module _ (holds : List Meaning → Bool) where
  abbrev is_kept : List (List Meaning) → ℕ → Bool
  is_kept rows i = holds (get_or rows i [])

  kept_more : (front : List (List Meaning)) (x : List Meaning) → filter holds (front ++ x ∷ []) ≡ filter holds front ++ cond
      (holds x) (x ∷ []) []
  kept_more front x = filter-append holds front (x ∷ [])

  -- the kept rows are numbered by place
  kept_places : (front rest : List (List Meaning))
      → map (kept_before holds (front ++ rest))
      (filter (is_kept (front ++ rest)) (places_from (length front) (length rest)))
      ≡ places_from (length (filter holds front)) (length (filter holds rest))
  kept_places front [] = refl
  kept_places front (x ∷ more) =
      let rows = front ++ x ∷ more in
      let i : length (front ++ x ∷ []) ≡ length front + 1 = length-append front (x ∷ []) in
      let next = kept_places (front ++ x ∷ []) more in
      let rest : map (kept_before holds rows) (filter (is_kept rows) (places_from (length front + 1) (length more)))
      ≡ places_from (length (filter holds (front ++ x ∷ []))) (length (filter holds more)) =
      subst (λ r. map (kept_before holds r) (filter (is_kept r) (places_from (length front + 1) (length more)))
      ≡ places_from (length (filter holds (front ++ x ∷ []))) (length (filter holds more))) (one_more front x more)
      (ap (λ k. map (kept_before holds ((front ++ x ∷ []) ++ more)) (filter (is_kept ((front ++ x ∷ []) ++ more))
      (places_from k (length more)))) (sym i) ∙ next) in
      let here : is_kept rows (length front) ≡ holds x = ap holds (first_behind front x more []) in
      let before : kept_before holds rows (length front) ≡ length (filter holds front) =
      ap (λ f. length (filter holds f)) (take_front front (x ∷ more)) in
      go (holds x) refl rows here before (rest ∙ ap (λ k. places_from (length k) (length (filter holds more))) (kept_more front x))
    where
      go : (b : Bool) → holds x ≡ b → (rows : List (List Meaning)) → is_kept rows (length front) ≡ holds x
          → kept_before holds rows (length front) ≡ length (filter holds front)
          → map (kept_before holds rows) (filter (is_kept rows) (places_from (length front + 1) (length more)))
          ≡ places_from (length (filter holds front ++ cond (holds x) (x ∷ []) [])) (length (filter holds more))
          → map (kept_before holds rows) (cond (is_kept rows (length front)) (length front ∷ filter (is_kept rows)
          (places_from (length front + 1) (length more))) (filter (is_kept rows) (places_from (length front + 1) (length more))))
          ≡ places_from (length (filter holds front)) (length (cond (holds x) (x ∷ filter holds more) (filter holds more)))
      go true e rows here before rest =
          let n : length (filter holds front ++ x ∷ []) ≡ length (filter holds front) + 1 = length-append (filter holds front) (x ∷ []) in
          let r = subst (λ b. map (kept_before holds rows)
          (filter (is_kept rows) (places_from (length front + 1) (length more)))
          ≡ places_from (length (filter holds front ++ cond b (x ∷ []) [])) (length (filter holds more))) e rest in
          rw (here, e) (ap (λ k. k ∷ map (kept_before holds rows)
          (filter (is_kept rows) (places_from (length front + 1) (length more)))) before
          ∙ ap (λ l. length (filter holds front) ∷ l) (r ∙ ap (λ k. places_from k (length (filter holds more))) n))
      go false e rows here before rest =
          let n : length (filter holds front ++ []) ≡ length (filter holds front) = length-append (filter holds front) [] ∙ omega arith in
          let r = subst (λ b. map (kept_before holds rows)
          (filter (is_kept rows) (places_from (length front + 1) (length more)))
          ≡ places_from (length (filter holds front ++ cond b (x ∷ []) [])) (length (filter holds more))) e rest in
          rw (here, e) (r ∙ ap (λ k. places_from k (length (filter holds more))) n)

  module _ (keys : List SortKey) where
    abbrev IsSame : List (List Meaning) → ℕ → Type 0
    IsSame rows i = keys_at keys (filter holds rows) (kept_before holds rows i) ≡ keys_at keys rows i

    kept_same : (front rest : List (List Meaning))
        → AllByRecursion (IsSame (front ++ rest)) (filter (is_kept (front ++ rest)) (places_from (length front) (length rest)))
    kept_same front [] = tt
    kept_same front (x ∷ more) =
        let rows = front ++ x ∷ more in
        let i : length (front ++ x ∷ []) ≡ length front + 1 = length-append front (x ∷ []) in
        let next = kept_same (front ++ x ∷ []) more in
        let rest : AllByRecursion (IsSame rows) (filter (is_kept rows) (places_from (length front + 1) (length more))) =
        subst (λ r. AllByRecursion (IsSame r) (filter (is_kept r) (places_from (length front + 1) (length more)))) (one_more front x more)
        (subst (λ k. AllByRecursion (IsSame ((front ++ x ∷ []) ++ more)) (filter (is_kept ((front ++ x ∷ []) ++ more))
        (places_from k (length more)))) i next) in
        let here : is_kept rows (length front) ≡ holds x = ap holds (first_behind front x more []) in
        go (holds x) refl here rest
      where
        one : holds x ≡ true → IsSame (front ++ x ∷ more) (length front)
        one e =
            let rows = front ++ x ∷ more in
            let before : kept_before holds rows (length front) ≡ length (filter holds front) =
            ap (λ f. length (filter holds f)) (take_front front (x ∷ more)) in
            let split : filter holds rows ≡ filter holds front ++ x ∷ filter holds more =
            filter-append holds front (x ∷ more) ∙ ap (λ b. filter holds front ++ cond b (x ∷ filter holds more)
            (filter holds more)) e in
            ap (row_keys keys) (ap (λ k. get_or (filter holds rows) k []) before
            ∙ ap (λ l. get_or l (length (filter holds front)) []) split ∙ first_behind (filter holds front) x
            (filter holds more) [] ∙ sym (first_behind front x more []))

        go : (b : Bool) → holds x ≡ b → is_kept (front ++ x ∷ more) (length front) ≡ holds x
            → AllByRecursion (IsSame (front ++ x ∷ more)) (filter (is_kept (front ++ x ∷ more))
            (places_from (length front + 1) (length more)))
            → AllByRecursion (IsSame (front ++ x ∷ more)) (cond (is_kept (front ++ x ∷ more) (length front))
            (length front ∷ filter (is_kept (front ++ x ∷ more)) (places_from (length front + 1) (length more)))
            (filter (is_kept (front ++ x ∷ more)) (places_from (length front + 1) (length more))))
        go true e here rest = subst (λ b. AllByRecursion (IsSame (front ++ x ∷ more))
            (cond b (length front ∷ filter (is_kept (front ++ x ∷ more)) (places_from (length front + 1) (length more)))
            (filter (is_kept (front ++ x ∷ more)) (places_from (length front + 1) (length more))))) (sym (here ∙ e)) (one e, rest)
        go false e here rest = subst (λ b. AllByRecursion (IsSame (front ++ x ∷ more))
            (cond b (length front ∷ filter (is_kept (front ++ x ∷ more)) (places_from (length front + 1) (length more)))
            (filter (is_kept (front ++ x ∷ more)) (places_from (length front + 1) (length more))))) (sym (here ∙ e)) rest

-- the ordering of the table, of which the kept rows are left, is that of the kept rows
pub kept_in_order : (holds : List Meaning → Bool) (keys : List SortKey) (s : List (List (List Meaning)))
    → kept_numbers holds s (refs_by keys s) ≡ run_of keys (filter holds (joined s))
kept_in_order holds keys s =
    let rows = joined s in
    let kept = filter holds rows in
    let p = is_kept holds rows in
    let R = on (keys_at keys rows) (keys_cmp keys) in
    let total : IsTotalOrder R = on_total (keys_at keys rows) (keys_total keys) in
    let K = on (keys_at keys kept) (keys_cmp keys) in
    let rank = kept_before holds rows in
    let some = filter p (places (length rows)) in
    let alike : sorted (on rank K) some ≡ sorted R some =
    sorted_same (IsSame holds keys rows) (on rank K) R (λ x y a b. ap (λ k. keys_cmp keys k (keys_at keys kept (rank y))) a
    ∙ ap (keys_cmp keys (keys_at keys rows x)) b) some (kept_same holds keys [] rows) in
    ap (λ l. map rank (filter p l)) (numbers_in_order keys s) ∙ ap (map rank) (filter_sorted R total p (places (length rows)) ∙ sym alike)
    ∙ sym (sorted_map K rank some) ∙ ap (sorted K) (kept_places holds [] rows)

both_then : (o p q : Ordering) → ordering_then (ordering_then o p) q ≡ ordering_then o (ordering_then p q)
both_then Less p q = refl
both_then Equal p q = refl
both_then Greater p q = refl

-- the first keys decide, and then the others
split_keys : (front keys : List SortKey) (x y : List Meaning)
    → keys_cmp (front ++ keys) (row_keys (front ++ keys) x) (row_keys (front ++ keys) y)
    ≡ ordering_then (keys_cmp front (row_keys front x) (row_keys front y)) (keys_cmp keys (row_keys keys x) (row_keys keys y))
split_keys [] keys x y = refl
split_keys (k ∷ front) keys x y =
    let o = key_cmp k (get_or x k.col Null) (get_or y k.col Null) in
    ap (ordering_then o) (split_keys front keys x y)
    ∙ sym (both_then o (keys_cmp front (row_keys front x) (row_keys front y)) (keys_cmp keys (row_keys keys x) (row_keys keys y)))

pub mapped_at : {X Y : Type 0} (f : X → Y) (xs : List X) (i : ℕ) (d : X) (e : Y) → i < length xs → get_or (map f xs) i e ≡ f (get_or xs i d)
mapped_at f [] i d e lt = absurd (omega (arith, lt))
mapped_at f (x ∷ xs) zero d e lt = refl
mapped_at f (x ∷ xs) (suc i) d e lt = mapped_at f xs i d e (omega (arith, lt))

pub below : (a n m : ℕ) → a + n ≤ m → AllByRecursion (λ i. i < m) (places_from a n)
below a zero m h = tt
below a (suc n) m h = (omega (arith, h), below (a + 1) n m (omega (arith, h)))

pub window_in_order : (partition keys : List SortKey) (rows : List (List Meaning)) →
    run_of (partition ++ keys) rows ≡ sorted (then_cmp (on (key_at (map (row_keys partition) rows)) (keys_cmp partition))
    (on (key_at (map (row_keys keys) rows)) (keys_cmp keys))) (places (length rows))
window_in_order partition keys rows =
    let R = on (keys_at (partition ++ keys) rows) (keys_cmp (partition ++ keys)) in
    let values = map (row_keys partition) rows in
    let others = map (row_keys keys) rows in
    let S = then_cmp (on (key_at values) (keys_cmp partition)) (on (key_at others) (keys_cmp keys)) in
    sorted_same (λ i. i < length rows) R S (λ x y p q.
    split_keys partition keys (get_or rows x []) (get_or rows y [])
    ∙ ap (λ k. ordering_then (keys_cmp partition k (row_keys partition (get_or rows y [])))
    (keys_cmp keys (row_keys keys (get_or rows x [])) (row_keys keys (get_or rows y []))))
    (sym (mapped_at (row_keys partition) rows x [] [] p))
    ∙ ap (λ k. ordering_then (keys_cmp partition (key_at values x) k) (keys_cmp keys (row_keys keys (get_or rows x []))
    (row_keys keys (get_or rows y [])))) (sym (mapped_at (row_keys partition) rows y [] [] q))
    ∙ ap (λ k. ordering_then (keys_cmp partition (key_at values x) (key_at values y))
    (keys_cmp keys k (row_keys keys (get_or rows y [])))) (sym (mapped_at (row_keys keys) rows x [] [] p))
    ∙ ap (λ k. ordering_then (keys_cmp partition (key_at values x) (key_at values y)) (keys_cmp keys (key_at others x) k))
    (sym (mapped_at (row_keys keys) rows y [] [] q)))
    (places (length rows)) (below 0 (length rows) (length rows) (omega arith))
