-- An order of the rows of several segments, dealt to the segments again.
use Rattle.std.proofs.Common.{◌≡◌, ◌≢◌, ℕ, zero, suc, ◌+◌, ◌<◌, ◌≤◌, ◌==◌, ◌⊎◌, inl, inr, true, false, cond}
use Rattle.std.proofs.Common.{eqb, List, [], ◌∷◌, ◌++◌, length, map, filter, take, get_or, slice_set, refl}
use Rattle.std.proofs.Common.{sym, ap, ◌∙◌, arith, add-one, append_assoc, append-nil, Vec, Global}
use Rattle.std.specs.Prelude.{All}
use Rattle.std.specs.List.{AllByRecursion}
use Rattle.std.specs.Borrow.{Bor}
use Rattle.std.specs.Ordering.{on}
use Rattle.std.specs.declared.rc.Rc.{Rc}
use Rattle.std.proofs.lemmas.Bool.Decides.{eqb_tells}
use Rattle.std.proofs.lemmas.Cmp.{on_total}
use Rattle.std.proofs.lemmas.List.{get_or_default, length-append, length-map, map-append}
use Rattle.std.proofs.lemmas.List.Elements.{filter-append, recursion_from_All, All-from_recursion}
use Rattle.wvalues.specs.declared.key.SortKey.{SortKey}
use Rattle.wvalues.specs.Meaning.{Meaning}
use Rattle.wvalues.specs.Order.{keys_cmp}
use Rattle.wvalues.specs.OrderLaws.{keys_total}
use Rattle.wsegment.specs.Rows.{Content}
use Rattle.wframe.specs.Places.{places_from, places}
use Rattle.wframe.specs.Sorting.{sorted}
use Rattle.wframe.proofs.SortFacts.{all_sorted, filter_sorted, length_sorted}
use Rattle.wsort.specs.Dealt.{dealt_by, put_in}
use Rattle.wcodes.proofs.NumberFacts.{length-places}
use Rattle.wruns.specs.Runs.{joined, keys_at, row_keys, run_of, RunParts}
use Rattle.wruns.specs.Lists.{ref}
use Rattle.wruns.specs.Refs.{rows_at, ref_cmp, pieces_from, refs, refs_by}
use Rattle.wruns.specs.Orderings.{number_of}
use Rattle.wruns.specs.Grouping.{TellShared, TellSharedFrom}
use Rattle.wruns.specs.Dealing.{dealt_places, lists_seen, ref_at, segment_rows, AreRunsOf, IsRunBy}
use Rattle.wruns.specs.declared.refs.RowRef.{RowRef}
use Rattle.wruns.proofs.RefFacts.{ref_total, run_in_order}
use Rattle.wruns.proofs.OrderingFacts.{all_joined, at_front, joined_places, map-seen, mapped_at, numbers, numbers_in_order, within}

pub run_length : (keys : List SortKey) (rows : List (List Meaning)) → length (run_of keys rows) ≡ length rows
run_length keys rows = length_sorted (on (keys_at keys rows) (keys_cmp keys))
    (on_total (keys_at keys rows) (keys_total keys)) (places (length rows)) ∙ length-places 0 (length rows)

pub places_more : (n : ℕ) → places (n + 1) ≡ places n ++ n ∷ []
places_more n = sym (joined_places 0 n 1) ∙ ap (λ k. places n ++ k ∷ []) (omega arith)

-- the rows of one segment among those of all
abbrev segment_of : RowRef → ℕ
segment_of r = r.segment

own : (i : ℕ) (xs : List ℕ) → filter (λ r. segment_of r == i) (map (ref i) xs) ≡ map (ref i) xs
own i [] = refl
own i (x ∷ xs) = go (eqb_tells i i) (own i xs)
  where
    go : ((eqb i i ≡ true) × (i ≡ i)) ⊎ ((eqb i i ≡ false) × (i ≢ i)) → filter (λ r. segment_of r == i) (map (ref i) xs) ≡ map (ref i) xs
        → cond (eqb i i) (ref i x ∷ filter (λ r. segment_of r == i) (map (ref i) xs))
        (filter (λ r. segment_of r == i) (map (ref i) xs)) ≡ ref i x ∷ map (ref i) xs
    go (inl (h, k)) more = rw h (ap (λ l. ref i x ∷ l) more)
    go (inr (h, k)) more = absurd (k refl)

other : (i j : ℕ) (xs : List ℕ) → (j ≡ i → ⊥) → filter (λ r. segment_of r == i) (map (ref j) xs) ≡ []
other i j [] apart = refl
other i j (x ∷ xs) apart = go (eqb_tells j i) (other i j xs apart)
  where
    go : ((eqb j i ≡ true) × (j ≡ i)) ⊎ ((eqb j i ≡ false) × (j ≢ i)) → filter (λ r. segment_of r == i) (map (ref j) xs) ≡ []
        → cond (eqb j i) (ref j x ∷ filter (λ r. segment_of r == i) (map (ref j) xs))
        (filter (λ r. segment_of r == i) (map (ref j) xs)) ≡ []
    go (inl (h, k)) more = absurd (apart k)
    go (inr (h, k)) more = rw h more

none_later : (i j : ℕ) (segs : List (List (List Meaning))) → i < j → filter (λ r. segment_of r == i) (joined (pieces_from j segs)) ≡ []
none_later i j [] h = refl
none_later i j (rows ∷ more) h =
    let P = λ (r : RowRef). segment_of r == i in
    filter-append P (map (ref j) (places (length rows))) (joined (pieces_from (j + 1) more))
    ∙ ap (λ l. l ++ filter P (joined (pieces_from (j + 1) more))) (other i j (places (length rows)) (λ e. absurd (omega (arith, e, h))))
    ∙ none_later i (j + 1) more (omega (arith, h))

one_piece : (i j k : ℕ) (segs : List (List (List Meaning))) → i ≡ j + k → k < length segs
    → filter (λ r. segment_of r == i) (joined (pieces_from j segs)) ≡ map (ref i) (places (length (rows_at segs k)))
one_piece i j k [] e h = absurd (omega (arith, h))
one_piece i j zero (rows ∷ more) e h =
    let P = λ (r : RowRef). segment_of r == i in
    let same : j ≡ i = omega (arith, e) in
    let first : filter P (map (ref j) (places (length rows))) ≡ map (ref i) (places (length rows)) =
    ap (λ m. filter P (map (ref m) (places (length rows)))) same ∙ own i (places (length rows)) in
    filter-append P (map (ref j) (places (length rows))) (joined (pieces_from (j + 1) more))
    ∙ ap (λ l. l ++ filter P (joined (pieces_from (j + 1) more))) first
    ∙ ap (λ l. map (ref i) (places (length rows)) ++ l) (none_later i (j + 1) more (omega (arith, e)))
    ∙ append-nil (map (ref i) (places (length rows)))
one_piece i j (suc k) (rows ∷ more) e h =
    let P = λ (r : RowRef). segment_of r == i in
    filter-append P (map (ref j) (places (length rows))) (joined (pieces_from (j + 1) more))
    ∙ ap (λ l. l ++ filter P (joined (pieces_from (j + 1) more))) (other i j (places (length rows)) (λ s. absurd (omega (arith, e, s))))
    ∙ one_piece i (j + 1) k more (omega (arith, e)) (omega (arith, h))

places_back : (i : ℕ) (xs : List ℕ) → map (λ (r : RowRef). r.row) (map (ref i) xs) ≡ xs
places_back i [] = refl
places_back i (x ∷ xs) = ap (λ l. x ∷ l) (places_back i xs)

one_dealt : (keys : List SortKey) (s : List (List (List Meaning))) (i : ℕ) (rows : List (List Meaning)) → i < length s → rows_at s i ≡ rows
    → map (λ (r : RowRef). r.row) (filter (λ r. segment_of r == i) (refs_by keys s)) ≡ run_of keys rows
one_dealt keys s i rows h at =
    let P = λ (r : RowRef). segment_of r == i in
    ap (map (λ (r : RowRef). r.row))
    (filter_sorted (ref_cmp keys s) (ref_total keys s) P (refs s)
    ∙ ap (sorted (ref_cmp keys s)) (one_piece i 0 i s (omega arith) h ∙ ap (λ l. map (ref i) (places (length l))) at)
    ∙ sym (run_in_order keys s i rows (run_of keys rows) at refl))
    ∙ places_back i (run_of keys rows)

each_dealt : (keys : List SortKey) (s : List (List (List Meaning))) (i : ℕ) (segs : List (List (List Meaning)))
    → ((k : ℕ) → k < length segs → rows_at s (i + k) ≡ rows_at segs k) → i + length segs ≤ length s
    → map (map (λ (r : RowRef). r.row)) (dealt_by segment_of (refs_by keys s) i (length segs)) ≡ map (run_of keys) segs
each_dealt keys s i [] at h = refl
each_dealt keys s i (rows ∷ more) at h =
    let here : rows_at s i ≡ rows = ap (rows_at s) (omega arith) ∙ at 0 (omega arith) in
    ap (λ l. l ∷ map (map (λ (r : RowRef). r.row)) (dealt_by segment_of (refs_by keys s) (i + 1) (length more)))
    (one_dealt keys s i rows (omega (arith, h)) here)
    ∙ ap (λ l. run_of keys rows ∷ l) (each_dealt keys s (i + 1) more (λ k l. ap (rows_at s) (omega arith)
    ∙ at (suc k) (omega (arith, l))) (omega (arith, h)))

-- what an order has of each segment's rows is the segment's own order
pub dealt_in_order : (keys : List SortKey) (s : List (List (List Meaning))) → dealt_places (refs_by keys s) (length s) ≡ map (run_of keys) s
dealt_in_order keys s = each_dealt keys s 0 s (λ k l. ap (rows_at s) (omega arith)) (omega arith)

within_piece : (j m : ℕ) (xs : List ℕ) → j < m → AllByRecursion (λ r. segment_of r < m) (map (ref j) xs)
within_piece j m [] h = tt
within_piece j m (x ∷ xs) h = (h, within_piece j m xs h)

within_all : (j m : ℕ) (segs : List (List (List Meaning))) → j + length segs ≤ m
    → AllByRecursion (λ r. segment_of r < m) (joined (pieces_from j segs))
within_all j m [] h = tt
within_all j m (rows ∷ more) h =
    all_joined (λ r. segment_of r < m) (map (ref j) (places (length rows))) (joined (pieces_from (j + 1) more))
    (within_piece j m (places (length rows)) (omega (arith, h))) (within_all (j + 1) m more (omega (arith, h)))

-- each row of an order is one of a segment
pub segments_within : (keys : List SortKey) (s : List (List (List Meaning))) → All (λ r. r.segment < length s) (refs_by keys s)
segments_within keys s =
    All-from_recursion (λ r. segment_of r < length s) (refs_by keys s) (all_sorted (ref_cmp keys s) (ref_total keys s)
    (λ r. segment_of r < length s) (refs s) (within_all 0 (length s) s (omega arith)))

-- the rows of numbers
pub refs_count : (s : List (List (List Meaning))) → length (refs s) ≡ length (joined s)
refs_count s = sym (length-map (refs s) (number_of s)) ∙ ap length (numbers [] s) ∙ length-places 0 (length (joined s))

place_at : (a n k : ℕ) → k < n → get_or (places_from a n) k 0 ≡ a + k
place_at a zero k h = absurd (omega (arith, h))
place_at a (suc n) zero h = omega arith
place_at a (suc n) (suc k) h = place_at (a + 1) n k (omega (arith, h)) ∙ (omega arith)

number_is : (s : List (List (List Meaning))) (k : ℕ) → k < length (refs s) → number_of s (ref_at (refs s) k) ≡ k
number_is s k h =
    sym (mapped_at (number_of s) (refs s) k (ref 0 0) 0 h) ∙ ap (λ l. get_or l k 0) (numbers [] s)
    ∙ place_at 0 (length (joined s)) k (omega (arith, h, refs_count s)) ∙ (omega arith)

told_back : (s : List (List (List Meaning))) → AllByRecursion (λ r. ref_at (refs s) (number_of s r) ≡ r) (refs s)
told_back s =
    let xs = refs s in
    recursion_from_All (λ r. ref_at xs (number_of s r) ≡ r) xs
    (λ k d h. let e : get_or xs k d ≡ ref_at xs k = get_or_default xs k d (ref 0 0) h in
    ap (λ r. ref_at xs (number_of s r)) e ∙ ap (ref_at xs) (number_is s k h) ∙ sym e)

map_same : {X : Type 0} (f : X → X) (xs : List X) → AllByRecursion (λ x. f x ≡ x) xs → map f xs ≡ xs
map_same f [] all = refl
map_same f (x ∷ xs) all = ap (λ y. y ∷ map f xs) all.0 ∙ ap (λ l. x ∷ l) (map_same f xs all.1)

-- the rows of the numbers of the whole table in order are the rows of all segments in order
pub rows_of_numbers : (keys : List SortKey) (s : List (List (List Meaning)))
    → map (ref_at (refs s)) (run_of keys (joined s)) ≡ refs_by keys s
rows_of_numbers keys s =
    ap (map (ref_at (refs s))) (sym (numbers_in_order keys s)) ∙ map-seen (number_of s) (ref_at (refs s)) (refs_by keys s)
    ∙ map_same (λ r. ref_at (refs s) (number_of s r)) (refs_by keys s) (all_sorted (ref_cmp keys s) (ref_total keys s)
    (λ r. ref_at (refs s) (number_of s r) ≡ r) (refs s) (told_back s))

-- where the rows of a segment stand among those of all
joined_at : (s : List (List (List Meaning))) (i a : ℕ) → i < length s → a < length (rows_at s i)
    → get_or (joined s) (length (joined (take i s)) + a) [] ≡ get_or (rows_at s i) a []
joined_at [] i a h l = absurd (omega (arith, h))
joined_at (rows ∷ more) zero a h l = ap (λ k. get_or (rows ++ joined more) k []) (omega arith) ∙ within rows (joined more) a [] l
joined_at (rows ∷ more) (suc i) a h l =
    let e : length (joined (take (suc i) (rows ∷ more))) + a ≡ length rows + (length (joined (take i more)) + a) =
    omega (arith, length-append rows (joined (take i more))) in
    ap (λ k. get_or (rows ++ joined more) k []) e ∙ at_front rows (joined more) (length (joined (take i more)) + a) []
    ∙ joined_at more i a (omega (arith, h)) l

pub joined_within : (s : List (List (List Meaning))) (i : ℕ) → i < length s
    → length (joined (take i s)) + length (rows_at s i) ≤ length (joined s)
joined_within [] i h = absurd (omega (arith, h))
joined_within (rows ∷ more) zero h = omega (arith, length-append rows (joined more))
joined_within (rows ∷ more) (suc i) h = omega (
  arith,
  length-append rows (joined more),
  length-append rows
      (joined (take i more)),
  joined_within more i (omega (arith, h)),
)

pub next_start : (s : List (List (List Meaning))) (i : ℕ) → i < length s → length (joined (take (i + 1) s))
    ≡ length (joined (take i s)) + length (rows_at s i)
next_start [] i h = absurd (omega (arith, h))
next_start (rows ∷ more) zero h = ap length (append-nil rows) ∙ (omega arith)
next_start (rows ∷ more) (suc i) h =
    rw add-one
    (let next : length (joined (take (suc i) more)) ≡ length (joined (take i more)) + length (rows_at more i) =
    rw add-one at (next_start more i (omega (arith, h))) in
    omega (arith, length-append rows (joined (take (suc i) more)), length-append rows (joined (take i more)), next))

-- the codes of all rows serve the rows of a segment, from its first one's number on
pub shared_from : (keys : List SortKey) (s : List (List (List Meaning))) (codes : List (Vec ℕ Global)) (i : ℕ)
    (rows : List (List Meaning)) (start : ℕ) → i < length s → rows ≡ rows_at s i → start ≡ length (joined (take i s))
    → TellShared keys (joined s) codes → TellSharedFrom start keys rows codes
shared_from keys s codes i rows start h at is told a b la lb same =
    let long : length rows ≡ length (rows_at s i) = ap length at in
    let all = joined_within s i h in
    let key : (k : ℕ) → k < length rows → keys_at keys (joined s) (start + k) ≡ keys_at keys rows k =
    λ k l. ap (row_keys keys) (ap (λ n. get_or (joined s) (n + k) []) is ∙ joined_at s i k h (omega (arith, l, long))
    ∙ ap (λ r. get_or r k []) (sym at)) in
    sym (key a la) ∙ told (start + a) (start + b) (omega (arith, la, long, all, is)) (omega (arith, lb, long, all, is)) same ∙ key b lb

-- one run more
pub runs_more : (keys : List SortKey) (s : List (List (List Meaning))) (runs : List (Rc RunParts Global))
    (rows : List (List Meaning)) (run : Rc RunParts Global) → AreRunsOf keys s runs → IsRunBy keys rows run.value
    → AreRunsOf keys (s ++ rows ∷ []) (runs ++ run ∷ [])
runs_more keys [] [] rows run all one = (one, tt)
runs_more keys [] (r ∷ rs) rows run all one = absurd all
runs_more keys (x ∷ s) [] rows run all one = absurd all
runs_more keys (x ∷ s) (r ∷ rs) rows run all one = (all.0, runs_more keys s rs rows run all.1 one)

-- one segment's rows more
pub joined_more : (xs : List (Bor Content)) (i : ℕ) (x : Bor Content) → i < length xs → x ≡ get_or xs i x
    → joined (segment_rows (take (i + 1) xs)) ≡ joined (segment_rows (take i xs)) ++ x.now.rows
joined_more [] i x h is = absurd (omega (arith, h))
joined_more (y ∷ xs) zero x h is = append-nil y.now.rows ∙ ap (λ (z : Bor Content). z.now.rows) (sym is)
joined_more (y ∷ xs) (suc i) x h is = rw add-one
    (ap (λ l. y.now.rows ++ l) (rw add-one at (joined_more xs i x (omega (arith, h)) is))
    ∙ sym (append_assoc y.now.rows (joined (segment_rows (take i xs))) x.now.rows))

-- lists in memory
pub put_is : (lists : List (Vec ℕ Global)) (i : ℕ) (old new : Vec ℕ Global) (x : ℕ) → i < length lists
    → old ≡ get_or lists i old → new.items ≡ old.items ++ x ∷ [] → lists_seen (slice_set lists i new) ≡ put_in i x (lists_seen lists)
put_is [] i old new x h e f = absurd (omega (arith, h))
put_is (l ∷ ls) zero old new x h e f = ap (λ xs. xs ∷ lists_seen ls) (f ∙ ap (λ (v : Vec ℕ Global). v.items ++ x ∷ []) e)
put_is (l ∷ ls) (suc i) old new x h e f = ap (λ xss. l.items ∷ xss) (put_is ls i old new x (omega (arith, h)) e f)

pub map_put : {X Y : Type 0} (f : X → Y) (i : ℕ) (x : X) (xss : List (List X))
    → map (map f) (put_in i x xss) ≡ put_in i (f x) (map (map f) xss)
map_put f i x [] = refl
map_put f zero x (xs ∷ xss) = ap (λ l. l ∷ map (map f) xss) (map-append f xs (x ∷ []))
map_put f (suc i) x (xs ∷ xss) = ap (λ l. map f xs ∷ l) (map_put f i x xss)

none_from : (first : ℕ) (lists : List (List ℕ)) → AllByRecursion (λ list. list ≡ []) lists
    → lists ≡ map (map (λ (r : RowRef). r.row)) (dealt_by segment_of [] first (length lists))
none_from first [] all = refl
none_from first (l ∷ ls) all = ap (λ xs. xs ∷ ls) all.0 ∙ ap (λ xss. [] ∷ xss) (none_from (first + 1) ls all.1)

pub none_dealt : (lists : List (Vec ℕ Global)) → All (λ list. list ≡ []) (lists_seen lists)
    → lists_seen lists ≡ dealt_places [] (length lists)
none_dealt lists all = none_from 0 (lists_seen lists) (recursion_from_All (λ list. list ≡ []) (lists_seen lists) all)
    ∙ ap (dealt_places []) (length-map lists (λ list. list.items))

-- the list of a number
pub list_at : (lists : List (Vec ℕ Global)) (keys : List SortKey) (s : List (List (List Meaning))) (i : ℕ)
    (list : Vec ℕ Global) → lists_seen lists ≡ map (run_of keys) s → i < length s → list ≡ get_or lists i list
    → list.items ≡ run_of keys (rows_at s i)
list_at lists keys s i list all h is =
    let long : length lists ≡ length s = sym (length-map lists (λ (l : Vec ℕ Global). l.items)) ∙ ap length all
    ∙ length-map s (run_of keys) in
    ap (λ (l : Vec ℕ Global). l.items) is ∙ sym (mapped_at (λ (l : Vec ℕ Global). l.items) lists i list []
    (omega (arith, h, long))) ∙ ap (λ l. get_or l i []) all ∙ mapped_at (run_of keys) s i [] [] h
