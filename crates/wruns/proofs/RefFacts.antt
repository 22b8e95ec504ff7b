-- References to rows: their order is total and tells all apart, and a run's references are in it.
use Rattle.std.proofs.Common.{◌≡◌, ℕ, zero, suc, ◌+◌, ◌<◌, List, [], ◌∷◌, ◌++◌, length, map, refl}
use Rattle.std.proofs.Common.{sym, ap, subst, ◌∙◌, arith, Ordering, Less, Equal, Greater}
use Rattle.std.specs.Prelude.{All, IsPermutation}
use Rattle.std.specs.List.{AllByRecursion, flat_map}
use Rattle.std.specs.List.Sorted.{IsSortedBy}
use Rattle.std.specs.Iterator.{AlwaysYields, YieldsFirst}
use Rattle.std.specs.Cmp.{IsTotalOrder, nat_cmp_is, ranked}
use Rattle.std.specs.Ordering.{on, nat_cmp, ordering_then}
use Rattle.std.proofs.lemmas.Cmp.{nat_cmp_total, on_total, then_total, tied_itself}
use Rattle.std.proofs.lemmas.List.Elements.{All-from_recursion}
use Rattle.itertools.specs.KMerge.{SourcesGive, joined_lists}
use Rattle.wvalues.specs.declared.key.SortKey.{SortKey}
use Rattle.wvalues.specs.Meaning.{Meaning}
use Rattle.wvalues.specs.Order.{keys_cmp}
use Rattle.wvalues.specs.OrderLaws.{keys_total}
use Rattle.wframe.specs.Places.{places_from, places}
use Rattle.wframe.specs.Sorting.{sorted}
use Rattle.wframe.proofs.SortFacts.{up_sorted}
use Rattle.wruns.specs.Runs.{joined, keys_at, run_of}
use Rattle.wruns.specs.Lists.{ref}
use Rattle.wruns.specs.Refs.{number_cmp, rows_at, ref_keys, ref_cmp, pieces_from, refs_by}
use Rattle.wruns.specs.Merging.{rows_seen, has_keys, comes_first, lists_from}
use Rattle.wruns.specs.declared.refs.RowRef.{RowRef}
use Rattle.wruns.specs.declared.segment_run.SegmentRun.{SegmentRun}
use Rattle.wcodes.proofs.MoreSorting.{sorted_map}
use Rattle.wruns.proofs.OneList.{one_sorted, sorted_by_up, sorted_pieces, sorted_then, Rises}

number_total : IsTotalOrder number_cmp
number_total = then_total (on_total (λ (r : RowRef). r.segment) nat_cmp_total) (on_total (λ (r : RowRef). r.row) nat_cmp_total)

pub ref_total : (keys : List SortKey) (segments : List (List (List Meaning))) → IsTotalOrder (ref_cmp keys segments)
ref_total keys segments = then_total (on_total (ref_keys keys segments) (keys_total keys)) number_total

both_equal : (o p : Ordering) → ordering_then o p ≡ Equal → (o ≡ Equal) × (p ≡ Equal)
both_equal Less p h = absurd (cc)
both_equal Equal p h = (refl, h)
both_equal Greater p h = absurd (cc)

same_number : (x y : ℕ) → nat_cmp x y ≡ Equal → x ≡ y
same_number x y h = ranked x y Equal (sym h)

pub ref_exact : (keys : List SortKey) (segments : List (List (List Meaning))) (a b : RowRef) → ref_cmp keys segments a b ≡ Equal → a ≡ b
ref_exact keys segments a b h =
    let n = (both_equal (on (ref_keys keys segments) (keys_cmp keys) a b) (number_cmp a b) h).1 in
    let both = both_equal (nat_cmp a.segment b.segment) (nat_cmp a.row b.row) n in
    let s : a.segment ≡ b.segment = same_number a.segment b.segment both.0 in
    let r : a.row ≡ b.row = same_number a.row b.row both.1 in
    ap (λ x. ref x a.row) s ∙ ap (ref b.segment) r

-- references of one segment stand by number
pub later : (i a n : ℕ) (b : ℕ) → a < b → AllByRecursion (λ r. number_cmp (ref i a) r ≡ Less) (map (ref i) (places_from b n))
later i a zero b h = tt
later i a (suc n) b h =
    let same : nat_cmp i i ≡ Equal = tied_itself nat_cmp_total i in
    let less : nat_cmp a b ≡ Less = sym (nat_cmp_is a b Less h) in
    (ap (λ o. ordering_then o (nat_cmp a b)) same ∙ less, later i a n (b + 1) (omega arith))

rising : (i a n : ℕ) → Rises number_cmp (map (ref i) (places_from a n))
rising i a zero = tt
rising i a (suc n) = (later i a n (a + 1) (omega arith), rising i (a + 1) n)

-- a run's references are the segment's references in order
pub run_in_order : (keys : List SortKey) (segments : List (List (List Meaning))) (i : ℕ) (rows : List (List Meaning))
    (found : List ℕ) → rows_at segments i ≡ rows → found ≡ run_of keys rows
    → map (ref i) found ≡ sorted (ref_cmp keys segments) (map (ref i) (places (length rows)))
run_in_order keys segments i rows found at is =
    let of : ℕ → List Meaning = λ row. keys_at keys (rows_at segments i) row in
    let same : run_of keys rows ≡ sorted (on of (keys_cmp keys)) (places (length rows)) =
    ap (λ l. sorted (on (keys_at keys l) (keys_cmp keys)) (places (length rows))) (sym at) in
    ap (map (ref i)) (is ∙ same)
    ∙ sym (sorted_map (on (ref_keys keys segments) (keys_cmp keys)) (ref i) (places (length rows)))
    ∙ sym (sorted_then (on (ref_keys keys segments) (keys_cmp keys)) number_cmp (map (ref i) (places (length rows)))
    (rising i 0 (length rows)))

run_by_keys : (keys : List SortKey) (segments : List (List (List Meaning))) (i : ℕ) (rows : List (List Meaning))
    (found : List ℕ) → rows_at segments i ≡ rows → found ≡ run_of keys rows
    → map (ref i) found ≡ sorted (on (ref_keys keys segments) (keys_cmp keys)) (map (ref i) (places (length rows)))
run_by_keys keys segments i rows found at is =
    let of : ℕ → List Meaning = λ row. keys_at keys (rows_at segments i) row in
    let same : run_of keys rows ≡ sorted (on of (keys_cmp keys)) (places (length rows)) =
    ap (λ l. sorted (on (keys_at keys l) (keys_cmp keys)) (places (length rows))) (sym at) in
    ap (map (ref i)) (is ∙ same) ∙ sym (sorted_map (on (ref_keys keys segments) (keys_cmp keys)) (ref i) (places (length rows)))

-- the references of each of some runs stand by their keys
pub all_by_keys : (keys : List SortKey) (segments : List (List (List Meaning))) (i : ℕ) (ss : List SegmentRun)
    → ((k : ℕ) → k < length ss → rows_at segments (i + k) ≡ rows_at (rows_seen ss) k) → AllByRecursion (has_keys keys) ss
    → lists_from i ss ≡ map (λ p. sorted (on (ref_keys keys segments) (keys_cmp keys)) p) (pieces_from i (rows_seen ss))
all_by_keys keys segments i [] at h = refl
all_by_keys keys segments i (s ∷ more) at h =
    let here : rows_at segments i ≡ s.segment.now.rows = ap (rows_at segments) (omega arith) ∙ at 0 (omega arith) in
    let own : joined s.run.now.groups ≡ run_of keys s.segment.now.rows = s.one.list ∙ ap (λ k. run_of k s.segment.now.rows) h.0 in
    let next = all_by_keys keys segments (i + 1) more (λ k l. ap (rows_at segments) (omega arith) ∙ at (suc k) (omega (arith, l))) h.1 in
    let order = on (ref_keys keys segments) (keys_cmp keys) in
    ap (λ l. l ∷ lists_from (i + 1) more) (run_by_keys keys segments i s.segment.now.rows (joined s.run.now.groups) here own)
    ∙ ap (λ l. sorted order (map (ref i) (places (length s.segment.now.rows))) ∷ l) next

-- so are the references of each of some runs
pub all_in_order : (keys : List SortKey) (segments : List (List (List Meaning))) (i : ℕ) (ss : List SegmentRun)
    → ((k : ℕ) → k < length ss → rows_at segments (i + k) ≡ rows_at (rows_seen ss) k) → AllByRecursion (has_keys keys) ss
    → lists_from i ss ≡ map (λ p. sorted (ref_cmp keys segments) p) (pieces_from i (rows_seen ss))
all_in_order keys segments i [] at h = refl
all_in_order keys segments i (s ∷ more) at h =
    let here : rows_at segments i ≡ s.segment.now.rows = ap (rows_at segments) (omega arith) ∙ at 0 (omega arith) in
    let own : joined s.run.now.groups ≡ run_of keys s.segment.now.rows = s.one.list ∙ ap (λ k. run_of k s.segment.now.rows) h.0 in
    let next = all_in_order keys segments (i + 1) more (λ k l. ap (rows_at segments) (omega arith) ∙ at (suc k) (omega (arith, l))) h.1 in
    ap (λ l. l ∷ lists_from (i + 1) more) (run_in_order keys segments i s.segment.now.rows (joined s.run.now.groups) here own)
    ∙ ap (λ l. sorted (ref_cmp keys segments) (map (ref i) (places (length s.segment.now.rows))) ∷ l) next

pub flat-mapped : {X Y : Type 0} (f : X → List Y) (xs : List X) → flat_map (λ l. l) (map f xs) ≡ flat_map f xs
flat-mapped f [] = refl
flat-mapped f (x ∷ xs) = ap (λ l. f x ++ l) (flat-mapped f xs)

each_sorted : (keys : List SortKey) (segments : List (List (List Meaning))) (ps : List (List RowRef))
    → AllByRecursion (IsSortedBy (comes_first keys segments)) (map (λ p. sorted (ref_cmp keys segments) p) ps)
each_sorted keys segments [] = tt
each_sorted keys segments (p ∷ ps) = (
  sorted_by_up (ref_cmp keys segments) (ref_total keys segments) (sorted (ref_cmp keys segments) p)
      (up_sorted (ref_cmp keys segments) (ref_total keys segments) p),
  each_sorted keys segments ps,
)

-- the lists of runs are sorted
pub lists_sorted : (keys : List SortKey) (ss : List SegmentRun) → AllByRecursion (has_keys keys) ss
    → All (IsSortedBy (comes_first keys (rows_seen ss))) (lists_from 0 ss)
lists_sorted keys ss h =
    let R = rows_seen ss in
    let e = all_in_order keys R 0 ss (λ k l. ap (rows_at R) (omega arith)) h in
    subst (All (IsSortedBy (comes_first keys R))) (sym e) (All-from_recursion (IsSortedBy (comes_first keys R))
    (map (λ p. sorted (ref_cmp keys R) p) (pieces_from 0 R)) (each_sorted keys R (pieces_from 0 R)))

-- what is sorted and has the rows of all runs is the one list
pub one_list : (keys : List SortKey) (ss : List SegmentRun) (found : List RowRef) → AllByRecursion (has_keys keys) ss
    → IsPermutation (joined_lists (lists_from 0 ss)) found → IsSortedBy (comes_first keys (rows_seen ss)) found
    → found ≡ refs_by keys (rows_seen ss)
one_list keys ss found h p s =
    let R = rows_seen ss in
    let ps = pieces_from 0 R in
    let e : joined_lists (lists_from 0 ss) ≡ flat_map (λ p. sorted (ref_cmp keys R) p) ps =
    ap (λ ls. flat_map (λ l. l) ls) (all_in_order keys R 0 ss (λ k l. ap (rows_at R) (omega arith)) h)
    ∙ flat-mapped (λ p. sorted (ref_cmp keys R) p) ps in
    one_sorted (ref_cmp keys R) (ref_total keys R) (ref_exact keys R) (joined_lists (lists_from 0 ss)) found p s
    ∙ ap (sorted (ref_cmp keys R)) e ∙ sorted_pieces (ref_cmp keys R) (ref_total keys R) ps

-- what is left of a list comes from it
pub yields_all : {X : Type 0} (l : List X) → AlwaysYields (YieldsFirst (λ left. left)) (λ x. x) l l
yields_all [] = λ x j h. absurd (cc)
yields_all {X} (y ∷ ys) = (
  λ j h. absurd (cc),
  λ x j h. (first x j h, subst (λ l. AlwaysYields (YieldsFirst (λ left. left)) (λ x. x) l ys) (rest x j h) (yields_all ys)),
)
  where
    first : (x : X) (j : List X) → y ∷ ys ≡ x ∷ j → x ≡ y
    first x j h = cc

    rest : (x : X) (j : List X) → y ∷ ys ≡ x ∷ j → ys ≡ j
    rest x j h = cc

pub sources_give : {X : Type 0} (gives : List X → List X → Type 0) → ((u j : List X) → gives u j → j ≡ u)
    → (us : List (List X)) → SourcesGive gives (YieldsFirst (λ left. left)) us us
sources_give gives same [] = tt
sources_give gives same (u ∷ us) = (
  λ j g. subst (λ l. AlwaysYields (YieldsFirst (λ left. left)) (λ x. x) l u)
      (sym (same u j g)) (yields_all u),
  sources_give gives same us,
)
