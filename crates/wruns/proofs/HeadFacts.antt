-- The groups of runs, sorted by the keys of their first rows, are the rows of all runs in order.
use Rattle.std.proofs.Common.{◌≡◌, ◌==◌, Bool, ℕ, zero, suc, ◌+◌, ◌<◌, ◌≤◌, List, [], ◌∷◌, ◌++◌, length, map, take}
use Rattle.std.proofs.Common.{drop, get_or, refl, sym, ap, subst, ◌∙◌, arith, true, false, is_gt, append-nil}
use Rattle.std.specs.List.{AllByRecursion, flat_map}
use Rattle.std.specs.Prelude.{All}
use Rattle.std.proofs.lemmas.List.Elements.{recursion_from_All}
use Rattle.std.specs.Ordering.{on}
use Rattle.std.proofs.lemmas.Bool.Decides.{nat_tests}
use Rattle.std.proofs.lemmas.Cmp.{on_total, tied_itself}
use Rattle.std.proofs.lemmas.Grind.{flat_map-append}
use Rattle.std.proofs.lemmas.List.{append_assoc, get_or-map, length-map, map-append, take_more, length-take-le}
use Rattle.std.proofs.lemmas.List.Folds.{flat_map-map}
use Rattle.wvalues.specs.declared.key.SortKey.{SortKey}
use Rattle.wvalues.specs.Meaning.{Meaning}
use Rattle.wvalues.specs.Order.{keys_cmp}
use Rattle.wvalues.specs.OrderLaws.{keys_total}
use Rattle.wframe.specs.Places.{places_from, places}
use Rattle.wframe.specs.Sorting.{sorted, first_or}
use Rattle.wcodes.proofs.MoreSorting.{sorted_map, sorted_same}
use Rattle.wcodes.proofs.NumberFacts.{places_below}
use Rattle.wruns.specs.Runs.{joined, keys_at, row_keys, run_of, IsGroup}
use Rattle.wruns.specs.Lists.{ref, run_refs}
use Rattle.wruns.specs.Refs.{number_cmp, rows_at, ref_cmp, ref_keys, refs, refs_by, pieces_from}
use Rattle.wruns.specs.Merging.{rows_seen, has_keys, lists_from}
use Rattle.wruns.specs.Heads.{groups_seen, group_refs, head_at, head_row, heads_of, heads_from, no_head, IsHead}
use Rattle.wruns.specs.declared.heads.Head.{Head}
use Rattle.wruns.specs.declared.segment_run.SegmentRun.{SegmentRun}
use Rattle.wruns.proofs.BlockFacts.{blocks_sorted}
use Rattle.wruns.proofs.OneList.{sorted_pieces, sorted_then}
use Rattle.wruns.proofs.OrderingFacts.{rises_all}
use Rattle.wruns.proofs.RefFacts.{all_by_keys, all_in_order, flat-mapped}

heads_of-append : (segment group : ℕ) (xs ys : List (List ℕ)) → heads_of segment group (xs ++ ys) ≡ heads_of segment group
    xs ++ heads_of segment (group + length xs) ys
heads_of-append segment group [] ys = ap (λ g. heads_of segment g ys) (omega arith)
heads_of-append segment group (x ∷ xs) ys =
    ap (λ l. record { first = ref segment (first_or 0 x); group = group; is_single = length x == 1 } ∷ l)
    (heads_of-append segment (group + 1) xs ys ∙ ap (λ g. heads_of segment (group + 1) xs ++ heads_of segment g ys) (omega arith))

-- one head more
pub heads_more : (segment : ℕ) (groups : List (List ℕ)) (i : ℕ) → i < length groups
    → heads_of segment 0 (take (i + 1) groups) ≡ heads_of segment 0 (take i groups) ++ record {
      first =
          ref segment (first_or 0 (get_or groups i []));
      group = i;
      is_single = length (get_or groups i []) == 1;
    } ∷ []
heads_more segment groups i h =
    let n : 0 + length (take i groups) ≡ i = omega (arith, length-take-le i groups (omega (arith, h))) in
    ap (heads_of segment 0) (take_more groups i [] h) ∙ heads_of-append segment 0 (take i groups) (get_or groups i [] ∷ [])
    ∙ ap (λ g. heads_of segment 0 (take i groups) ++ heads_of segment g (get_or groups i [] ∷ [])) n

pub heads_grown : (segment : ℕ) (groups : List (List ℕ)) (i : ℕ) (old so_far more : List Head) (g : List ℕ) (row group : ℕ)
    (single : Bool) → i < length groups → g ≡ get_or groups i [] → row ≡ first_or 0 g → group ≡ i → single ≡ (length g == 1)
    → so_far ≡ old ++ heads_of segment 0 (take i groups) → more ≡ so_far ++ record {
      first = ref segment row;
      group = group;
      is_single = single;
    } ∷ [] → more ≡ old ++ heads_of segment 0 (take (i + 1) groups)
heads_grown segment groups i old so_far more g row group single h is first number one before pushed =
    let head : ℕ → ℕ → Bool → Head = λ r n s. record { first = ref segment r; group = n; is_single = s } in
    pushed ∙ ap (λ l. l ++ record { first = ref segment row; group = group; is_single = single } ∷ []) before
    ∙ append_assoc old (heads_of segment 0 (take i groups)) (record { first = ref segment row; group = group; is_single = single } ∷ [])
    ∙ ap (λ r. old ++ (heads_of segment 0 (take i groups) ++ head r group single ∷ [])) (first ∙ ap (first_or 0) is)
    ∙ ap (λ n. old ++ (heads_of segment 0 (take i groups) ++ head (first_or 0 (get_or groups i [])) n single ∷ [])) number
    ∙ ap (λ b. old ++ (heads_of segment 0 (take i groups) ++ head (first_or 0 (get_or groups i [])) i b ∷ []))
    (one ∙ ap (λ l. length l == 1) is)
    ∙ ap (λ l. old ++ l) (sym (heads_more segment groups i h))

is_one : (n : ℕ) → (n == 1) ≡ true → n ≡ 1
is_one n h = grind (arith, nat_tests)

-- the only row of a group
pub single_refs : (segment row : ℕ) (group : List ℕ) → length group ≡ 1 → first_or 0 group ≡ row
    → map (ref segment) group ≡ ref segment row ∷ []
single_refs segment row [] one first = absurd (omega (arith, one))
single_refs segment row (x ∷ []) one first = ap (λ r. ref segment r ∷ []) first
single_refs segment row (x ∷ y ∷ ys) one first = absurd (omega (arith, one))

module _ (all : List (List (List ℕ))) where
  from_drop : {X : Type 0} (xs : List X) (i : ℕ) (x : X) (rest : List X) (d : X) → drop i xs ≡ x ∷ rest → (i < length xs)
      × (get_or xs i d ≡ x) × (drop (i + 1) xs ≡ rest)
  from_drop [] zero x rest d e = absurd (cc)
  from_drop [] (suc i) x rest d e = absurd (cc)
  from_drop (y ∷ ys) zero x rest d e = let here : y ≡ x = cc in let more : ys ≡ rest = cc in (omega arith, here, more)
  from_drop (y ∷ ys) (suc i) x rest d e =
      let h = from_drop ys i x rest d e in
      let n : suc i + 1 ≡ suc (i + 1) = omega arith in
      (omega (arith, h.0), h.1, ap (λ k. drop k (y ∷ ys)) n ∙ h.2)

  heads_are : (i g : ℕ) (gs full : List (List ℕ)) → i < length all → get_or all i [] ≡ full → drop g full ≡ gs
      → AllByRecursion (IsHead all) (heads_of i g gs)
  heads_are i g [] full within at rest = tt
  heads_are i g (p ∷ ps) full within at rest =
      let h = from_drop full g p ps [] rest in
      let here : get_or (get_or all i []) g [] ≡ p = ap (λ f. get_or f g []) at ∙ h.1 in (
        record {
          segment = within;
          group = omega (arith, h.0, ap length at);
          single = λ one. ap length here ∙ is_one (length p) one;
          first = ap (first_or 0) here;
        },
        heads_are i (g + 1) ps full within at h.2,
      )

  refs_are : (i g : ℕ) (gs full : List (List ℕ)) → get_or all i [] ≡ full → drop g full ≡ gs
      → flat_map (group_refs all) (heads_of i g gs) ≡ map (ref i) (joined gs)
  refs_are i g [] full at rest = refl
  refs_are i g (p ∷ ps) full at rest =
      let h = from_drop full g p ps [] rest in
      let here : get_or (get_or all i []) g [] ≡ p = ap (λ f. get_or f g []) at ∙ h.1 in
      ap (λ q. map (ref i) q ++ flat_map (group_refs all) (heads_of i (g + 1) ps)) here ∙ ap (λ l. map (ref i) p ++ l)
      (refs_are i (g + 1) ps full at h.2)
      ∙ sym (map-append (ref i) p (joined ps))

  module _ (keys : List SortKey) (segments : List (List (List Meaning))) where
    abbrev key_of : Head → List Meaning
    key_of h = row_keys keys (head_row segments h)

    abbrev Block : Head → Type 0
    Block h = AllByRecursion (λ r. ref_keys keys segments r ≡ key_of h) (group_refs all h) × (0 < length (group_refs all h))

    same_keys : (i : ℕ) (rows : List (List Meaning)) (k : List Meaning) (js : List ℕ) → rows_at segments i ≡ rows
        → AllByRecursion (λ j. keys_at keys rows j ≡ k) js → AllByRecursion (λ r. ref_keys keys segments r ≡ k) (map (ref i) js)
    same_keys i rows k [] at same = tt
    same_keys i rows k (j ∷ js) at same = (ap (λ l. keys_at keys l j) at ∙ same.0, same_keys i rows k js at same.1)

    one_block : (i g : ℕ) (p : List ℕ) (rows : List (List Meaning)) → rows_at segments i ≡ rows
        → get_or (get_or all i []) g [] ≡ p → IsGroup keys rows p
        → Block (record { first = ref i (first_or 0 p); group = g; is_single = length p == 1 })
    one_block i g p rows at here is =
        let a = first_or 0 p in
        let k : keys_at keys rows a ≡ keys_at keys (rows_at segments i) a = ap (λ l. keys_at keys l a) (sym at) in
        let same = same_keys i rows (keys_at keys rows a) p at (recursion_from_All (λ j. keys_at keys rows j
        ≡ keys_at keys rows a) p is.1) in
        subst (λ q. AllByRecursion (λ r. ref_keys keys segments r ≡ keys_at keys (rows_at segments i) a) (map (ref i) q)
        × (0 < length (map (ref i) q))) (sym here)
        (subst (λ x. AllByRecursion (λ r. ref_keys keys segments r ≡ x) (map (ref i) p)) k same, omega (arith, is.0, length-map p (ref i)))

    blocks_are : (i g : ℕ) (gs full : List (List ℕ)) (rows : List (List Meaning)) → rows_at segments i ≡ rows
        → get_or all i [] ≡ full → drop g full ≡ gs → AllByRecursion (IsGroup keys rows) gs → AllByRecursion Block (heads_of i g gs)
    blocks_are i g [] full rows there at rest are = tt
    blocks_are i g (p ∷ ps) full rows there at rest are =
        let h = from_drop full g p ps [] rest in
        (one_block i g p rows there (ap (λ f. get_or f g []) at ∙ h.1) are.0, blocks_are i (g + 1) ps full rows there at h.2 are.1)

  all_joined : {X : Type 0} (P : X → Type 0) (xs ys : List X) → AllByRecursion P xs → AllByRecursion P ys → AllByRecursion P (xs ++ ys)
  all_joined P [] ys h k = k
  all_joined P (x ∷ xs) ys h k = (h.0, all_joined P xs ys h.1 k)

  module _ (keys : List SortKey) (segments : List (List (List Meaning))) where
    all_heads : (i : ℕ) (ss : List SegmentRun)
        → ((k : ℕ) → k < length ss → get_or all (i + k) [] ≡ get_or (groups_seen ss) k []) → i + length ss ≤ length all
        → AllByRecursion (IsHead all) (heads_from i ss)
    all_heads i [] at room = tt
    all_heads i (s ∷ more) at room =
        let here : get_or all i [] ≡ s.run.now.groups = ap (λ k. get_or all k []) (omega arith) ∙ at 0 (omega arith) in
        all_joined (IsHead all) (heads_of i 0 s.run.now.groups) (heads_from (i + 1) more)
        (heads_are i 0 s.run.now.groups s.run.now.groups (omega (arith, room)) here refl)
        (all_heads (i + 1) more (λ k l. ap (λ j. get_or all j []) (omega arith) ∙ at (suc k) (omega (arith, l))) (omega (arith, room)))

    all_refs : (i : ℕ) (ss : List SegmentRun)
        → ((k : ℕ) → k < length ss → get_or all (i + k) [] ≡ get_or (groups_seen ss) k [])
        → flat_map (group_refs all) (heads_from i ss) ≡ joined (lists_from i ss)
    all_refs i [] at = refl
    all_refs i (s ∷ more) at =
        let here : get_or all i [] ≡ s.run.now.groups = ap (λ k. get_or all k []) (omega arith) ∙ at 0 (omega arith) in
        flat_map-append (group_refs all) (heads_of i 0 s.run.now.groups) (heads_from (i + 1) more)
        ∙ ap (λ l. l ++ flat_map (group_refs all) (heads_from (i + 1) more)) (refs_are i 0 s.run.now.groups s.run.now.groups here refl)
        ∙ ap (λ l. map (ref i) (joined s.run.now.groups) ++ l)
        (all_refs (i + 1) more (λ k l. ap (λ j. get_or all j []) (omega arith) ∙ at (suc k) (omega (arith, l))))

    all_blocks : (i : ℕ) (ss : List SegmentRun)
        → ((k : ℕ) → k < length ss → get_or all (i + k) [] ≡ get_or (groups_seen ss) k [])
        → ((k : ℕ) → k < length ss → rows_at segments (i + k) ≡ rows_at (rows_seen ss) k)
        → AllByRecursion (has_keys keys) ss → AllByRecursion (Block keys segments) (heads_from i ss)
    all_blocks i [] at there has = tt
    all_blocks i (s ∷ more) at there has =
        let here : get_or all i [] ≡ s.run.now.groups = ap (λ k. get_or all k []) (omega arith) ∙ at 0 (omega arith) in
        let rows : rows_at segments i ≡ s.segment.now.rows = ap (rows_at segments) (omega arith) ∙ there 0 (omega arith) in
        let groups = recursion_from_All (IsGroup keys s.segment.now.rows) s.run.now.groups
        (subst (λ k. All (IsGroup k s.segment.now.rows) s.run.now.groups) has.0 s.one.groups) in
        all_joined (Block keys segments) (heads_of i 0 s.run.now.groups) (heads_from (i + 1) more)
        (blocks_are keys segments i 0 s.run.now.groups s.run.now.groups s.segment.now.rows rows here refl groups)
        (all_blocks (i + 1) more (λ k l. ap (λ j. get_or all j []) (omega arith) ∙ at (suc k) (omega (arith, l)))
        (λ k l. ap (rows_at segments) (omega arith) ∙ there (suc k) (omega (arith, l))) has.1)

-- all heads stand for groups
pub heads_stand : (ss : List SegmentRun) → AllByRecursion (IsHead (groups_seen ss)) (heads_from 0 ss)
heads_stand ss = all_heads (groups_seen ss) [] [] 0 ss (λ k l. ap (λ j. get_or (groups_seen ss) j []) (omega arith))
    (omega (arith, length-map ss (λ s. s.run.now.groups)))

shifted : {X : Type 0} (x : X) (xs : List X) (d : X) (a n : ℕ) → map (λ i. get_or (x ∷ xs) i d) (places_from (a + 1) n)
    ≡ map (λ i. get_or xs i d) (places_from a n)
shifted x xs d a zero = refl
shifted x xs d a (suc n) =
    let e : a + 1 ≡ suc a = omega arith in
    ap (λ k. get_or (x ∷ xs) k d ∷ map (λ i. get_or (x ∷ xs) i d) (places_from (a + 1 + 1) n)) e
    ∙ ap (λ l. get_or xs a d ∷ l) (shifted x xs d (a + 1) n)

-- all elements by place
all_picked : {X : Type 0} (xs : List X) (d : X) → map (λ i. get_or xs i d) (places (length xs)) ≡ xs
all_picked [] d = refl
all_picked (x ∷ xs) d = ap (λ l. x ∷ l) (shifted x xs d 0 (length xs) ∙ all_picked xs d)

module _ (keys : List SortKey) (ss : List SegmentRun) (has : AllByRecursion (has_keys keys) ss) where
  abbrev R : List (List (List Meaning))
  R = rows_seen ss

  abbrev all : List (List (List ℕ))
  all = groups_seen ss

  abbrev hs : List Head
  hs = heads_from 0 ss

  abbrev by_head : Head → List Meaning
  by_head h = row_keys keys (head_row (rows_seen ss) h)

  -- an order of heads that is told by number
  heads_sorted : map (head_at (heads_from 0 ss)) (run_of keys (map (head_row (rows_seen ss)) (heads_from 0 ss)))
      ≡ sorted (on (λ h. row_keys keys (head_row (rows_seen ss) h)) (keys_cmp keys)) (heads_from 0 ss)
  heads_sorted =
      let n : length (map (head_row R) hs) ≡ length hs = length-map hs (head_row R) in
      let S = on by_head (keys_cmp keys) in
      let at : (i : ℕ) → i < length hs → keys_at keys (map (head_row R) hs) i ≡ by_head (head_at hs i) =
      λ i h. ap (row_keys keys) (get_or-map (head_row R) hs i no_head [] h) in
      ap (map (head_at hs)) (ap (λ k. sorted (on (keys_at keys (map (head_row R) hs)) (keys_cmp keys)) (places k)) n)
      ∙ ap (map (head_at hs)) (sorted_same (λ i. i < length hs) (on (keys_at keys (map (head_row R) hs)) (keys_cmp keys))
      (on (head_at hs) S)
      (λ x y p q. ap (λ k. keys_cmp keys k (keys_at keys (map (head_row R) hs) y)) (at x p)
      ∙ ap (keys_cmp keys (by_head (head_at hs x))) (at y q)) (places (length hs))
      (places_below 0 (length hs) (length hs) (omega arith)))
      ∙ sym (sorted_map S (head_at hs) (places (length hs))) ∙ ap (sorted S) (all_picked hs no_head)

  -- rows one run after another, sorted by their keys, are the one list
  joined_sorted : sorted (on (ref_keys keys (rows_seen ss)) (keys_cmp keys)) (joined (lists_from 0 ss)) ≡ refs_by keys (rows_seen ss)
  joined_sorted =
      let S = on (ref_keys keys R) (keys_cmp keys) in
      let e : joined (lists_from 0 ss) ≡ flat_map (λ p. sorted S p) (pieces_from 0 R) =
      ap (λ ls. flat_map (λ l. l) ls) (all_by_keys keys R 0 ss (λ k l. ap (rows_at R) (omega arith)) has)
      ∙ flat-mapped (λ p. sorted S p) (pieces_from 0 R) in
      ap (sorted S) e ∙ sorted_pieces S (on_total (ref_keys keys R) (keys_total keys)) (pieces_from 0 R)
      ∙ sym (sorted_then S number_cmp (refs R) (rises_all 0 R))

  -- groups in the order of their first rows are all rows in order
  pub groups_in_order : (order : List ℕ) → order ≡ run_of keys (map (head_row (rows_seen ss)) (heads_from 0 ss))
      → flat_map (λ i. group_refs (groups_seen ss) (head_at (heads_from 0 ss) i)) order ≡ refs_by keys (rows_seen ss)
  groups_in_order order is =
      let piece = group_refs all in
      let S = on by_head (keys_cmp keys) in
      let itself : (k : List Meaning) → is_gt (keys_cmp keys k k) ≡ false = λ k. ap is_gt (tied_itself (keys_total keys) k) in
      let at : (k : ℕ) → k < length ss → get_or all (0 + k) [] ≡ get_or (groups_seen ss) k [] =
      λ k l. ap (λ j. get_or all j []) (omega arith) in
      sym (flat_map-map piece (head_at hs) order) ∙ ap (λ o. flat_map piece (map (head_at hs) o)) is ∙ ap (flat_map piece) heads_sorted
      ∙ blocks_sorted by_head (ref_keys keys R) (keys_cmp keys) piece itself hs
      (all_blocks all keys R 0 ss at (λ k l. ap (rows_at R) (omega arith)) has)
      ∙ ap (sorted (on (ref_keys keys R) (keys_cmp keys))) (all_refs all keys R 0 ss at) ∙ joined_sorted

-- the rows of one run are in order
pub one_alone : (keys : List SortKey) (ss : List SegmentRun) (s : SegmentRun) → length ss ≡ 1 → s ≡ get_or ss 0 s
    → AllByRecursion (has_keys keys) ss → run_refs 0 s.run.now ≡ refs_by keys (rows_seen ss)
one_alone keys [] s one is has = absurd (omega (arith, one))
one_alone keys (t ∷ []) s one is has =
    let segments = rows_seen (t ∷ []) in
    let told : lists_from 0 (t ∷ []) ≡ map (λ p. sorted (ref_cmp keys segments) p) (pieces_from 0 segments) =
    all_in_order keys segments 0 (t ∷ []) (λ k l. ap (rows_at segments) (omega arith)) has in
    ap (λ (x : SegmentRun). run_refs 0 x.run.now) is ∙ ap (first_or []) told ∙ ap (sorted (ref_cmp keys segments))
    (sym (append-nil (map (ref 0) (places (length t.segment.now.rows)))))
one_alone keys (t ∷ u ∷ us) s one is has = absurd (omega (arith, one))
