-- Groups by the groups of a finer set.
use Rattle.std.proofs.Common.{◌≡◌, ℕ, zero, suc, ◌+◌, ◌<◌, ◌≤◌, ◌&&◌, ◌⊎◌, inl, inr, Bool, true, false, not, cond}
use Rattle.std.proofs.Common.{List, [], ◌∷◌, ◌++◌, length, length-append, map, filter, take, drop, get_or, eqb}
use Rattle.std.proofs.Common.{◌≢◌, ◌||◌, ◌==◌, Some, None, refl, sym, ap, subst, ◌∙◌, arith, true≢false}
use Rattle.std.specs.Cmp.{IsEquivalence}
use Rattle.std.specs.List.{list_any, position_or_len, AllByRecursion}
use Rattle.std.proofs.Math.Seq.{get_or-append_seam, take-append_seam}
use Rattle.std.proofs.lemmas.List.{append-nil, get_or_append_left, get_or-map, get_or-take, length-take-le, take-append-le}
use Rattle.std.proofs.lemmas.Bool.Decides.{eqb_tells}
use Rattle.std.specs.Ordering.{is_eq}
use Rattle.std.proofs.lemmas.List.Elements.{filter-append}
use Rattle.wvalues.specs.Meaning.{Meaning}
use Rattle.wframe.specs.Peers.{key_at}
use Rattle.wframe.specs.Places.{places}
use Rattle.wrows.specs.Columns.{Row}
use Rattle.wrows.proofs.RowFacts.{any-map, filter-map, map-map, places_more}
use Rattle.waggregate.proofs.GroupFacts.{mapped_at}
use Rattle.wgroupby.specs.Sets.{is_among}
use Rattle.wgroup.specs.Grouping.{SetColumns, agree, group_cmp, group_key, set_columns, set_value}
use Rattle.wgroup.specs.Sight.{IsCoarser, IsSight, first_of, group_numbers}
use Rattle.wgroup.specs.declared.found.Groups as memory
use Rattle.wgroup.specs.Finer.{is_finer, is_part}
use Rattle.wgroup.proofs.LeaderFacts.{in_order}
use Rattle.wgroup.proofs.ListFacts.{all_kept, any_same, at_places, below_all, filter_same, map_same}
use Rattle.wgroup.proofs.NumberFacts.{are_apart}
use Rattle.wgroup.proofs.SeenFacts.{agree_decides, agree_equiv}
use Rattle.wgroup.proofs.SightFacts.{any_first, any_implied, leads_group, number_within}

-- what passes in front of one that passes
front_step : (p : ℕ → Bool) (n : ℕ) → ((a : ℕ) → a < length (filter p (places n))
    → filter p (places (get_or (filter p (places n)) a 0)) ≡ take a (filter p (places n)))
    → (a : ℕ) → a < length (filter p (places (n + 1))) → filter p (places (get_or (filter p (places (n + 1))) a 0))
    ≡ take a (filter p (places (n + 1)))
front_step p n ih a h = subst (λ l. a < length l → filter p (places (get_or l a 0)) ≡ take a l) (sym cut) (by (p n)) h
  where
    cut : filter p (places (n + 1)) ≡ filter p (places n) ++ cond (p n) (n ∷ []) []
    cut = ap (filter p) (places_more 0 n n (omega arith)) ∙ filter-append p (places n) (n ∷ [])

    last : a < length (filter p (places n) ++ n ∷ []) → (a < length (filter p (places n)))
        ⊎ ((a ≡ length (filter p (places n))) ⊎ (length (filter p (places n)) < a))
        → filter p (places (get_or (filter p (places n) ++ n ∷ []) a 0)) ≡ take a (filter p (places n) ++ n ∷ [])
    last h (inl l) =
        ap (λ k. filter p (places k)) (get_or_append_left (filter p (places n)) (n ∷ []) 0 a l) ∙ ih a l
        ∙ sym (take-append-le a (filter p (places n)) (n ∷ []) (omega (arith, l)))
    last h (inr (inl q)) =
        ap (λ k. filter p (places (get_or (filter p (places n) ++ n ∷ []) k 0))) q ∙ ap (λ k. filter p (places k))
        (get_or-append_seam (filter p (places n)) n [] 0)
        ∙ sym (ap (λ k. take k (filter p (places n) ++ n ∷ [])) q ∙ take-append_seam (filter p (places n)) (n ∷ []))
    last h (inr (inr l)) = absurd (omega (arith, l, h, length-append (filter p (places n)) (n ∷ [])))

    by : (b : Bool) → a < length (filter p (places n) ++ cond b (n ∷ []) [])
        → filter p (places (get_or (filter p (places n) ++ cond b (n ∷ []) []) a 0)) ≡ take a (filter p (places n) ++ cond b (n ∷ []) [])
    by true h = last h (in_order a (length (filter p (places n))))
    by false h = subst (λ l. a < length l → filter p (places (get_or l a 0)) ≡ take a l) (sym (append-nil (filter p (places n)))) (ih a) h

passing_front : (p : ℕ → Bool) (n a : ℕ) → a < length (filter p (places n))
    → filter p (places (get_or (filter p (places n)) a 0)) ≡ take a (filter p (places n))
passing_front p zero a h = absurd (omega (arith, h))
passing_front p (suc n) a h =
    let s : n + 1 ≡ suc n = omega arith in
    subst (λ m. (a : ℕ) → a < length (filter p (places m)) → filter p (places (get_or (filter p (places m)) a 0))
    ≡ take a (filter p (places m))) s (front_step p n (passing_front p n)) a h

-- places in front of one
places_of_front : (xs : List ℕ) (a : ℕ) → a ≤ length xs → map (λ b. get_or xs b 0) (places a) ≡ take a xs
places_of_front xs a h =
    map_same (λ b. get_or xs b 0) (λ b. get_or (take a xs) b 0) (places a)
    (below_all (λ b. get_or xs b 0 ≡ get_or (take a xs) b 0) a (λ b k. sym (get_or-take a xs b 0 k)))
    ∙ ap (λ m. map (λ b. get_or (take a xs) b 0) (places m)) (sym (length-take-le a xs h)) ∙ at_places (take a xs) 0

filter_twice : (p q : ℕ → Bool) → ((x : ℕ) → p x ≡ true → q x ≡ true) → (xs : List ℕ) → filter p (filter q xs) ≡ filter p xs
filter_twice p q h [] = refl
filter_twice p q h (x ∷ xs) = go (p x) (q x) refl refl (filter_twice p q h xs)
  where
    go : (a b : Bool) → p x ≡ a → q x ≡ b → filter p (filter q xs) ≡ filter p xs
        → filter p (cond b (x ∷ filter q xs) (filter q xs)) ≡ cond a (x ∷ filter p xs) (filter p xs)
    go a true e f more = ap (λ c. cond c (x ∷ filter p (filter q xs)) (filter p (filter q xs))) e ∙ ap (λ l. cond a (x ∷ l) l) more
    go true false e f more = absurd (true≢false (sym (h x e) ∙ f))
    go false false e f more = more

position_mapped : (p : ℕ → Bool) (f : ℕ → ℕ) (xs : List ℕ) → position_or_len p (map f xs) ≡ position_or_len (λ a. p (f a)) xs
position_mapped p f [] = refl
position_mapped p f (x ∷ xs) = ap (λ k. cond (not (p (f x))) (1 + k) 0) (position_mapped p f xs)

position_same : (p q : ℕ → Bool) (xs : List ℕ) → AllByRecursion (λ x. p x ≡ q x) xs → position_or_len p xs ≡ position_or_len q xs
position_same p q [] all = refl
position_same p q (x ∷ xs) all = ap (λ b. cond (not b) (1 + position_or_len p xs) 0) all.0
    ∙ ap (λ k. cond (not (q x)) (1 + k) 0) (position_same p q xs all.1)

-- tests that agree below a number have the same groups of so many rows
module _ (s t : ℕ → ℕ → Bool) (n : ℕ) (alike : (i j : ℕ) → i < n → j < n → s i j ≡ t i j) where
  firsts_agree : first_of s n ≡ first_of t n
  firsts_agree =
      filter_same (λ i. not (list_any (s i) (places i))) (λ i. not (list_any (t i) (places i))) (places n)
      (below_all (λ i. not (list_any (s i) (places i)) ≡ not (list_any (t i) (places i))) n
      (λ i h. ap not (any_same (s i) (t i) (places i) (below_all (λ j. s i j ≡ t i j) i (λ j k. alike i j h (omega (arith, h, k)))))))

  numbers_agree : group_numbers s n ≡ group_numbers t n
  numbers_agree =
      map_same (λ i. position_or_len (s i) (first_of s n)) (λ i. position_or_len (t i) (first_of t n)) (places n)
      (below_all (λ i. position_or_len (s i) (first_of s n) ≡ position_or_len (t i) (first_of t n)) n
      (λ i h. position_same (s i) (t i) (first_of s n) (all_kept (λ j. s i j ≡ t i j) (λ i. not (list_any (s i) (places i)))
      (places n) (below_all (λ j. s i j ≡ t i j) n (λ j k. alike i j h k)))
      ∙ ap (position_or_len (t i)) firsts_agree))

  pub sights_agree : (firsts numbers : List ℕ) → IsSight s n firsts numbers → IsSight t n firsts numbers
  sights_agree firsts numbers is = record { are_firsts = is.are_firsts ∙ firsts_agree; are_numbers = is.are_numbers ∙ numbers_agree }

module _ (fine coarse : ℕ → ℕ → Bool) (fine_eqv : IsEquivalence fine) (eqv : IsEquivalence coarse)
    (coarser : IsCoarser fine coarse) (n : ℕ) where
  abbrev firsts : List ℕ
  firsts = first_of fine n

  abbrev first : ℕ → ℕ
  first a = get_or firsts a 0

  abbrev count : ℕ
  count = length firsts

  -- whether two finer groups are of one coarser one
  abbrev between : ℕ → ℕ → Bool
  between a b = coarse (first a) (first b)

  abbrev is_first : ℕ → Bool
  is_first i = not (list_any (coarse i) (places i))

  alike : (i j k : ℕ) → coarse i j ≡ true → coarse k i ≡ coarse k j
  alike i j k h = eqv.symm k i ∙ eqv.congr i j k h ∙ eqv.symm j k

  stays_first : (i : ℕ) → is_first i ≡ true → not (list_any (fine i) (places i)) ≡ true
  stays_first i h = go (list_any (fine i) (places i)) refl
    where
      go : (b : Bool) → list_any (fine i) (places i) ≡ b → not b ≡ true
      go false e = refl
      go true e = absurd (true≢false (sym h ∙ ap not (any_implied (fine i) (coarse i) (coarser i) (places i) e)))

  first_between : (a : ℕ) → a < count → is_first (first a) ≡ not (list_any (between a) (places a))
  first_between a h =
      ap not (sym (any_first fine fine_eqv (coarse (first a)) (λ i j e. alike i j (first a) (coarser i j e)) (first a))
      ∙ ap (list_any (coarse (first a))) (passing_front (λ i. not (list_any (fine i) (places i))) n a h
      ∙ sym (places_of_front firsts a (omega (arith, h))))
      ∙ any-map (coarse (first a)) first (places a))

  -- the first rows of coarser groups
  firsts_of_firsts : map first (first_of between count) ≡ first_of coarse n
  firsts_of_firsts =
      ap (map first) (sym (filter_same (λ a. is_first (first a)) (λ a. not (list_any (between a) (places a))) (places count)
      (below_all (λ a. is_first (first a) ≡ not (list_any (between a) (places a))) count first_between)))
      ∙ sym (filter-map is_first first (places count)) ∙ ap (filter is_first) (at_places firsts 0)
      ∙ filter_twice is_first (λ i. not (list_any (fine i) (places i))) stays_first (places n)

  -- the number of a row's finer group
  abbrev fine_number : ℕ → ℕ
  fine_number i = position_or_len (fine i) firsts

  number_of_number : (i : ℕ) → i < n → get_or (group_numbers between count) (fine_number i) 0 ≡ position_or_len (coarse i)
      (first_of coarse n)
  number_of_number i h =
      mapped_at (λ a. position_or_len (between a) (first_of between count)) count (fine_number i) 0 (number_within fine fine_eqv n i h)
      ∙ sym (ap (position_or_len (coarse i)) (sym firsts_of_firsts) ∙ position_mapped (coarse i) first (first_of between count)
      ∙ ap (λ p. position_or_len (λ a. p (first a)) (first_of between count)) same_test)
    where
      same_test : coarse i ≡ coarse (get_or (first_of fine n) (position_or_len (fine i) (first_of fine n)) 0)
      same_test = λ j z. eqv.congr i (get_or (first_of fine n) (position_or_len (fine i) (first_of fine n)) 0) z
          (coarser i (get_or (first_of fine n) (position_or_len (fine i) (first_of fine n)) 0) (leads_group fine fine_eqv n i h)) j

  numbers_of_numbers : map (λ g. get_or (group_numbers between count) g 0) (group_numbers fine n) ≡ group_numbers coarse n
  numbers_of_numbers =
      map-map (λ g. get_or (group_numbers between count) g 0) fine_number (places n)
      ∙ map_same (λ i. get_or (group_numbers between count) (fine_number i) 0)
      (λ i. position_or_len (coarse i) (first_of coarse n)) (places n)
      (below_all (λ i. get_or (group_numbers between count) (fine_number i) 0 ≡ position_or_len (coarse i)
      (first_of coarse n)) n number_of_number)

  -- coarser groups, by those of the first rows of finer ones
  pub coarser_sight : (fine_firsts fine_numbers firsts_between numbers_between coarse_firsts coarse_numbers : List ℕ)
      → IsSight fine n fine_firsts fine_numbers → IsSight between count firsts_between numbers_between
      → coarse_firsts ≡ map (λ i. get_or fine_firsts i 0) firsts_between
      → coarse_numbers ≡ map (λ g. get_or numbers_between g 0) fine_numbers → IsSight coarse n coarse_firsts coarse_numbers
  coarser_sight fine_firsts fine_numbers firsts_between numbers_between coarse_firsts coarse_numbers s b e f = record {
    are_firsts = e ∙ ap (λ l. map (λ i. get_or l i 0) firsts_between) s.are_firsts ∙ ap (map first) b.are_firsts ∙ firsts_of_firsts;
    are_numbers = f ∙ ap (map (λ g. get_or numbers_between g 0)) s.are_numbers
        ∙ ap (λ l. map (λ g. get_or l g 0) (group_numbers fine n)) b.are_numbers ∙ numbers_of_numbers;
  }

-- rows of some numbers agree where the rows of these numbers do
picked_agree : (columns : SetColumns) (rows picked : List Row) (firsts : List ℕ) → picked ≡ map (key_at rows) firsts
    → (a b : ℕ) → a < length firsts → b < length firsts → agree columns picked a b ≡ agree columns rows (get_or firsts a 0)
    (get_or firsts b 0)
picked_agree columns rows picked firsts e a b h k =
    let at : (c : ℕ) → c < length firsts → key_at picked c ≡ key_at rows (get_or firsts c 0) = λ c l. ap (λ p. key_at p c) e
    ∙ get_or-map (key_at rows) firsts c 0 [] l in
    ap (λ row. is_eq (group_cmp columns (map (set_value row) columns) (group_key columns picked b))) (at a h)
    ∙ ap (λ row. is_eq (group_cmp columns (group_key columns rows (get_or firsts a 0)) (map (set_value row) columns))) (at b k)

pub coarser_groups_are : (columns fine : SetColumns) (rows picked : List Row) (n : ℕ) (fine_firsts fine_numbers few_firsts
    few_numbers firsts numbers : List ℕ) → IsCoarser (agree fine rows) (agree columns rows)
    → IsSight (agree fine rows) n fine_firsts fine_numbers
    → picked ≡ map (key_at rows) fine_firsts → IsSight (agree columns picked) (length fine_firsts) few_firsts few_numbers
    → firsts ≡ map (λ i. get_or fine_firsts i 0) few_firsts → numbers ≡ map (λ g. get_or few_numbers g 0) fine_numbers
    → IsSight (agree columns rows) n firsts numbers
coarser_groups_are columns fine rows picked n fine_firsts fine_numbers few_firsts few_numbers firsts numbers coarser s e few f g =
    coarser_sight (agree fine rows) (agree columns rows) (agree_equiv fine rows) (agree_equiv columns rows) coarser n
    fine_firsts fine_numbers few_firsts few_numbers firsts numbers s
    (subst (λ l. IsSight (λ a b. agree columns rows (get_or l a 0) (get_or l b 0)) (length l) few_firsts few_numbers) s.are_firsts
    (sights_agree (agree columns picked) (λ a b. agree columns rows (get_or fine_firsts a 0) (get_or fine_firsts b 0))
    (length fine_firsts) (picked_agree columns rows picked fine_firsts e) few_firsts few_numbers few))
    f g

-- what has some columns has each of them
part_has : (c : ℕ) (columns set : List ℕ) → is_part set columns ≡ true → is_among c set ≡ true → is_among c columns ≡ true
part_has c columns [] part h = absurd (true≢false (sym h))
part_has c columns (x ∷ xs) part h = go (eqb_tells x c) (parts (is_among x columns) (is_part xs columns) part)
    (λ rest k. part_has c columns xs rest k)
  where
    parts : (a b : Bool) → (a && b) ≡ true → (a ≡ true) × (b ≡ true)
    parts true b e = (refl, e)
    parts false b e = absurd (true≢false (sym e))

    go : ((eqb x c ≡ true) × (x ≡ c)) ⊎ ((eqb x c ≡ false) × (x ≢ c)) → (is_among x columns ≡ true)
        × (is_part xs columns ≡ true) → (is_part xs columns ≡ true → is_among c xs ≡ true → is_among c columns ≡ true)
        → is_among c columns ≡ true
    go (inl (t, e)) p more = ap (λ k. is_among k columns) (sym e) ∙ p.0
    go (inr (f, d)) p more = more p.1 (sym (ap (λ b. b || is_among c xs) f) ∙ h)

keys_part : (set fine : List ℕ) (a b : Row) → is_part set fine ≡ true → (columns : List ℕ)
    → map (set_value a) (set_columns columns fine) ≡ map (set_value b) (set_columns columns fine)
    → map (set_value a) (set_columns columns set) ≡ map (set_value b) (set_columns columns set)
keys_part set fine a b part [] e = refl
keys_part set fine a b part (c ∷ cs) e =
    let q : Meaning = set_value a (cond (is_among c fine) (Some c) None) in
    ap (λ x. x ∷ map (set_value a) (set_columns cs set)) (value (is_among c set) (is_among c fine)
    (part_has c fine set part) (ap (λ l. get_or l 0 q) e))
    ∙ ap (λ l. set_value b (cond (is_among c set) (Some c) None) ∷ l) (keys_part set fine a b part cs (ap (drop 1) e))
  where
    value : (p q : Bool) → (p ≡ true → q ≡ true) → set_value a (cond q (Some c) None) ≡ set_value b (cond q (Some c) None)
        → set_value a (cond p (Some c) None) ≡ set_value b (cond p (Some c) None)
    value false q h e = refl
    value true q h e = subst (λ q. set_value a (cond q (Some c) None) ≡ set_value b (cond q (Some c) None)) (h refl) e

-- rows that agree on columns agree on each part of them
pub agree_on_part : (columns set fine : List ℕ) (rows : List Row) → is_part set fine ≡ true
    → IsCoarser (agree (set_columns columns fine) rows) (agree (set_columns columns set) rows)
agree_on_part columns set fine rows part = λ i j h.
    (agree_decides (set_columns columns set) rows i j).1 (keys_part set fine (key_at rows i) (key_at rows j) part columns
    ((agree_decides (set_columns columns fine) rows i j).0 h))

-- what a finer set has
pub finer_has : (set : List ℕ) (g : memory.Groups) → is_finer set g ≡ true → (0 < length g.firsts.items) × (is_part set g.set.items ≡ true)
finer_has set g h = go g.firsts.items h
  where
    go : (firsts : List ℕ) → cond (length firsts == 0) false (is_part set g.set.items) ≡ true → (0 < length firsts)
        × (is_part set g.set.items ≡ true)
    go [] h = absurd (true≢false (sym h))
    go (x ∷ xs) h = (
      omega arith,
      sym (ap (λ b. cond b false (is_part set g.set.items))
          (are_apart (length (x ∷ xs)) 0 (λ e. omega (arith, e)))) ∙ h,
    )
