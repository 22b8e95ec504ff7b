-- Groups that are made of rows, and groups that are made of groups.
use Rattle.std.proofs.Common.{◌≡◌, ℕ, zero, suc, ◌<◌, ◌==◌, ◌^◌, ◌||◌, ◌⊎◌, inl, inr, Bool, true, false, cond, List}
use Rattle.std.proofs.Common.{[], ◌∷◌, ◌++◌, length, length-append, map, take, get_or, All, Option, Some, None, unwrap_or, Ok}
use Rattle.std.proofs.Common.{Vec, Global, Ordering, is_gt, refl, sym, ap, subst, ◌∙◌, arith, ◌≢◌, eqb, true≢false}
use Rattle.std.specs.Borrow.{Bor}
use Rattle.std.specs.Cmp.{IsEquivalence}
use Rattle.std.specs.List.{AllByRecursion, list_any}
use Rattle.std.specs.Option.{is_none}
use Rattle.std.proofs.Math.Seq.{get_or-append_seam, take-append_seam}
use Rattle.std.proofs.lemmas.Bool.Decides.{eqb_tells}
use Rattle.std.proofs.lemmas.List.{get_or-map, get_or-take, get_or_append_left, length-map, length-take-le, take-append-le}
use Rattle.std.proofs.lemmas.List.Elements.{All-from_recursion, recursion_from_All}
use Rattle.std.proofs.lemmas.List.Folds.{list_any_at}
use Rattle.wvalues.specs.declared.value.Value.{Value}
use Rattle.wvalues.specs.Meaning.{Meaning, Null, meaning}
use Rattle.wframe.specs.Places.{places}
use Rattle.wframe.specs.Sorting.{inserted, sorted}
use Rattle.wrows.specs.declared.fault.AnswerFault.TheVariants.{OutOfRange}
use Rattle.wrows.specs.Columns.{in_range}
use Rattle.wrows.specs.Outcomes.{unless}
use Rattle.wrows.specs.Laid.{rows_seen}
use Rattle.wrows.proofs.RowFacts.{any-map, length-places, map-map, ok_is_false, same_at}
use Rattle.waggregate.specs.Aggregating.{Feed, aggregate_of}
use Rattle.waggregate.specs.Grouped.{rows_of_group}
use Rattle.wplan.specs.declared.resolved.AggregateFunction.{AggregateFunction}
use Rattle.wgroup.specs.declared.found.Groups as memory
use Rattle.wgroup.specs.declared.found.FinerSet as made
use Rattle.wgroup.specs.Grouping.{agree, set_columns}
use Rattle.wgroup.specs.Sight.{IsSight, first_of}
use Rattle.wgroup.specs.Held.{by_row, row_numbers, set_answers}
use Rattle.wgroup.specs.Finer.{AreAnswered, AreMade, IsAt, IsBase, IsJoined, IsKept, IsKeyed, IsLinked, IsMade, IsMadeOf}
use Rattle.wgroup.specs.Finer.{IsMadeOfOne, IsSeen, MadeFrom, base_place, function_of_parts, is_finer, is_part}
use Rattle.wgroup.proofs.AnswerFacts.{of_answers}
use Rattle.wgroup.proofs.CoarserFacts.{finer_has}
use Rattle.wgroup.proofs.LeaderFacts.{in_order}
use Rattle.wgroup.proofs.ListFacts.{all_implied, at_places, each_mapped, map_same}
use Rattle.wgroup.proofs.SeenFacts.{agree_equiv}
use Rattle.wgroup.proofs.SightFacts.{any_implied, as_many_numbers, firsts_fewer, firsts_within, is_of_group, numbers_below, number_at}
use Rattle.wgroup.proofs.TotalFacts.{of_sorted}
use Rattle.wgroup.proofs.PartFacts.{any_is_total}
use Rattle.wgroup.proofs.AnswerFacts.{or_assoc, or_comm}

-- the first row of a group has its number
first_numbered : (same : ℕ → ℕ → Bool) → IsEquivalence same → (n : ℕ) (firsts numbers : List ℕ)
    → IsSight same n firsts numbers → (i : ℕ) → i < length firsts → (get_or numbers (get_or firsts i 0) 0 == i) ≡ true
first_numbered same eqv n firsts numbers s i h =
    let there : i < length (first_of same n) = omega (arith, h, ap length s.are_firsts) in
    let within : get_or (first_of same n) i 0 < n =
    subst (λ l. get_or l i 0 < n) s.are_firsts (firsts_within same n firsts numbers s i 0 h) in
    ap (λ l. get_or numbers (get_or l i 0) 0 == i) s.are_firsts
    ∙ ap (λ x. x == i) (number_at same n firsts numbers s (get_or (first_of same n) i 0) within) ∙ is_of_group same eqv n i
    (get_or (first_of same n) i 0) there within ∙ eqv.refl (get_or (first_of same n) i 0)

-- each group has a row
group_met : (same : ℕ → ℕ → Bool) → IsEquivalence same → (n : ℕ) (firsts numbers : List ℕ) → IsSight same n firsts numbers
    → (i : ℕ) → i < length firsts → list_any (λ j. j == i) numbers ≡ true
group_met same eqv n firsts numbers s i h =
    let within : get_or firsts i 0 < n = firsts_within same n firsts numbers s i 0 h in
    list_any_at (λ j. j == i) numbers (get_or firsts i 0) 0 (omega (arith, within, as_many_numbers same n firsts numbers s))
    (first_numbered same eqv n firsts numbers s i h)

is_equal : (a b : ℕ) → (a == b) ≡ true → a ≡ b
is_equal a b h = go (eqb_tells a b)
  where
    go : ((eqb a b ≡ true) × (a ≡ b)) ⊎ ((eqb a b ≡ false) × (a ≢ b)) → a ≡ b
    go (inl (t, e)) = e
    go (inr (f, d)) = absurd (true≢false (sym h ∙ f))

pub linked_below : (links order : List ℕ) (n : ℕ) → All (λ i. i < n) links → All (λ i. i < length links) order
    → All (λ i. i < n) (map (λ i. get_or links i 0) order)
linked_below links order n below all =
    All-from_recursion (λ i. i < n) (map (λ i. get_or links i 0) order)
    (each_mapped (λ i. i < n) (λ i. get_or links i 0) order (all_implied (λ i. i < length links) (λ i. get_or links i 0 < n)
    (λ i h. below i 0 h) order (recursion_from_All (λ i. i < length links) order all)))

module _ (columns set : List ℕ) (rows : List (Bor (List Value))) (firsts numbers : List ℕ) (g : memory.Groups) where
  abbrev same : ℕ → ℕ → Bool
  same = agree (set_columns columns set) (rows_seen rows)

  eqv : IsEquivalence (agree (set_columns columns set) (rows_seen rows))
  eqv = agree_equiv (set_columns columns set) (rows_seen rows)

  module _ (keyed : IsKeyed set firsts numbers None g) (sight : IsSight (agree (set_columns columns set) (rows_seen rows))
      (length rows) firsts numbers) where
    below_count : All (λ i. i < g.count) g.numbers.value.items
    below_count = subst (All (λ i. i < g.count)) (sym keyed.numbered) (subst (λ m. All (λ i. i < m) numbers)
        (sym keyed.as_many) (numbers_below same eqv (length rows) firsts numbers sight))

    pub made_of_rows : (earlier : List memory.Groups) → IsMade earlier g
    made_of_rows earlier = subst (MadeFrom earlier g) (sym keyed.of_finer) below_count

    pub seen_of_rows : IsSeen columns rows g
    seen_of_rows = λ some.
        let are = keyed.kept some in
        let long : length numbers ≡ length rows = as_many_numbers same (length rows) firsts numbers sight in
        record {
          base = λ e. record {
            of_rows = keyed.of_finer;
            ordered = keyed.ordered;
            below = below_count;
            some = omega (arith, some, keyed.as_many, ap length are);
            fewer = omega (arith, keyed.as_many, firsts_fewer same (length rows) firsts numbers sight, ap length keyed.numbered, long);
          };
          sight = subst (λ s. IsSight (agree (set_columns columns s) (rows_seen rows)) (length rows) g.firsts.items
              (row_numbers g)) (sym keyed.of_set)
              (record {
                are_firsts = are ∙ sight.are_firsts;
                are_numbers = ap (by_row g.numbers.value.items) keyed.of_finer
                    ∙ keyed.numbered ∙ sight.are_numbers;
              });
          as_many = keyed.as_many ∙ ap length (sym are);
        }

  -- groups of the first rows of other groups
  pub seen_of_groups : (joined : made.FinerSet) → IsKeyed set firsts numbers (Some joined) g
      → IsSight (agree (set_columns columns set) (rows_seen rows)) (length rows) firsts (by_row numbers (Some joined))
      → IsSeen columns rows g
  seen_of_groups joined keyed sight = λ some.
      let are = keyed.kept some in
      record {
        base = λ e. absurd (no_some joined (sym keyed.of_finer ∙ e));
        sight = subst (λ s. IsSight (agree (set_columns columns s) (rows_seen rows)) (length rows) g.firsts.items
            (row_numbers g)) (sym keyed.of_set)
            (record {
              are_firsts = are ∙ sight.are_firsts;
              are_numbers = ap (by_row g.numbers.value.items) keyed.of_finer
                  ∙ ap (λ ns. by_row ns (Some joined)) keyed.numbered ∙ sight.are_numbers;
            });
        as_many = keyed.as_many ∙ ap length (sym are);
      }
    where
      no_some : (x : made.FinerSet) → Some x ≡ None → ⊥
      no_some x e = cc

  module _ (place : ℕ) (f : memory.Groups) (joined : made.FinerSet) (few : ℕ → ℕ → Bool) (few_firsts links : List ℕ)
      (keyed : IsKeyed set firsts numbers (Some joined) g)
      (sight : IsSight few f.count few_firsts links) (few_eqv : IsEquivalence few)
      (is : IsJoined place links f.finer joined) (base : f.finer ≡ None
      → IsBase f) (same_rows : numbers ≡ f.numbers.value.items) (as_many : length firsts ≡ length few_firsts) where
    links_below : All (λ i. i < g.count) links
    links_below = subst (λ m. All (λ i. i < m) links) (sym (keyed.as_many ∙ as_many))
        (numbers_below few few_eqv f.count few_firsts links sight)

    links_many : length links ≡ f.count
    links_many = as_many_numbers few f.count few_firsts links sight

    few_there : (i : ℕ) → i < g.count → i < length few_firsts
    few_there i h = omega (arith, h, keyed.as_many, as_many)

    of_these : IsBase f → IsMadeOf f links g
    of_these b = record {
      base = b;
      same_rows = keyed.numbered ∙ same_rows;
      as_many = links_many;
      below = links_below;
      met = λ i h. group_met few few_eqv f.count few_firsts links sight i (few_there i h);
    }

    of_those : (h : memory.Groups) (numbers_of : List ℕ) → IsMadeOf h numbers_of f → IsMadeOf h (map (λ i. get_or links i 0) numbers_of) g
    of_those h ns m = record {
      base = m.base;
      same_rows = keyed.numbered ∙ same_rows ∙ m.same_rows;
      as_many = length-map ns (λ i. get_or links i 0) ∙ m.as_many;
      below = linked_below links ns g.count links_below (subst (λ n. All (λ i. i < n) ns) (sym links_many) m.below);
      met = λ i l.
          let there = few_there i l in
          let within : get_or few_firsts i 0 < f.count = firsts_within few f.count few_firsts links sight i 0 there in
          any-map (λ j. j == i) (λ i. get_or links i 0) ns
          ∙ any_implied (λ b. b == get_or few_firsts i 0) (λ b. get_or links b 0 == i)
          (λ b e. ap (λ k. get_or links k 0 == i) (is_equal b (get_or few_firsts i 0) e) ∙ first_numbered few few_eqv
          f.count few_firsts links sight i there) ns (m.met (get_or few_firsts i 0) within);
    }

    pub made_of_groups : (earlier : List memory.Groups) → IsAt earlier place f → IsMade (take place earlier) f → IsMade earlier g
    made_of_groups earlier at how = subst (MadeFrom earlier g) (sym keyed.of_finer) (by f.finer refl is how)
      where
        by : (o : Option made.FinerSet) → f.finer ≡ o → IsJoined place links o joined → MadeFrom (take place earlier) f o
            → IsMadeOfOne earlier joined g
        by None e j m = record {
          within = subst (λ p. p < length earlier) (sym j.0) at.within;
          made = λ d. subst (λ h. IsMadeOf h joined.numbers.items g) (sym (ap (λ p. get_or earlier p d) j.0 ∙ at.is d))
              (subst (λ l. IsMadeOf f l g) (sym j.1) (of_these (base e)));
        }
        by (Some l) e j m =
            let lower : l.place < place = (let w = m.within in
            omega (arith, w, at.within, length-take-le place earlier (let a = at.within in omega (arith, a)))) in
            record {
              within = subst (λ p. p < length earlier) (sym j.0) (let a = at.within in omega (arith, lower, a));
              made = λ d. subst (λ h. IsMadeOf h joined.numbers.items g) (get_or-take place earlier l.place d lower
                  ∙ sym (ap (λ p. get_or earlier p d) j.0))
                  (subst (λ k. IsMadeOf (get_or (take place earlier) l.place d) k g) (sym j.1)
                  (of_those (get_or (take place earlier) l.place d) l.numbers.items (m.made d)));
            }

pub as_many_rows : (g : memory.Groups) → length g.numbers.value.items ≡ length (row_numbers g)
as_many_rows g = by g.finer
  where
    by : (o : Option made.FinerSet) → length g.numbers.value.items ≡ length (by_row g.numbers.value.items o)
    by None = refl
    by (Some l) = sym (length-map g.numbers.value.items (λ i. get_or l.numbers.items i 0))

-- numbers of rows, by those of groups that are made of groups
pub joined_rows : (place : ℕ) (links ns : List ℕ) (o : Option made.FinerSet) (joined : made.FinerSet)
    → IsJoined place links o joined → ((l : made.FinerSet) → o ≡ Some l → All (λ i. i < length l.numbers.items) ns)
    → by_row ns (Some joined) ≡ map (λ i. get_or links i 0) (by_row ns o)
joined_rows place links ns None joined is below = ap (λ ls. map (λ i. get_or ls i 0) ns) is.1
joined_rows place links ns (Some l) joined is below =
    ap (λ ls. map (λ i. get_or ls i 0) ns) is.1
    ∙ map_same (λ i. get_or (map (λ i. get_or links i 0) l.numbers.items) i 0) (λ i. get_or links (get_or l.numbers.items i 0) 0) ns
    (all_implied (λ i. i < length l.numbers.items) (λ i. get_or (map (λ i. get_or links i 0) l.numbers.items) i 0
    ≡ get_or links (get_or l.numbers.items i 0) 0) (λ i h. get_or-map (λ i. get_or links i 0) l.numbers.items i 0 0 h)
    ns (recursion_from_All (λ i. i < length l.numbers.items) ns (below l refl)))
    ∙ sym (map-map (λ i. get_or links i 0) (λ i. get_or l.numbers.items i 0) ns)

pub linked : (earlier : List memory.Groups) (g : memory.Groups) → IsMade earlier g → IsLinked g
linked earlier g how = λ l e.
    let m : IsMadeOfOne earlier l g = subst (MadeFrom earlier g) e how in
    let is = m.made g in (
      is.below,
      subst (λ n. All (λ i. i < n) g.numbers.value.items) (sym is.as_many)
          (subst (All (λ i. i < (get_or earlier l.place g).count)) (sym is.same_rows) is.base.below),
    )

many_numbers : (columns : List ℕ) (rows : List (Bor (List Value))) (g : memory.Groups) → IsKept columns rows g
    → length (row_numbers g) ≡ length rows
many_numbers columns rows g kept = as_many_numbers (agree (set_columns columns g.set.items) (rows_seen rows)) (length rows)
    g.firsts.items (row_numbers g) kept.sight

pub made_within : (found : List memory.Groups) (place : ℕ) (g : memory.Groups) (l : made.FinerSet) → AreMade found
    → place < length found → g ≡ get_or found place g → g.finer ≡ Some l → l.place < length found
made_within found place g l how within at e =
    let m : IsMadeOfOne (take place found) l g =
    subst (MadeFrom (take place found) g) e (subst (IsMade (take place found)) (sym at) (how place g within)) in
    let w = m.within in
    omega (arith, w, within, length-take-le place found (omega (arith, within)))

-- the set that a set's groups are made of, which is made of rows
pub base_found : (columns : List ℕ) (rows : List (Bor (List Value))) (found : List memory.Groups) (place : ℕ)
    (g : memory.Groups) → IsKept columns rows g → IsAt found place g → IsMade (take place found) g
    → (base_place place g.finer < length found) × ((d : memory.Groups) → IsBase (get_or found (base_place place g.finer) d))
    × ((d : memory.Groups) → length (get_or found (base_place place g.finer) d).numbers.value.items ≡ length rows)
base_found columns rows found place g kept at how = by g.finer refl how
  where
    by : (o : Option made.FinerSet) → g.finer ≡ o → MadeFrom (take place found) g o
        → (base_place place o < length found) × ((d : memory.Groups) → IsBase (get_or found (base_place place o) d))
        × ((d : memory.Groups) → length (get_or found (base_place place o) d).numbers.value.items ≡ length rows)
    by None e m = (
      at.within,
      λ d. subst IsBase (sym (at.is d)) (kept.base e),
      λ d. ap (λ h. length h.numbers.value.items) (at.is d) ∙ ap length (sym (ap (by_row g.numbers.value.items) e))
          ∙ many_numbers columns rows g kept,
    )
    by (Some l) e m =
        let a = at.within in
        let w = m.within in
        let lower : l.place < place = omega (arith, w, a, length-take-le place found (omega (arith, a))) in (
          omega (arith, lower, a),
          λ d. subst IsBase (get_or-take place found l.place d lower) (m.made d).base,
          λ d. ap (λ h. length h.numbers.value.items) (sym (get_or-take place found l.place d lower)) ∙ ap length (sym (m.made d).same_rows)
              ∙ sym (length-map g.numbers.value.items (λ i. get_or l.numbers.items i 0))
              ∙ ap length (sym (ap (by_row g.numbers.value.items) e)) ∙ many_numbers columns rows g kept,
        )

-- a finer set that was found
pub found_at : (columns set : List ℕ) (rows : List (Bor (List Value))) (found : List memory.Groups) (place : ℕ)
    (g : memory.Groups) → All (IsSeen columns rows) found → place < length found
    → ((d : memory.Groups) → is_finer set (get_or found place d) ≡ true) → g ≡ get_or found place g
    → IsKept columns rows g × (is_part set g.set.items ≡ true) × IsAt found place g
found_at columns set rows found place g all within finer is =
    let has = finer_has set g (ap (is_finer set) is ∙ finer g) in
    let seen : IsSeen columns rows g = subst (IsSeen columns rows) (sym is) (all place g within) in
    (seen has.0, has.1, record { within = within; is = λ d. same_at found place d g within ∙ sym is })

some_at : {X : Type 0} (xs : List X) (i : ℕ) → i < length xs → (x : X) × ((d : X) → get_or xs i d ≡ x)
some_at [] i h = absurd (omega (arith, h))
some_at (x ∷ xs) zero h = (x, λ d. refl)
some_at (x ∷ xs) (suc i) h = some_at xs i (omega (arith, h))

pub base_there : (columns set : List ℕ) (rows : List (Bor (List Value))) (found : List memory.Groups) (place base : ℕ)
    → All (IsSeen columns rows) found → AreMade found → place < length found
    → ((d : memory.Groups) → is_finer set (get_or found place d) ≡ true)
    → ((d : memory.Groups) → base ≡ base_place place (get_or found place d).finer)
    → (base < length found) × ((d : memory.Groups) → IsBase (get_or found base d))
    × ((d : memory.Groups) → length (get_or found base d).numbers.value.items ≡ length rows)
base_there columns set rows found place base all how within finer is =
    let w = some_at found place within in
    let g = w.0 in
    let at : g ≡ get_or found place g = sym (w.1 g) in
    let known = found_at columns set rows found place g all within finer at in
    let e : base_place place g.finer ≡ base = ap (λ h. base_place place h.finer) at ∙ sym (is g) in
    subst (λ p. (p < length found) × ((d : memory.Groups) → IsBase (get_or found p d))
    × ((d : memory.Groups) → length (get_or found p d).numbers.value.items ≡ length rows)) e
    (base_found columns rows found place g known.0 known.2 (subst (IsMade (take place found)) (sym at) (how place g within)))

-- a set more
pub are_made_more : (xs ys : List memory.Groups) (y : memory.Groups) → AreMade xs → IsMade xs y → ys ≡ xs ++ y ∷ [] → AreMade ys
are_made_more xs ys y all here e = subst AreMade (sym e) (λ i d h. go i d (in_order i (length xs)) h)
  where
    go : (i : ℕ) (d : memory.Groups) → (i < length xs) ⊎ ((i ≡ length xs) ⊎ (length xs < i)) → i < length (xs ++ y ∷ [])
        → IsMade (take i (xs ++ y ∷ [])) (get_or (xs ++ y ∷ []) i d)
    go i d (inl l) h =
        subst (λ t. IsMade t (get_or (xs ++ y ∷ []) i d)) (sym (take-append-le i xs (y ∷ []) (omega (arith, l))))
        (subst (IsMade (take i xs)) (sym (get_or_append_left xs (y ∷ []) d i l)) (all i d l))
    go i d (inr (inl q)) h =
        subst (λ k. IsMade (take k (xs ++ y ∷ [])) (get_or (xs ++ y ∷ []) k d)) (sym q)
        (subst (λ t. IsMade t (get_or (xs ++ y ∷ []) (length xs) d)) (sym (take-append_seam xs (y ∷ [])))
        (subst (IsMade xs) (sym (get_or-append_seam xs y [] d)) here))
    go i d (inr (inr l)) h = absurd (omega (arith, l, h, length-append xs (y ∷ [])))

-- results that are all in range
module _ (f : ℕ → Option Meaning) where
  abbrev value : ℕ → Meaning
  value i = unwrap_or (f i) Null

  each_some : (order : List ℕ) → list_any is_none (map f order) ≡ false → AllByRecursion (λ i. f i ≡ Some (value i)) order
  each_some [] h = tt
  each_some (i ∷ is) h = (
    some (f i) (parts (is_none (f i)) (list_any is_none (map f is)) h).0,
    each_some is (parts (is_none (f i)) (list_any is_none (map f is)) h).1,
  )
    where
      parts : (a b : Bool) → (a || b) ≡ false → (a ≡ false) × (b ≡ false)
      parts true b e = absurd (cc)
      parts false b e = (refl, e)

      some : (o : Option Meaning) → is_none o ≡ false → o ≡ Some (unwrap_or o Null)
      some None e = absurd (cc)
      some (Some x) e = refl

  pub all_in_range : (order : List ℕ) (ys : List Meaning) → in_range (map f order) ≡ Ok ys → (ys ≡ map value order)
      × AllByRecursion (λ i. f i ≡ Some (value i)) order
  all_in_range order ys h =
      let none : list_any is_none (map f order) ≡ false =
      ok_is_false (list_any is_none (map f order)) (map (λ r. unwrap_or r Null) (map f order)) ys h in
      let same : map (λ r. unwrap_or r Null) (map f order) ≡ ys = go (list_any is_none (map f order)) none h in
      (sym same ∙ map-map (λ r. unwrap_or r Null) f order, each_some order none)
    where
      go : (b : Bool) → b ≡ false → unless b OutOfRange (map (λ r. unwrap_or r Null) (map f order)) ≡ Ok ys
          → map (λ r. unwrap_or r Null) (map f order) ≡ ys
      go true e h = absurd (cc)
      go false e h = cc

sorted_long : (cmp : ℕ → ℕ → Ordering) (xs : List ℕ) → length (sorted cmp xs) ≡ length xs
sorted_long cmp [] = refl
sorted_long cmp (x ∷ xs) = inserted_long x (sorted cmp xs) ∙ ap suc (sorted_long cmp xs)
  where
    inserted_long : (x : ℕ) (ys : List ℕ) → length (inserted cmp x ys) ≡ suc (length ys)
    inserted_long x [] = refl
    inserted_long x (y ∷ ys) = elim (is_gt (cmp x y)) as (λ b. length (cond b (y ∷ inserted cmp x ys) (x ∷ y ∷ ys))
        ≡ suc (suc (length ys))) [ true ↦ ap suc (inserted_long x ys) | false ↦ refl ]

pub order_long : (f : memory.Groups) → IsBase f → length f.order.items ≡ f.count
order_long f base = ap length base.ordered.1 ∙ sorted_long base.ordered.0 (places f.count) ∙ length-places 0 f.count

-- what an aggregate comes to on a set's groups, by the groups that they are made of
pub parts_answer : (function : AggregateFunction) (feed : Feed) (f g : memory.Groups) (finer : made.FinerSet)
    (parts : List Meaning) → IsMadeOf f finer.numbers.items g → g.finer ≡ Some finer → length g.numbers.value.items < 2 ^ 31
    → in_range (set_answers function feed f) ≡ Ok parts
    → map (λ i. aggregate_of (function_of_parts function) (record { values = parts; filter = None })
    (rows_of_group (map (λ i. get_or finer.numbers.items i 0) f.order.items) i)) g.order.items ≡ set_answers function feed g
parts_answer function feed f g finer parts is e few h =
    let links = finer.numbers.items in
    let numbers = f.numbers.value.items in
    let order = f.order.items in
    let of_part : ℕ → Option Meaning = λ i. aggregate_of function feed (rows_of_group numbers i) in
    let a : ℕ → Meaning = λ i. unwrap_or (aggregate_of function feed (rows_of_group numbers i)) Null in
    let known = all_in_range of_part order parts
    (ap (λ o. in_range (map (λ i. aggregate_of function feed (rows_of_group (by_row numbers o) i)) order)) (sym is.base.of_rows) ∙ h) in
    let cmp = is.base.ordered.0 in
    let in_keys : order ≡ sorted cmp (places (length links)) = is.base.ordered.1 ∙ ap (λ n. sorted cmp (places n)) (sym is.as_many) in
    let below : All (λ i. i < length links) numbers = subst (λ n. All (λ i. i < n) numbers) (sym is.as_many) is.base.below in
    let made : row_numbers g ≡ map (λ i. get_or links i 0) numbers = ap (by_row g.numbers.value.items) e
    ∙ ap (map (λ i. get_or links i 0)) is.same_rows in
    map_same (λ i. aggregate_of (function_of_parts function) (record { values = parts; filter = None })
    (rows_of_group (map (λ i. get_or links i 0) order) i))
    (λ i. aggregate_of function feed (rows_of_group (row_numbers g) i)) g.order.items
    (all_implied (λ i. i < g.count)
    (λ i. aggregate_of (function_of_parts function) (record { values = parts; filter = None })
    (rows_of_group (map (λ i. get_or links i 0) order) i) ≡ aggregate_of function feed (rows_of_group (row_numbers g) i))
    (λ i l.
    ap (λ vs. aggregate_of (function_of_parts function) (record { values = vs; filter = None })
    (rows_of_group (map (λ i. get_or links i 0) order) i)) known.0
    ∙ of_answers feed numbers links order cmp in_keys below a i function (omega (arith, few, ap length is.same_rows))
    (met_in_order cmp links order i in_keys (is.met i l)) known.1
    ∙ ap (λ ns. aggregate_of function feed (rows_of_group ns i)) (sym made))
    g.order.items (recursion_from_All (λ i. i < g.count) g.order.items g.below))
  where
    met_in_order : (cmp : ℕ → ℕ → Ordering) (links order : List ℕ) (i : ℕ) → order ≡ sorted cmp (places (length links))
        → list_any (λ j. j == i) links ≡ true → list_any (λ f. get_or links f 0 == i) order ≡ true
    met_in_order cmp links order i e h =
        ap (list_any (λ f. get_or links f 0 == i)) e ∙ any_is_total (λ f. get_or links f 0 == i) (sorted cmp (places (length links)))
        ∙ of_sorted false (λ a b. a || b) (λ x. refl) or_comm or_assoc cmp (λ f. get_or links f 0 == i) (places (length links))
        ∙ sym (any_is_total (λ f. get_or links f 0 == i) (places (length links)))
        ∙ sym (any-map (λ j. j == i) (λ f. get_or links f 0) (places (length links))) ∙ ap (list_any (λ j. j == i)) (at_places links 0) ∙ h

-- a set more is answered
pub answered_more : (function : AggregateFunction) (feed : Feed) (sets : List memory.Groups)
    (answered more : List (Vec Value Global)) (n : ℕ) (g : memory.Groups) (answers : Vec Value Global) → length answered ≡ n
    → n < length sets → g ≡ get_or sets n g
    → AreAnswered function feed sets answered → in_range (set_answers function feed g) ≡ Ok (map meaning answers.items)
    → more ≡ answered ++ answers ∷ [] → AreAnswered function feed sets more
answered_more function feed sets answered more n g answers long within is known here e =
    subst (AreAnswered function feed sets) (sym e) (λ i d x h. go i d x (in_order i (length answered)) h)
  where
    go : (i : ℕ) (d : memory.Groups) (x : Vec Value Global) → (i < length answered)
        ⊎ ((i ≡ length answered) ⊎ (length answered < i)) → i < length (answered ++ answers ∷ [])
        → in_range (set_answers function feed (get_or sets i d)) ≡ Ok (map meaning (get_or (answered ++ answers ∷ []) i x).items)
    go i d x (inl l) h = known i d x l ∙ ap (λ v. Ok (map meaning v.items)) (sym (get_or_append_left answered (answers ∷ []) x i l))
    go i d x (inr (inl q)) h =
        ap (λ k. in_range (set_answers function feed (get_or sets k d))) (q ∙ long)
        ∙ ap (λ s. in_range (set_answers function feed s)) (same_at sets n d g within ∙ sym is) ∙ here
        ∙ ap (λ v. Ok (map meaning v.items)) (sym (ap (λ k. get_or (answered ++ answers ∷ []) k x) q
        ∙ get_or-append_seam answered answers [] x))
    go i d x (inr (inr l)) h = absurd (omega (arith, l, h, length-append answered (answers ∷ [])))
