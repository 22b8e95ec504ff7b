-- Groups that are met where their keys are looked for.
use Rattle.std.proofs.Common.{◌≡◌, ◌≢◌, ℕ, zero, suc, ◌+◌, ◌*◌, ◌-◌, map, ◌==◌, ◌<◌, ◌≤◌, ◌⊎◌, inl, inr}
use Rattle.std.proofs.Common.{◌&&◌, ◌||◌, Bool, true, false, eqb, List, [], ◌∷◌, ◌++◌, length, length-append, take, drop}
use Rattle.std.proofs.Common.{set, get_or, nat_lt, refl, sym, ap, subst, ◌∙◌, arith, true≢false}
use Rattle.std.specs.Bool.{one_answer}
use Rattle.std.specs.Cmp.{first_so, second_so}
use Rattle.std.specs.Cmp.Lexicographic.{pointwise, pointwise_decides}
use Rattle.std.specs.Prelude.{◌^◌, IfOk, None, Some, Result, Ok, Err, cond, is_some, min, nat_le, if◌then◌else◌}
use Rattle.std.specs.Int.Bits.{bit_and}
use Rattle.std.specs.List.{flat_map, list_any, position, position_or_len}
use Rattle.std.proofs.Math.Nat.{min-le_left, mul-le-mul_right}
use Rattle.std.proofs.Math.Seq.{get_or-append_seam, take-set-lt}
use Rattle.std.proofs.lemmas.Bool.{leb-true, ltb-true, lt-ltb, and_from}
use Rattle.std.proofs.lemmas.Bool.Decides.{eqb_tells}
use Rattle.std.proofs.lemmas.Grind.{flat_map-append}
use Rattle.std.proofs.lemmas.List.{append-nil, drop-set-lt, drop-set-add, get_or_append_left, get_or-drop, get_or-map, get_or-take}
use Rattle.std.proofs.lemmas.List.{get_or-set_same, length-append, length-drop, length-map, length-set, length-take-le, take-set-le}
use Rattle.std.proofs.lemmas.List.Folds.{list_any-append, list_any_at}
use Rattle.std.proofs.lemmas.List.Quantifiers.{position-Some}
use Rattle.wvalues.specs.declared.value.Value.{Value}
use Rattle.wvalues.specs.Meaning.{Meaning, meaning}
use Rattle.wvalues.specs.Sameness.{meaning_decides, same_meaning}
use Rattle.wframe.specs.Peers.{key_at}
use Rattle.wrows.specs.Columns.{Row}
use Rattle.wrows.specs.Laid.{rows_seen}
use Rattle.wrows.proofs.RowFacts.{laid_length, laid_rows, row_at}
use Rattle.wgroupby.specs.Sets.{is_among}
use Rattle.wgroup.specs.declared.keyed.GroupingRows.{GroupingRows}
use Rattle.wgroup.specs.declared.group_slots.GroupTable.{GroupTable}
use Rattle.wgroup.specs.Grouping.{SetColumns, group_key}
use Rattle.wgroup.specs.Sight.{first_of, key_in}
use Rattle.wgroup.specs.Table.{AreMet, HasKeys, Holds, alike, apart_after, hash_of_key, is_of_group, key_hash, looked_at, looks_after, slot_of}
use Rattle.wgroup.proofs.GroupFacts.{group_keys_wide}
use Rattle.wgroup.proofs.LeaderFacts.{in_order}
use Rattle.wgroup.proofs.NumberFacts.{are_equal}
use Rattle.wgroup.proofs.SeenFacts.{agree_decides, agree_equiv}
use Rattle.wgroup.proofs.SightFacts.{any_implied, firsts_known, firsts_new, found_at, number_known, stands_within}

or_right : (a b : Bool) → b ≡ true → (a || b) ≡ true
or_right true b h = refl
or_right false b h = h

or_left : (a b : Bool) → a ≡ true → (a || b) ≡ true
or_left true b h = refl
or_left false b h = absurd (true≢false (sym h))

-- a number stays where another one is put over
stays : (xs : List ℕ) (i x g : ℕ) → get_or xs i 0 ≢ g → is_among g xs ≡ true → is_among g (set xs i x) ≡ true
stays [] i x g d h = absurd (true≢false (sym h))
stays (y ∷ ys) zero x g d h = go (eqb_tells y g) h
  where
    go : ((eqb y g ≡ true) × (y ≡ g)) ⊎ ((eqb y g ≡ false) × (y ≢ g)) → (y == g || is_among g ys) ≡ true → (x == g || is_among g ys) ≡ true
    go (inl (t, q)) e = absurd (d q)
    go (inr (f, n)) e = or_right (x == g) (is_among g ys) (sym (ap (λ b. b || is_among g ys) f) ∙ e)
stays (y ∷ ys) (suc i) x g d h = go (y == g) h (stays ys i x g d)
  where
    go : (b : Bool) → (b || is_among g ys) ≡ true → (is_among g ys ≡ true → is_among g (set ys i x) ≡ true)
        → (b || is_among g (set ys i x)) ≡ true
    go true e more = refl
    go false e more = more e

put_there : (xs : List ℕ) (i x : ℕ) → i < length xs → is_among x (set xs i x) ≡ true
put_there xs i x h =
    list_any_at (λ p. p == x) (set xs i x) i 0 (let l : length (set xs i x) ≡ length xs = length-set xs i x in
    omega (arith, l, h)) (are_equal (get_or (set xs i x) i 0) x (get_or-set_same xs i x 0 h))

-- the slots from one on, where a number is put into one of them
slots_set : (slots : List ℕ) (first step x : ℕ) → step < 8 → take 8 (drop first (set slots (first + step) x))
    ≡ set (take 8 (drop first slots)) step x
slots_set slots first step x h = ap (take 8) (drop-set-add first slots step x) ∙ take-set-lt 8 (drop first slots) step x h

near_wide : (slots : List ℕ) (first step : ℕ) → step < 8 → first + 8 ≤ length slots → step < length (take 8 (drop first slots))
near_wide slots first step few wide =
    let d : length (drop first slots) ≡ length slots - first = length-drop first slots in
    let l : length (take 8 (drop first slots)) ≡ 8 = length-take-le 8 (drop first slots) (omega (arith, d, wide)) in
    omega (arith, few, l)

-- the slot that is free
pub free_near : (slots : List ℕ) (first groups step : ℕ) → first + 8 ≤ length slots
    → position (nat_le groups) (take 8 (drop first slots)) ≡ Some step → (step < 8) × (groups ≤ get_or slots (first + step) 0)
free_near slots first groups step wide found =
    let here = position-Some (nat_le groups) (take 8 (drop first slots)) step 0 found in
    let d : length (drop first slots) ≡ length slots - first = length-drop first slots in
    let l : length (take 8 (drop first slots)) ≡ 8 = length-take-le 8 (drop first slots) (omega (arith, d, wide)) in
    let few : step < 8 = omega (arith, here.0, l) in
    let free : groups ≤ get_or (take 8 (drop first slots)) step 0 = leb-true groups (get_or (take 8 (drop first slots)) step 0) here.1 in
    (few, subst (λ n. groups ≤ n) (get_or-take 8 (drop first slots) step 0 few ∙ get_or-drop first slots step 0) free)

stays_near : (slots : List ℕ) (first k x g : ℕ) → get_or slots k 0 ≢ g → is_among g (take 8 (drop first slots)) ≡ true
    → is_among g (take 8 (drop first (set slots k x))) ≡ true
stays_near slots first k x g d h = go (in_order k first)
  where
    behind : (j : ℕ) → first + j ≡ k → (j < 8) ⊎ ((j ≡ 8) ⊎ (8 < j)) → is_among g (take 8 (drop first (set slots (first + j) x))) ≡ true
    behind j q (inl l) =
        ap (is_among g) (slots_set slots first j x l)
        ∙ stays (take 8 (drop first slots)) j x g
        (λ e. d (ap (λ i. get_or slots i 0) (sym q) ∙ sym (get_or-drop first slots j 0)
        ∙ sym (get_or-take 8 (drop first slots) j 0 l) ∙ e)) h
    behind j q (inr (inl e)) = ap (λ l. is_among g (take 8 l)) (drop-set-add first slots j x)
        ∙ ap (is_among g) (take-set-le 8 (drop first slots) j x (omega (arith, e))) ∙ h
    behind j q (inr (inr l)) = ap (λ l. is_among g (take 8 l)) (drop-set-add first slots j x)
        ∙ ap (is_among g) (take-set-le 8 (drop first slots) j x (omega (arith, l))) ∙ h

    from : first ≤ k → is_among g (take 8 (drop first (set slots k x))) ≡ true
    from l =
        let q : first + (k - first) ≡ k = omega (arith, l) in
        ap (λ i. is_among g (take 8 (drop first (set slots i x)))) (sym q) ∙ behind (k - first) q (in_order (k - first) 8)

    go : (k < first) ⊎ ((k ≡ first) ⊎ (first < k)) → is_among g (take 8 (drop first (set slots k x))) ≡ true
    go (inl l) = ap (λ l. is_among g (take 8 l)) (drop-set-lt first slots k x l) ∙ h
    go (inr (inl q)) = from (omega (arith, q))
    go (inr (inr l)) = from (omega (arith, l))

-- the keys of the groups, one behind the other
module _ (keyed : GroupingRows) (firsts : List ℕ) (keys : List Value) (has : HasKeys keyed firsts keys) where
  abbrev columns : SetColumns
  columns = keyed.columns.now

  abbrev seen : List Row
  seen = rows_seen keyed.rows.now

  abbrev width : ℕ
  width = length columns

  long : length keys ≡ length firsts * width
  long = sym (length-map keys meaning) ∙ ap length has ∙ laid_length width (group_key columns seen) firsts
      (group_keys_wide columns seen firsts)

  pub key_within : (number : ℕ) → number < length firsts → number * width + width ≤ length keys
  key_within number h =
      let most : suc number * width ≤ length firsts * width = mul-le-mul_right width (omega (arith, h)) in
      let more : suc number * width ≡ number * width + width = omega arith in
      omega (arith, most, more, long)

  key_of : (number : ℕ) → number < length firsts → map meaning (take width (drop (number * width) keys))
      ≡ group_key columns seen (get_or firsts number 0)
  key_of number h =
      sym (row_at width (length firsts) keys number h)
      ∙ ap (λ l. get_or l number []) (laid_rows width (group_key columns seen) firsts (group_keys_wide columns seen firsts) keys has)
      ∙ get_or-map (group_key columns seen) firsts number 0 [] h

  -- a row is of the group whose key it has
  pub same_key : (row number : ℕ) (key : List Value) → number < length firsts
      → key ≡ take width (drop (number * width) keys)
      → pointwise same_meaning (group_key columns seen row) (map meaning key) ≡ alike keyed row (get_or firsts number 0)
  same_key row number key h is =
      ap (λ k. pointwise same_meaning (group_key columns seen row) k) (ap (map meaning) is ∙ key_of number h)
      ∙ one_answer (pointwise same_meaning (group_key columns seen row) (group_key columns seen (get_or firsts number 0)))
      (alike keyed row (get_or firsts number 0))
      (pointwise_decides meaning_decides (group_key columns seen row) (group_key columns seen (get_or firsts number 0)))
      (agree_decides columns seen row (get_or firsts number 0))

  pub is_one : (row number : ℕ) (key : List Value) → number < length firsts → key ≡ take width (drop (number * width) keys)
      → pointwise same_meaning (group_key columns seen row) (map meaning key) ≡ is_of_group keyed firsts row number
  is_one row number key h is = same_key row number key h is ∙ ap (λ b. b && alike keyed row (get_or firsts number 0))
      (sym (lt-ltb number (length firsts) h))

  -- a group more
  pub keys_more : (row : ℕ) (cells : List Meaning) (after : List Value) → cells ≡ key_at seen row
      → map meaning after ≡ map meaning keys ++ key_in columns cells → HasKeys keyed (firsts ++ row ∷ []) after
  keys_more row cells after is made =
      made ∙ ap (λ l. l ++ key_in columns cells) has ∙ ap (λ r. flat_map (group_key columns seen) firsts ++ key_in columns r) is
      ∙ ap (λ l. flat_map (group_key columns seen) firsts ++ l) (sym (append-nil (group_key columns seen row)))
      ∙ sym (flat_map-append (group_key columns seen) firsts (row ∷ []))

module _ (keyed : GroupingRows) (firsts slots apart : List ℕ) where
  split : (first g : ℕ) → is_among g (looked_at slots apart first) ≡ (is_among g (take 8 (drop first slots)) || is_among g apart)
  split first g = list_any-append (λ p. p == g) (take 8 (drop first slots)) apart

  -- rows of one key are looked for from one slot on
  one_slot : (row other : ℕ) → alike keyed row other ≡ true → slot_of slots (key_hash keyed row) ≡ slot_of slots (key_hash keyed other)
  one_slot row other e = ap (λ key. slot_of slots (hash_of_key key))
      ((agree_decides keyed.columns.now (rows_seen keyed.rows.now) row other).0 e)

  module _ (met : AreMet keyed firsts slots apart) (first row : ℕ) (is : first ≡ slot_of slots (key_hash keyed row)) where
    -- a key that is in none of its slots, nor apart, is of no group
    pub missing : list_any (is_of_group keyed firsts row) (looked_at slots apart first) ≡ false → list_any (alike keyed row) firsts ≡ false
    missing none = go (list_any (alike keyed row) firsts) refl
      where
        go : (b : Bool) → list_any (alike keyed row) firsts ≡ b → b ≡ false
        go false e = refl
        go true e =
            let g = position_or_len (alike keyed row) firsts in
            let within : g < length firsts = stands_within (alike keyed row) firsts e in
            let same : alike keyed row (get_or firsts g 0) ≡ true = found_at (alike keyed row) firsts e in
            let stands : is_among g (looked_at slots apart first) ≡ true =
            ap (λ s. is_among g (looked_at slots apart s)) (is ∙ one_slot row (get_or firsts g 0) same) ∙ met g within in
            let itself : is_of_group keyed firsts row g ≡ true =
            and_from (nat_lt g (length firsts)) (alike keyed row (get_or firsts g 0)) (lt-ltb g (length firsts) within) same in
            let other : (x : ℕ) → (x == g) ≡ true → is_of_group keyed firsts row x ≡ true = λ x q. by x (eqb_tells x g) q itself in
            absurd (true≢false (sym (any_implied (λ p. p == g) (is_of_group keyed firsts row) other
            (looked_at slots apart first) stands) ∙ none))
          where
            by : (x : ℕ) → ((eqb x (position_or_len (alike keyed row) firsts) ≡ true)
                × (x ≡ position_or_len (alike keyed row) firsts))
                ⊎ ((eqb x (position_or_len (alike keyed row) firsts) ≡ false) × (x ≢ position_or_len (alike keyed row) firsts))
                → (x == position_or_len (alike keyed row) firsts) ≡ true
                → is_of_group keyed firsts row (position_or_len (alike keyed row) firsts) ≡ true → is_of_group keyed firsts row x ≡ true
            by x (inl (t, q)) e i = ap (is_of_group keyed firsts row) q ∙ i
            by x (inr (f, n)) e i = absurd (true≢false (sym e ∙ f))

    earlier : (g : ℕ) → g < length firsts → get_or (firsts ++ row ∷ []) g 0 ≡ get_or firsts g 0
    earlier g h = get_or_append_left firsts (row ∷ []) 0 g h

    newest : (g : ℕ) → g ≡ length firsts → get_or (firsts ++ row ∷ []) g 0 ≡ row
    newest g q = ap (λ k. get_or (firsts ++ row ∷ []) k 0) q ∙ get_or-append_seam firsts row [] 0

    grown : (g : ℕ) → g < length (firsts ++ row ∷ []) → g < length firsts + 1
    grown g h = let l : length (firsts ++ row ∷ []) ≡ length firsts + 1 = length-append firsts (row ∷ []) in omega (arith, h, l)

    -- the groups with one more, whose number is put into one of its slots in which none stands
    pub met_near : (step : ℕ) → step < 8 → first + 8 ≤ length slots → length firsts ≤ get_or slots (first + step) 0
        → AreMet keyed (firsts ++ row ∷ []) (set slots (first + step) (length firsts)) apart
    met_near step few wide free g h = go (in_order g (length firsts))
      where
        after : List ℕ
        after = set slots (first + step) (length firsts)

        from : (r s : ℕ) → r ≡ s → slot_of after (key_hash keyed r) ≡ slot_of slots (key_hash keyed s)
        from r s q = ap (λ n. bit_and (key_hash keyed r) (n - 8)) (length-set slots (first + step) (length firsts))
            ∙ ap (λ r. slot_of slots (key_hash keyed r)) q

        halves : (s : ℕ) → is_among g (looked_at after apart s) ≡ (is_among g (take 8 (drop s after)) || is_among g apart)
        halves s = list_any-append (λ p. p == g) (take 8 (drop s after)) apart

        known : (s : ℕ) (b : Bool) → is_among g (take 8 (drop s slots)) ≡ b → (b || is_among g apart) ≡ true
            → g < length firsts → (is_among g (take 8 (drop s after)) || is_among g apart) ≡ true
        known s true e t l = or_left (is_among g (take 8 (drop s after))) (is_among g apart)
            (stays_near slots s (first + step) (length firsts) g (λ q. omega (arith, q, l, free)) e)
        known s false e t l = or_right (is_among g (take 8 (drop s after))) (is_among g apart) t

        go : (g < length firsts) ⊎ ((g ≡ length firsts) ⊎ (length firsts < g))
            → is_among g (looked_at after apart (slot_of after (key_hash keyed (get_or (firsts ++ row ∷ []) g 0)))) ≡ true
        go (inl l) =
            let s = slot_of slots (key_hash keyed (get_or firsts g 0)) in
            ap (λ s. is_among g (looked_at after apart s)) (from (get_or (firsts ++ row ∷ []) g 0) (get_or firsts g 0) (earlier g l))
            ∙ halves s ∙ known s (is_among g (take 8 (drop s slots))) refl (sym (split s g) ∙ met g l) l
        go (inr (inl q)) =
            ap (λ s. is_among g (looked_at after apart s)) (from (get_or (firsts ++ row ∷ []) g 0) row (newest g q) ∙ sym is)
            ∙ halves first
            ∙ or_left (is_among g (take 8 (drop first after))) (is_among g apart)
            (ap (is_among g) (slots_set slots first step (length firsts) few)
            ∙ ap (λ k. is_among k (set (take 8 (drop first slots)) step (length firsts))) q
            ∙ put_there (take 8 (drop first slots)) step (length firsts) (near_wide slots first step few wide))
        go (inr (inr l)) = absurd (let m : g < length firsts + 1 = grown g h in omega (arith, m, l))

    -- and where it stands apart
    pub met_apart : AreMet keyed (firsts ++ row ∷ []) slots (apart ++ length firsts ∷ [])
    met_apart g h = go (in_order g (length firsts))
      where
        halves : (s : ℕ) → is_among g (looked_at slots (apart ++ length firsts ∷ []) s)
            ≡ (is_among g (take 8 (drop s slots)) || (is_among g apart || (length firsts == g || false)))
        halves s =
            list_any-append (λ p. p == g) (take 8 (drop s slots)) (apart ++ length firsts ∷ [])
            ∙ ap (λ b. is_among g (take 8 (drop s slots)) || b) (list_any-append (λ p. p == g) apart (length firsts ∷ []))

        both : (a b c : Bool) → (a || b) ≡ true → (a || (b || c)) ≡ true
        both true b c e = refl
        both false true c e = refl
        both false false c e = absurd (true≢false (sym e))

        last : (a b c : Bool) → c ≡ true → (a || (b || (c || false))) ≡ true
        last true b c e = refl
        last false true c e = refl
        last false false true e = refl
        last false false false e = e

        go : (g < length firsts) ⊎ ((g ≡ length firsts) ⊎ (length firsts < g))
            → is_among g (looked_at slots (apart ++ length firsts ∷ [])
            (slot_of slots (key_hash keyed (get_or (firsts ++ row ∷ []) g 0)))) ≡ true
        go (inl l) =
            let s = slot_of slots (key_hash keyed (get_or firsts g 0)) in
            ap (λ r. is_among g (looked_at slots (apart ++ length firsts ∷ []) (slot_of slots (key_hash keyed r)))) (earlier g l)
            ∙ halves s ∙ both (is_among g (take 8 (drop s slots))) (is_among g apart) (length firsts == g || false)
            (sym (split s g) ∙ met g l)
        go (inr (inl q)) =
            let s = slot_of slots (key_hash keyed (get_or (firsts ++ row ∷ []) g 0)) in
            halves s ∙ last (is_among g (take 8 (drop s slots))) (is_among g apart) (length firsts == g)
            (are_equal (length firsts) g (sym q))
        go (inr (inr l)) = absurd (let m : g < length firsts + 1 = grown g h in omega (arith, m, l))

-- the number of a group more is put where its key is looked for
pub record IsPut (keyed : GroupingRows) (row : ℕ) (table put : GroupTable) : Type 0 where
  pub firsts : put.firsts.items ≡ table.firsts.items
  pub keys : put.keys.items ≡ table.keys.items
  pub long : length put.slots.items ≡ length table.slots.items
  pub met : AreMet keyed (table.firsts.items ++ row ∷ []) put.slots.items put.apart.items
  pub more : length put.apart.items ≤ suc (length table.apart.items)

-- a group more stands apart where all of its slots are taken
module _ (table : GroupTable) (first : ℕ) where
  abbrev is_free : ℕ → Bool
  is_free = nat_le (length table.firsts.items)

  abbrev near : List ℕ
  near = take 8 (drop first table.slots.items)

  abbrev apart_where : Bool → List ℕ
  apart_where free = if free then table.apart.items else table.apart.items ++ length table.firsts.items ∷ []

  pub apart_still : (step : ℕ) → position is_free near ≡ Some step → table.apart.items ≡ apart_after table first
  apart_still step e = let here = position-Some is_free near step 0 e in
      sym (ap apart_where (list_any_at is_free near step 0 here.0 here.1))

  pub apart_more : position is_free near ≡ None → table.apart.items ++ length table.firsts.items ∷ [] ≡ apart_after table first
  apart_more e = sym (ap apart_where (go (list_any is_free near) refl))
    where
      go : (b : Bool) → list_any is_free near ≡ b → b ≡ false
      go false q = refl
      go true q = absurd (true≢false (ap is_some
          (sym (ap (λ b. cond b (Some (position_or_len is_free near)) None)
          (lt-ltb (position_or_len is_free near) (length near) (stands_within is_free near q))) ∙ e)))

-- the count of looks

-- a look adds no more than there are groups apart
pub looks_more : (b c : Bool) (x n looks : ℕ) → looks ≡ (if b then x else if c then x else min (x + n) (2 ^ 64 - 1)) → looks ≤ x + n
looks_more true c x n looks is = omega (arith, is)
looks_more false true x n looks is = omega (arith, is)
looks_more false false x n looks is = omega (arith, is, min-le_left (x + n) (2 ^ 64 - 1))

module _ (keyed : GroupingRows) (row : ℕ) (table : GroupTable) where
  abbrev is_near : ℕ → Bool
  is_near first = list_any (is_of_group keyed table.firsts.items row) (take 8 (drop first table.slots.items))

  pub looks_near : (first : ℕ) → is_near first ≡ true → table.looks ≡ looks_after keyed table first row
  looks_near first e = sym (ap (λ b. if b then table.looks else min (table.looks + length table.apart.items) (2 ^ 64 - 1)) e)

  pub looks_apart : (first : ℕ) → is_near first ≡ false
      → min (table.looks + length table.apart.items) (2 ^ 64 - 1) ≡ looks_after keyed table first row
  looks_apart first e = sym (ap (λ b. if b then table.looks else min (table.looks + length table.apart.items) (2 ^ 64 - 1)) e)

  -- where a row is of the group in the first of its slots
  pub looks_first : (first number : ℕ) (near : List ℕ) → first + 8 ≤ length table.slots.items
      → near ≡ take 8 (drop first table.slots.items)
      → is_of_group keyed table.firsts.items row (get_or near 0 number) ≡ true → table.looks ≡ looks_after keyed table first row
  looks_first first number near wide is e =
      let some : 0 < length (take 8 (drop first table.slots.items)) = near_wide table.slots.items first 0 (omega arith) wide in
      looks_near first (list_any_at (is_of_group keyed table.firsts.items row) (take 8 (drop first table.slots.items)) 0 number some
      (ap (is_of_group keyed table.firsts.items row) (sym (ap (λ l. get_or l 0 number) is)) ∙ e))

module _ (keyed : GroupingRows) (row : ℕ) (table : GroupTable) (held : Holds keyed row table) where
  -- looks are no part of what a table holds
  pub held_still : (after : GroupTable) → after ≡ record table { looks = after.looks } → Holds keyed row after
  held_still after e = subst (Holds keyed row) (sym e) (record {
    groups = held.groups;
    keys = held.keys;
    wide = held.wide;
    met = held.met;
    fewer = held.fewer;
  })

  within : (g : ℕ) → is_of_group keyed table.firsts.items row g ≡ true → g < length (first_of (alike keyed) row)
  within g e = subst (λ l. g < length l) held.groups (ltb-true g (length table.firsts.items)
      (first_so (nat_lt g (length table.firsts.items)) (alike keyed row (get_or table.firsts.items g 0)) e))

  agrees : (g : ℕ) → is_of_group keyed table.firsts.items row g ≡ true → alike keyed row (get_or (first_of (alike keyed) row) g 0) ≡ true
  agrees g e =
      ap (λ l. alike keyed row (get_or l g 0)) (sym held.groups) ∙ second_so (nat_lt g (length table.firsts.items))
      (alike keyed row (get_or table.firsts.items g 0)) e

  none_more : (g : ℕ) → is_of_group keyed table.firsts.items row g ≡ true → first_of (alike keyed) (row + 1) ≡ first_of (alike keyed) row
  none_more g e =
      firsts_known (alike keyed) (agree_equiv keyed.columns.now (rows_seen keyed.rows.now)) row
      (list_any_at (alike keyed row) (first_of (alike keyed) row) g 0 (within g e) (agrees g e))

  pub held_known : (after : GroupTable) (g : ℕ) → after ≡ record table { looks = after.looks }
      → is_of_group keyed table.firsts.items row g ≡ true → Holds keyed (row + 1) after
  held_known after g e known = subst (Holds keyed (row + 1)) (sym e) (record {
    groups =
        held.groups ∙ sym (none_more g known);
    keys = held.keys;
    wide = held.wide;
    met = held.met;
    fewer = held.fewer;
  })

  pub number_is : (g : ℕ) → is_of_group keyed table.firsts.items row g ≡ true
      → g ≡ position_or_len (alike keyed row) (first_of (alike keyed) (row + 1))
  number_is g e =
      sym (ap (position_or_len (alike keyed row)) (none_more g e) ∙ number_known (alike keyed)
      (agree_equiv keyed.columns.now (rows_seen keyed.rows.now)) row row g (within g e) (agrees g e))

  module _ (none : list_any (alike keyed row) table.firsts.items ≡ false) where
    one_more : first_of (alike keyed) (row + 1) ≡ table.firsts.items ++ row ∷ []
    one_more =
        firsts_new (alike keyed) (agree_equiv keyed.columns.now (rows_seen keyed.rows.now)) row
        (ap (list_any (alike keyed row)) (sym held.groups) ∙ none)
        ∙ ap (λ l. l ++ row ∷ []) (sym held.groups)

    pub held_new : (after : GroupTable) → after.firsts.items ≡ table.firsts.items ++ row ∷ []
        → HasKeys keyed (table.firsts.items ++ row ∷ []) after.keys.items → length after.slots.items ≡ length table.slots.items
        → AreMet keyed (table.firsts.items ++ row ∷ []) after.slots.items after.apart.items
        → length after.apart.items ≤ suc (length table.apart.items) → Holds keyed (row + 1) after
    held_new after f k l m more =
        let longer : length after.firsts.items ≡ suc (length table.firsts.items) =
        omega (arith, ap length f, length-append table.firsts.items (row ∷ [])) in
        record {
          groups = f ∙ sym one_more;
          keys = subst (λ firsts. HasKeys keyed firsts after.keys.items) (sym f) k;
          wide = subst (λ n. 8 ≤ n) (sym l) held.wide;
          met = subst (λ firsts. AreMet keyed firsts after.slots.items after.apart.items) (sym f) m;
          fewer = omega (arith, more, longer, held.fewer);
        }

    pub number_new : length table.firsts.items ≡ position_or_len (alike keyed row) (first_of (alike keyed) (row + 1))
    number_new =
        let eqv = agree_equiv keyed.columns.now (rows_seen keyed.rows.now) in
        let n = length table.firsts.items in
        let long : length (first_of (alike keyed) (row + 1)) ≡ n + 1 = ap length one_more ∙ length-append table.firsts.items (row ∷ []) in
        let itself : alike keyed row (get_or (first_of (alike keyed) (row + 1)) n 0) ≡ true
        = ap (λ l. alike keyed row (get_or l n 0)) one_more
        ∙ ap (alike keyed row) (get_or-append_seam table.firsts.items row [] 0) ∙ eqv.refl row in
        sym (number_known (alike keyed) eqv (row + 1) row n (omega (arith, long)) itself)

pub if_ok : {E : Type 0} (r : Result ℕ E) (m n : ℕ) → m ≡ n → IfOk r (λ x. x ≡ m) → IfOk r (λ x. x ≡ n)
if_ok (Ok x) m n e h = h ∙ e
if_ok (Err e) m n q h = tt
