-- The pairs of a level.
use Rattle.std.proofs.Common.{◌≡◌, ℕ, zero, suc, ◌+◌, ◌-◌, ◌*◌, ◌/◌, ◌%◌, ◌<◌, ◌≤◌, List, [], ◌∷◌, ◌++◌, length}
use Rattle.std.proofs.Common.{get_or, take, drop, sym, ap, ◌∙◌, refl, arith, subst, append_assoc}
use Rattle.std.specs.Prelude.{slice_range, All}
use Rattle.std.specs.List.{fold, AllByRecursion}
use Rattle.std.proofs.lemmas.List.{drop_more, take_more, get_or-drop, length-drop, append-nil}
use Rattle.std.proofs.lemmas.List.Elements.{recursion_from_All, All-drop, All-take}
use Rattle.std.proofs.lemmas.List.Sums.{fold-append}
use Rattle.wslide.specs.Laws.{FoldLaws, total}
use Rattle.std.proofs.lemmas.Bool.{cases_lt}
use Rattle.std.proofs.Common.{inl, inr}
use Rattle.wslide.specs.Tree.{paired}
use Rattle.wslide.proofs.Totals.{total_is, fold_from}

-- a span's first place, and the rest
pub range_first : {P : Type 0} (xs : List P) (a b : ℕ) (d : P) → a < b → b ≤ length xs
    → slice_range xs a b ≡ get_or xs a d ∷ slice_range xs (a + 1) b
range_first xs a b d h k =
    let n : b - a ≡ suc (b - (a + 1)) = omega arith in
    let l : a < length xs = omega arith in
    ap (λ ys. take (b - a) ys) (drop_more xs a d l) ∙ ap (λ m. take m (get_or xs a d ∷ drop (a + 1) xs)) n

-- a span's last place, and what is before it
pub range_last : {P : Type 0} (xs : List P) (a b : ℕ) (d : P) → a ≤ b → b < length xs
    → slice_range xs a (b + 1) ≡ slice_range xs a b ++ get_or xs b d ∷ []
range_last xs a b d h k =
    let n : b + 1 - a ≡ b - a + 1 = omega arith in
    let l : b - a < length (drop a xs) = simp length-drop (omega arith) in
    let at : a + (b - a) ≡ b = omega arith in
    ap (λ m. take m (drop a xs)) n ∙ take_more (drop a xs) (b - a) d l
    ∙ ap (λ x. take (b - a) (drop a xs) ++ x ∷ []) (get_or-drop a xs (b - a) d ∙ ap (λ i. get_or xs i d) at)

module _ {P : Type 0} (joined : P → P → P) where
  pub length-paired : (xs : List P) → length (paired joined xs) ≡ length xs / 2
  length-paired [] = refl
  length-paired (x ∷ []) = refl
  length-paired (x ∷ y ∷ zs) = let e : length (paired joined zs) ≡ length zs / 2 = length-paired zs in omega arith

  pub drop-paired : (a : ℕ) (xs : List P) → drop a (paired joined xs) ≡ paired joined (drop (a + a) xs)
  drop-paired zero xs = refl
  drop-paired (suc a) [] = let e : suc a + suc a ≡ suc (suc (a + a)) = omega arith in ap (λ n. paired joined (drop n [])) (sym e)
  drop-paired (suc a) (x ∷ []) = let e : suc a + suc a ≡ suc (suc (a + a)) = omega arith in
      ap (λ n. paired joined (drop n (x ∷ []))) (sym e)
  drop-paired (suc a) (x ∷ y ∷ zs) = let e : suc a + suc a ≡ suc (suc (a + a)) = omega arith in
      drop-paired a zs ∙ ap (λ n. paired joined (drop n (x ∷ y ∷ zs))) (sym e)

  pub paired_is : (is_part : P → Type 0) → ((x y : P) → is_part x → is_part y → is_part (joined x y)) → (xs : List P)
      → AllByRecursion is_part xs → AllByRecursion is_part (paired joined xs)
  paired_is is_part closed [] hs = hs
  paired_is is_part closed (x ∷ []) hs = hs.1
  paired_is is_part closed (x ∷ y ∷ zs) hs = (closed x y hs.0 hs.1.0, paired_is is_part closed zs hs.1.1)

  -- one pair more
  pub pairs_more : (xs before after : List P) (i : ℕ) (x y z : P) → 2 * i + 1 < length xs → x ≡ get_or xs (2 * i) x
      → y ≡ get_or xs (2 * i + 1) y → z ≡ joined x y → after ≡ before ++ z ∷ [] → before ++ paired joined (drop (2 * i) xs)
      ≡ paired joined xs → after ++ paired joined (drop (2 * (i + 1)) xs) ≡ paired joined xs
  pairs_more xs before after i x y z h ex ey ez e inv =
      let l : 2 * i < length xs = omega arith in
      let n : 2 * (i + 1) ≡ 2 * i + 1 + 1 = omega arith in
      let two : drop (2 * i) xs ≡ x ∷ y ∷ drop (2 * i + 1 + 1) xs =
      drop_more xs (2 * i) x l ∙ ap (λ w. w ∷ drop (2 * i + 1) xs) (sym ex)
      ∙ ap (λ ws. x ∷ ws) (drop_more xs (2 * i + 1) y h ∙ ap (λ w. w ∷ drop (2 * i + 1 + 1) xs) (sym ey)) in
      ap (λ ws. ws ++ paired joined (drop (2 * (i + 1)) xs)) (e ∙ ap (λ w. before ++ w ∷ []) ez)
      ∙ append_assoc before (joined x y ∷ []) (paired joined (drop (2 * (i + 1)) xs))
      ∙ ap (λ m. before ++ (joined x y ∷ paired joined (drop m xs))) n
      ∙ ap (λ ws. before ++ paired joined ws) (sym two)
      ∙ inv

  -- fewer than two have no pairs
  pub no_pairs : (xs : List P) → length xs ≤ 1 → paired joined xs ≡ []
  no_pairs [] h = refl
  no_pairs (x ∷ []) h = refl
  no_pairs (x ∷ y ∷ zs) h = absurd (omega arith)

  pub pairs_all : (xs before : List P) (i : ℕ) → length xs / 2 ≤ i → before ++ paired joined (drop (2 * i) xs)
      ≡ paired joined xs → before ≡ paired joined xs
  pairs_all xs before i h inv =
      let l : length (drop (2 * i) xs) ≤ 1 = simp length-drop (omega arith) in
      sym (append-nil before) ∙ ap (λ ws. before ++ ws) (sym (no_pairs (drop (2 * i) xs) l)) ∙ inv

module _ {P : Type 0} {is_part : P → Type 0} {neutral : P} {joined : P → P → P} (laws : FoldLaws is_part neutral joined) where
  fold_paired : (n : ℕ) (acc : P) (xs : List P) → is_part acc → AllByRecursion is_part xs → n + n ≤ length xs
      → fold joined acc (take n (paired joined xs)) ≡ fold joined acc (take (n + n) xs)
  fold_paired zero acc xs ha hs h = refl
  fold_paired (suc n) acc [] ha hs h = absurd (omega arith)
  fold_paired (suc n) acc (x ∷ []) ha hs h = absurd (omega arith)
  fold_paired (suc n) acc (x ∷ y ∷ zs) ha hs h =
      let e : suc n + suc n ≡ suc (suc (n + n)) = omega arith in
      let within : n + n ≤ length zs = omega arith in
      ap (λ p. fold joined p (take n (paired joined zs))) (sym (laws.assoc acc x y ha hs.0 hs.1.0))
      ∙ fold_paired n (joined (joined acc x) y) zs (laws.closed (joined acc x) y (laws.closed acc x ha hs.0) hs.1.0) hs.1.1 within
      ∙ ap (λ m. fold joined acc (take m (x ∷ y ∷ zs))) (sym e)

  -- the fold of a span of pairs is that of the span below it
  pub total-paired : (xs : List P) (a b c d : ℕ) → All is_part xs → a ≤ b → c ≡ a + a → d ≡ b + b → d ≤ length xs
      → total neutral joined (slice_range (paired joined xs) a b) ≡ total neutral joined (slice_range xs c d)
  total-paired xs a b c d hs h e f k =
      let n : d - c ≡ (b - a) + (b - a) = omega arith in
      let l : (b - a) + (b - a) ≤ length (drop (a + a) xs) = simp length-drop (omega arith) in
      ap (λ ys. total neutral joined (take (b - a) ys)) (drop-paired joined a xs)
      ∙ fold_paired (b - a) neutral (drop (a + a) xs) laws.neutral_is (recursion_from_All is_part (drop (a + a) xs)
      (All-drop is_part (a + a) xs hs)) l
      ∙ ap (λ m. total neutral joined (take m (drop (a + a) xs))) (sym n)
      ∙ ap (λ m. total neutral joined (take (d - c) (drop m xs))) (sym e)

  range_is : (xs : List P) (a b : ℕ) → All is_part xs → All is_part (slice_range xs a b)
  range_is xs a b hs = All-take is_part (b - a) (drop a xs) (All-drop is_part a xs hs)

  pub total_range_is : (xs : List P) (a b : ℕ) → All is_part xs → is_part (total neutral joined (slice_range xs a b))
  total_range_is xs a b hs = total_is laws (slice_range xs a b) (range_is xs a b hs)

  total-cons : (x : P) (xs : List P) → is_part x → All is_part xs → total neutral joined (x ∷ xs) ≡ joined x (total neutral joined xs)
  total-cons x xs hx hs = ap (λ p. fold joined p xs) (laws.left_neutral x hx) ∙ fold_from laws x xs hx (recursion_from_All is_part xs hs)

  -- the first part of a span goes over to what lies left of it
  pub take_first : (xs : List P) (a b : ℕ) (x left z : P) → All is_part xs → is_part left → a < b → b ≤ length xs
      → x ≡ get_or xs a x → z ≡ joined left x → joined z (total neutral joined (slice_range xs (a + 1) b))
      ≡ joined left (total neutral joined (slice_range xs a b))
  take_first xs a b x left z hs hl h k e ez =
      let l : a < length xs = omega arith in
      let hx : is_part x = subst is_part (sym e) (hs a x l) in
      let rest = total neutral joined (slice_range xs (a + 1) b) in
      ap (λ p. joined p rest) ez
      ∙ laws.assoc left x rest hl hx (total_range_is xs (a + 1) b hs)
      ∙ ap (joined left) (sym (ap (total neutral joined) (range_first xs a b x h k ∙ ap (λ p. p ∷ slice_range xs (a + 1) b)
      (sym e)) ∙ total-cons x (slice_range xs (a + 1) b) hx (range_is xs (a + 1) b hs)))

  -- the last part of a span goes over to what lies right of it
  pub take_last : (xs : List P) (a b t : ℕ) (x right z : P) → All is_part xs → is_part right → a ≤ b → t ≡ b + 1
      → t ≤ length xs → x ≡ get_or xs b x → z ≡ joined x right → joined (total neutral joined (slice_range xs a b)) z
      ≡ joined (total neutral joined (slice_range xs a t)) right
  take_last xs a b t x right z hs hr h et k e ez =
      let l : b < length xs = omega arith in
      let hx : is_part x = subst is_part (sym e) (hs b x l) in
      let front = total neutral joined (slice_range xs a b) in
      ap (joined front) ez
      ∙ sym (laws.assoc front x right (total_range_is xs a b hs) hx hr)
      ∙ ap (λ p. joined p right)
      (sym (ap (λ m. total neutral joined (slice_range xs a m)) et
      ∙ ap (total neutral joined) (range_last xs a b x h l ∙ ap (λ p. slice_range xs a b ++ p ∷ []) (sym e))
      ∙ fold-append joined neutral (slice_range xs a b) (x ∷ [])))

  -- the fold of a span whose ends have partners is that of its pairs
  pub total-halved : (xs : List P) (a b : ℕ) → All is_part xs → a ≤ b → b ≤ length xs → (a < b → a % 2 ≡ 0)
      → (a < b → b % 2 ≡ 0) → total neutral joined (slice_range (paired joined xs) (a / 2) (b / 2))
      ≡ total neutral joined (slice_range xs a b)
  total-halved xs a b hs h k ea eb =
      elim (cases_lt a b) [
        | inl lt ↦
            let e : a % 2 ≡ 0 = ea lt in
            let f : b % 2 ≡ 0 = eb lt in
            total-paired xs (a / 2) (b / 2) a b hs (omega arith) (omega arith) (omega arith) k
        | inr same ↦
            let m : b / 2 - a / 2 ≡ 0 = omega arith in
            let n : b - a ≡ 0 = omega arith in
            ap (λ i. total neutral joined (take i (drop (a / 2) (paired joined xs)))) m
            ∙ sym (ap (λ i. total neutral joined (take i (drop a xs))) n)
      ]
