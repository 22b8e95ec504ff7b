-- What falls with a floor, and the live names of each block.
use Rattle.std.proofs.Common.{◌≡◌, ℕ, zero, suc, ◌<◌, ◌≤◌, ◌+◌, ◌-◌, ◌^◌, ◌||◌, ◌++◌, Bool, true, false, cond, not, List, [], ◌∷◌, length}
use Rattle.std.proofs.Common.{map, get_or, set, take, drop, refl, sym, subst, ap, ◌∙◌, arith, append_assoc, length-append}
use Rattle.std.proofs.lemmas.Bool.{or_parts, true≢false}
use Rattle.std.proofs.lemmas.List.{append-nil, map-append, take-append-drop, take_more}
use Rattle.std.proofs.lemmas.List.Elements.{filter-append}
use Rattle.wvalues.specs.Names.{NameParts}
use Rattle.wentries.specs.Knowledge.{is_above}
use Rattle.wentries.specs.Blocks.{flat, trimmed}
use Rattle.wentries.specs.Entries.{AreBehind, AreOriginsBelow, known_entries}
use Rattle.wentries.specs.Falls.{IsFall, lives_of, no_fall, standing}
use Rattle.wentries.specs.Keeping.{kept_in}
use Rattle.wentries.specs.declared.entries.Entry.{Entry}
use Rattle.wentries.specs.declared.fall.Fall.{Fall}
use Rattle.wentries.proofs.Lows.{kept_fewer, kept_none, under}
use Rattle.wentries.proofs.Origins.{AreBeside, behind_beside, beside_later, kept_all, origins_beside, untouched}

flat_append : (xs ys : List (List Entry)) → flat (xs ++ ys) ≡ flat xs ++ flat ys
flat_append [] ys = refl
flat_append (x ∷ xs) ys = ap (λ es. x ++ es) (flat_append xs ys) ∙ sym (append_assoc x (flat xs) (flat ys))

abbrev count : List Entry → ℕ
count b = length (kept_in b)

-- ---- one block

-- all its entries fall
pub fall_under : (n : NameParts) (a b : List Entry) (m : ℕ) → a ≡ b → under n b ≡ true → m ≡ length a
    → IsFall n (b ∷ []) (record { entries = m; whole = true; lives = true })
fall_under n a b m same h e = record {
  entries = λ few.
      let none : length (standing n (b ++ [])) ≡ 0 = ap (λ es. length (standing n es)) (append-nil b) ∙ ap length (kept_none n b h) in
      omega (arith, none, ap length (append-nil b), ap length same, e);
  whole = λ isnt. absurd (true≢false isnt);
  lives = λ isnt. absurd (true≢false isnt);
}

-- some stay
pub fall_part : (n : NameParts) (a b now : List Entry) (m : ℕ) (l : Bool) → a ≡ b → under n b ≡ false → now ≡ standing n a
    → m ≡ length a - length now → (l ≡ false → length (kept_in now) ≡ length (kept_in a))
    → IsFall n (b ∷ []) (record { entries = m; whole = false; lives = l })
fall_part n a b now m l same h is e still = record {
  entries = λ few.
      let left : length (standing n (b ++ [])) ≡ length now =
      ap (λ es. length (standing n es)) (append-nil b ∙ sym same) ∙ ap length (sym is) in
      omega (arith, left, ap length (append-nil b), ap length same, ap length is, kept_fewer n a, e);
  whole = λ isnt. append-nil (trimmed n b) ∙ part ∙ ap (standing n) (sym (append-nil b));
  lives = λ isnt. (
    refl,
    ap (λ m. m ∷ []) (ap (λ es. length (kept_in es)) (part ∙ ap (standing n) (sym same) ∙ sym is) ∙ still isnt
        ∙ ap (λ es. length (kept_in es)) same),
  );
}
  where
    part : trimmed n b ≡ standing n b
    part = ap (λ u. cond u b (standing n b)) h

-- ---- several blocks

pub fall_none : (n : NameParts) (bs : List (List Entry)) → AreBeside n (flat bs) → IsFall n bs no_fall
fall_none n bs h = record {
  entries = λ few. omega (arith, ap length (kept_all n (flat bs) h));
  whole = λ isnt. ap flat (untouched n bs h) ∙ sym (kept_all n (flat bs) h);
  lives = λ isnt. (refl, ap lives_of (untouched n bs h));
}

pub fall_both : (n : NameParts) (xs ys : List (List Entry)) (f g h : Fall) → IsFall n xs f → IsFall n ys g
    → (f.entries + g.entries < 2 ^ 64 → h.entries ≡ f.entries + g.entries) → h.whole ≡ (f.whole || g.whole)
    → h.lives ≡ (f.lives || g.lives) → IsFall n (xs ++ ys) h
fall_both n xs ys f g h a b entries whole lives = record {
  entries = λ few.
      let p = a.entries (omega (arith, few, long)) in
      let q = b.entries (omega (arith, few, long)) in
      omega (arith, long, left, p, q, entries (omega (arith, p, q, few, long)));
  whole = λ isnt.
      let parts = or_parts f.whole g.whole (sym whole ∙ isnt) in
      ap flat (map-append (trimmed n) xs ys)
      ∙ flat_append (map (trimmed n) xs) (map (trimmed n) ys)
      ∙ ap (λ es. es ++ flat (map (trimmed n) ys)) (a.whole parts.0)
      ∙ ap (λ es. standing n (flat xs) ++ es) (b.whole parts.1)
      ∙ sym parted;
  lives = λ isnt.
      let parts = or_parts f.lives g.lives (sym lives ∙ isnt) in (
        whole ∙ ap (λ w. w || g.whole) (a.lives parts.0).0 ∙ (b.lives parts.1).0,
        ap lives_of (map-append (trimmed n) xs ys)
            ∙ map-append count (map (trimmed n) xs) (map (trimmed n) ys)
            ∙ ap (λ l. l ++ lives_of (map (trimmed n) ys)) (a.lives parts.0).1
            ∙ ap (λ l. lives_of xs ++ l) (b.lives parts.1).1
            ∙ sym (map-append count xs ys),
      );
}
  where
    long : length (flat (xs ++ ys)) ≡ length (flat xs) + length (flat ys)
    long = ap length (flat_append xs ys) ∙ length-append (flat xs) (flat ys)

    parted : standing n (flat (xs ++ ys)) ≡ standing n (flat xs) ++ standing n (flat ys)
    parted = ap (standing n) (flat_append xs ys) ∙ filter-append (λ e. not (is_above e.name n)) (flat xs) (flat ys)

    left : length (standing n (flat (xs ++ ys))) ≡ length (standing n (flat xs)) + length (standing n (flat ys))
    left = ap length parted ∙ length-append (standing n (flat xs)) (standing n (flat ys))

-- ---- one block of some

pub get_trimmed : (n : NameParts) (bs : List (List Entry)) (k : ℕ) (d : List Entry) → k < length bs
    → get_or (map (trimmed n) (take k bs) ++ drop k bs) k d ≡ get_or bs k d
get_trimmed n [] k d lt = absurd (omega arith)
get_trimmed n (b ∷ bs) zero d lt = refl
get_trimmed n (b ∷ bs) (suc k) d lt = get_trimmed n bs k d (omega arith)

-- before the first block that is trimmed
pub fall_start : (n : NameParts) (bs : List (List Entry)) (start : ℕ) (f : Fall) → f ≡ no_fall
    → AreOriginsBelow n.origin (known_entries (flat (take start bs))) → IsFall n (take start bs) f
fall_start n bs start f is h = subst (IsFall n (take start bs)) (sym is)
    (fall_none n (take start bs) (origins_beside n (flat (take start bs)) h))

-- one more is trimmed
pub fall_step : (n : NameParts) (bs now : List (List Entry)) (k : ℕ) (old : List Entry) (f g h : Fall) → k < length bs
    → now ≡ map (trimmed n) (take k bs) ++ drop k bs → old ≡ get_or now k old → IsFall n (take k bs) f
    → IsFall n (old ∷ []) g → (f.entries + g.entries < 2 ^ 64 → h.entries ≡ f.entries + g.entries)
    → h.whole ≡ (f.whole || g.whole) → h.lives ≡ (f.lives || g.lives) → IsFall n (take (k + 1) bs) h
fall_step n bs now k old f g h lt is value a b entries whole lives =
    let same : old ≡ get_or bs k old = value ∙ ap (λ l. get_or l k old) is ∙ get_trimmed n bs k old lt in
    subst (λ l. IsFall n l h) (ap (λ x. take k bs ++ x ∷ []) same ∙ sym (take_more bs k old lt))
    (fall_both n (take k bs) (old ∷ []) f g h a b entries whole lives)

-- behind the last nothing falls
pub fall_behind : (n : NameParts) (bs : List (List Entry)) (end k : ℕ) (f : Fall) → suc end ≤ k
    → AreBehind n (known_entries (flat (drop (suc end) bs))) → IsFall n (take k bs) f → IsFall n bs f
fall_behind n bs end k f le h a =
    subst (λ l. IsFall n l f) (take-append-drop k bs)
    (fall_both n (take k bs) (drop k bs) f no_fall f a
    (fall_none n (drop k bs) (beside_later n bs (suc end) k le (behind_beside n (flat (drop (suc end) bs)) h)))
    (λ few. omega arith) (sym (or_false f.whole)) (sym (or_false f.lives)))
  where
    or_false : (b : Bool) → (b || false) ≡ b
    or_false true = refl
    or_false false = refl

-- another in its place, with as many live names
pub lives_set : (bs : List (List Entry)) (k : ℕ) (c d : List Entry) → k < length bs
    → length (kept_in c) ≡ length (kept_in (get_or bs k d)) → lives_of (set bs k c) ≡ lives_of bs
lives_set [] k c d lt e = absurd (omega arith)
lives_set (b ∷ bs) zero c d lt e = ap (λ m. m ∷ lives_of bs) e
lives_set (b ∷ bs) (suc k) c d lt e = ap (λ l. length (kept_in b) ∷ l) (lives_set bs k c d (omega arith) e)
