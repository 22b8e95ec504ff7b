-- The live names of entries in blocks.
use Rattle.std.proofs.Common.{◌≡◌, ℕ, zero, suc, ◌+◌, ◌-◌, ◌<◌, ◌≤◌, List, [], ◌∷◌, ◌++◌, ◌^◌, Bool, true}
use Rattle.std.proofs.Common.{false, nat_lt, length, map, take, drop, get_or, slice_get, refl, sym, ap}
use Rattle.std.proofs.Common.{subst, ◌∙◌, arith, Some, None, IfSome, below_more, length-append}
use Rattle.std.proofs.lemmas.List.{get_or-take, get_or_append_left, length-map, length-take}
use Rattle.std.proofs.Math.Seq.{get_or-append_seam, take-length}
use Rattle.std.proofs.lemmas.Bool.{ltb-false, ltb-true}
use Rattle.std.specs.List.{AllByRecursion, filter_map}
use Rattle.wvalues.specs.Names.{NameParts}
use Rattle.wsegment.specs.Declaration.{Declaration}
use Rattle.wruns.specs.KeptRuns.{KeptParts}
use Rattle.wset.specs.Views.{live_of, lives}
use Rattle.wset.specs.Sets.{DeclaredView}
use Rattle.wentries.specs.Holding.{IsReadBy, IsHeldBy, known_of}
use Rattle.wentries.specs.Entries.{AllHeldBy, AreSettled, IsRising, known_entries}
use Rattle.wentries.specs.Blocks.{IsGrown, flat}
use Rattle.wset.specs.KeptOrders.{IsNoteOf, IsOrderOf}
use Rattle.wset.specs.Running.{AreStarts, IsLiveHome, lives_before}
use Rattle.wentries.specs.Falls.{lives_of}
use Rattle.wentries.specs.Keeping.{kept_in, rows_in}
use Rattle.wset.specs.Storing.{declared_view, IsOrderly}
use Rattle.wset.specs.declared.set.SegmentSet.TheInside.{Inside}
use Rattle.wentries.specs.declared.entries.Entry.{Entry}
use Rattle.wentries.specs.declared.held.Held.{Held}
use Rattle.wentries.specs.declared.held.Held.TheVariants as held
use Rattle.wentries.proofs.BlockFacts.{flat_at, flat_more}
use Rattle.wset.proofs.Maps.{lives-view}
use Rattle.wentries.proofs.Lives.{kept_append, kept_few, length_kept}

-- ---- those before a block

pub before_next : (bs : List (List Entry)) (k : ℕ) (d : List Entry) → k < length bs
    → lives_before bs (suc k) ≡ lives_before bs k + length (kept_in (get_or bs k d))
before_next bs k d lt = ap (λ es. length (kept_in es)) (flat_more bs k d lt) ∙ length_kept (flat (take k bs)) (get_or bs k d)

pub before_few : (bs : List (List Entry)) (k : ℕ) → lives_before bs k ≤ length (flat bs)
before_few [] zero = omega arith
before_few [] (suc k) = omega arith
before_few (b ∷ bs) zero = omega arith
before_few (b ∷ bs) (suc k) = omega (arith, length_kept b (flat (take k bs)), kept_few b, before_few bs k, length-append b (flat bs))

pub before_end : (bs : List (List Entry)) → lives_before bs (length bs) ≡ length (kept_in (flat bs))
before_end bs = ap (λ l. length (kept_in (flat l))) (take-length bs)

-- one more block is counted
pub starts_more : (bs : List (List Entry)) (starts : List ℕ) (n : ℕ) → n ≡ lives_before bs (length starts)
    → AreStarts bs starts → AreStarts bs (starts ++ n ∷ [])
starts_more bs starts n is h k lt =
    let within : k < length starts + 1 = omega (arith, lt, length-append starts (n ∷ [])) in
    below_more (λ k. get_or (starts ++ n ∷ []) k 0 ≡ lives_before bs k) (length starts)
    (λ k low. get_or_append_left starts (n ∷ []) 0 k low ∙ h k low) (get_or-append_seam starts n [] 0 ∙ is) k within

-- the first of them
pub starts_front : (bs : List (List Entry)) (starts : List ℕ) (n : ℕ) → AreStarts bs starts → AreStarts bs (take n starts)
starts_front bs starts n h k lt =
    let low : k < n = omega (arith, lt, length-take n starts) in
    let within : k < length starts = omega (arith, lt, length-take n starts) in
    get_or-take n starts k 0 low ∙ h k within

-- they stay where the blocks before the last do
pub starts_grown : (old new : List (List Entry)) (starts : List ℕ) → length starts ≤ length old → IsGrown old new
    → AreStarts old starts → AreStarts new starts
starts_grown old new starts le grown h k lt =
    h k lt ∙ sym (ap (λ bs. length (kept_in (flat bs))) (grown.front k (omega (arith, lt, le))))

-- ---- the live name of a number

get_front : {A : Type 0} (xs ys : List A) (i : ℕ) → i < length xs → slice_get (xs ++ ys) i ≡ slice_get xs i
get_front [] ys i lt = absurd (omega arith)
get_front (x ∷ xs) ys zero lt = refl
get_front (x ∷ xs) ys (suc i) lt = get_front xs ys i (omega arith)

get_back : {A : Type 0} (xs ys : List A) (i : ℕ) → length xs ≤ i → slice_get (xs ++ ys) i ≡ slice_get ys (i - length xs)
get_back [] ys i le = let e : i ≡ i - 0 = omega arith in ap (slice_get ys) e
get_back (x ∷ xs) ys zero le = absurd (omega arith)
get_back (x ∷ xs) ys (suc i) le = let e : i - length xs ≡ suc i - suc (length xs) = omega arith in
    get_back xs ys i (omega arith) ∙ ap (slice_get ys) e

pub home_found : (bs : List (List Entry)) (k i : ℕ) (b : List Entry) → k < length bs → b ≡ get_or bs k b
    → lives_before bs k ≤ i → i - lives_before bs k < length (kept_in b) → slice_get (kept_in (flat bs)) i
    ≡ slice_get (kept_in b) (i - lives_before bs k)
home_found bs k i b lt is le within =
    ap (λ es. slice_get (kept_in es) i) (flat_at bs k b lt ∙ ap (λ x. flat (take k bs) ++ (x ++ flat (drop (suc k) bs))) (sym is))
    ∙ ap (λ l. slice_get l i) (kept_append (flat (take k bs)) (b ++ flat (drop (suc k) bs)))
    ∙ get_back (kept_in (flat (take k bs))) (kept_in (b ++ flat (drop (suc k) bs))) i le
    ∙ ap (λ l. slice_get l (i - lives_before bs k)) (kept_append b (flat (drop (suc k) bs)))
    ∙ get_front (kept_in b) (kept_in (flat (drop (suc k) bs))) (i - lives_before bs k) within

-- a number that is not behind the start of a block and before the next one is within the block
pub home_within : (bs : List (List Entry)) (starts : List ℕ) (i k : ℕ) (b : List Entry) → length starts ≡ length bs
    → AreStarts bs starts → IsLiveHome starts i k → i < length (kept_in (flat bs)) → b ≡ get_or bs k b
    → i - lives_before bs k < length (kept_in b)
home_within bs starts i k b long h home lt is = by (nat_lt (suc k) (length starts)) refl
  where
    inside : k < length bs
    inside = omega (arith, home.in_range, long)

    here : lives_before bs (suc k) ≡ lives_before bs k + length (kept_in b)
    here = before_next bs k b inside ∙ ap (λ x. lives_before bs k + length (kept_in x)) (sym is)

    low : lives_before bs k ≤ i
    low = subst (λ n. n ≤ i) (h k home.in_range) home.before

    by : (c : Bool) → nat_lt (suc k) (length starts) ≡ c → i - lives_before bs k < length (kept_in b)
    by true e =
        let next : suc k < length starts = ltb-true _ _ e in
        let after : i < lives_before bs (suc k) = subst (λ n. i < n) (h (suc k) next) (home.behind next) in
        omega (arith, after, here, low)
    by false e =
        let end : length starts ≤ suc k = ltb-false _ _ e in
        let all : suc k ≡ length bs = omega (arith, end, inside, long) in
        let total : lives_before bs (suc k) ≡ length (kept_in (flat bs)) = ap (lives_before bs) all ∙ before_end bs in
        omega (arith, total, here, low, lt)

-- ---- what a set tells of them

kept_bytes : (es : List Entry) → map (λ k. (k.0, k.1.content.bytes)) (kept_in es) ≡ filter_map live_of (known_entries es)
kept_bytes [] = refl
kept_bytes (e ∷ es) = by e.name e.held (kept_bytes es)
  where
    by : (n : NameParts) (h : Held) → map (λ k. (k.0, k.1.content.bytes)) (kept_in es)
        ≡ filter_map live_of (known_entries es)
        → map (λ k. (k.0, k.1.content.bytes)) (kept_in (record { name = n; held = h } ∷ es))
        ≡ filter_map live_of ((n, known_of h) ∷ known_entries es)
    by n (held.Live kept) rest = ap (λ l. (n, kept.content.bytes) ∷ l) rest
    by n held.Disputed rest = rest
    by n held.Retired rest = rest
    by n held.Floor rest = rest

pub kept_read : (d : Declaration) (es : List Entry) → AllHeldBy d es → AllByRecursion (λ k. IsReadBy d k.1.content) (kept_in es)
kept_read d [] all = tt
kept_read d (e ∷ es) all = by e.name e.held all.0 (kept_read d es all.1)
  where
    by : (n : NameParts) (h : Held) → IsHeldBy d h → AllByRecursion (λ k. IsReadBy d k.1.content) (kept_in es)
        → AllByRecursion (λ k. IsReadBy d k.1.content) (kept_in (record { name = n; held = h } ∷ es))
    by n (held.Live kept) one rest = (one, rest)
    by n held.Disputed one rest = rest
    by n held.Retired one rest = rest
    by n held.Floor one rest = rest

pub lives_kept : (a : Inside) (s : DeclaredView) → IsOrderly a → declared_view a ≡ s
    → map (λ k. (k.0, k.1.content.bytes)) (kept_in (flat a.blocks.items)) ≡ lives s.view
lives_kept a s h is = kept_bytes (flat a.blocks.items) ∙ sym (lives-view (flat a.blocks.items) s.view h.rising (ap (λ x. x.view) is))

pub lives_counted : (a : Inside) (s : DeclaredView) → IsOrderly a → declared_view a ≡ s
    → length (kept_in (flat a.blocks.items)) ≡ length (lives s.view)
lives_counted a s h is = sym (length-map (kept_in (flat a.blocks.items)) (λ k. (k.0, k.1.content.bytes))) ∙ ap length (lives_kept a s h is)

pub orders_counted : (a : Inside) (s : DeclaredView) → declared_view a ≡ s → length (kept_in (flat a.blocks.items)) ≡ length s.orders
orders_counted a s is = sym (length-map (kept_in (flat a.blocks.items)) (λ k. k.1.orders)) ∙ ap (λ x. length x.orders) is

get_map : {X Y : Type 0} (f : X → Y) (xs : List X) (i : ℕ) (x : X) → slice_get xs i ≡ Some x → slice_get (map f xs) i ≡ Some (f x)
get_map f [] i x e = absurd (cc)
get_map f (y ∷ xs) zero x e = let same : y ≡ x = cc in ap (λ z. Some (f z)) same
get_map f (y ∷ xs) (suc i) x e = get_map f xs i x e

get_or_map : {X Y : Type 0} (f : X → Y) (xs : List X) (i : ℕ) (x : X) (d : Y) → slice_get xs i ≡ Some x → get_or (map f xs) i d ≡ f x
get_or_map f [] i x d e = absurd (cc)
get_or_map f (y ∷ xs) zero x d e = let same : y ≡ x = cc in ap f same
get_or_map f (y ∷ xs) (suc i) x d e = get_or_map f xs i x d e

get_all : {X : Type 0} (P : X → Type 0) (xs : List X) (i : ℕ) (x : X) → slice_get xs i ≡ Some x → AllByRecursion P xs → P x
get_all P [] i x e all = absurd (cc)
get_all P (y ∷ xs) zero x e all = let same : y ≡ x = cc in subst P same all.0
get_all P (y ∷ xs) (suc i) x e all = get_all P xs i x e all.1

pub live_known : (a : Inside) (s : DeclaredView) (i : ℕ) (n : NameParts) (kept : KeptParts) → IsOrderly a
    → declared_view a ≡ s → slice_get (kept_in (flat a.blocks.items)) i ≡ Some (n, kept)
    → slice_get (lives s.view) i ≡ Some (n, kept.content.bytes)
live_known a s i n kept h is at = ap (λ l. slice_get l i) (sym (lives_kept a s h is))
    ∙ get_map (λ k. (k.0, k.1.content.bytes)) (kept_in (flat a.blocks.items)) i (n, kept) at

pub live_read : (a : Inside) (s : DeclaredView) (i : ℕ) (n : NameParts) (kept : KeptParts) → IsOrderly a
    → declared_view a ≡ s → slice_get (kept_in (flat a.blocks.items)) i ≡ Some (n, kept) → IsReadBy s.schema kept.content
live_read a s i n kept h is at =
    subst (λ x. IsReadBy x.schema kept.content) is
    (get_all (λ k. IsReadBy a.schema k.1.content) (kept_in (flat a.blocks.items)) i
    (n, kept) at (kept_read a.schema (flat a.blocks.items) h.read))

pub live_orders : (a : Inside) (s : DeclaredView) (i : ℕ) (n : NameParts) (kept : KeptParts) → declared_view a ≡ s
    → slice_get (kept_in (flat a.blocks.items)) i ≡ Some (n, kept) → kept.orders ≡ get_or s.orders i []
live_orders a s i n kept is at = sym (get_or_map (λ k. k.1.orders) (kept_in (flat a.blocks.items)) i (n, kept) [] at)
    ∙ ap (λ x. get_or x.orders i []) is

-- ---- a set whose blocks were cut

pub orderly_flat : (a b : Inside) → b.schema ≡ a.schema → b.count ≡ a.count → flat b.blocks.items ≡ flat a.blocks.items
    → length b.starts.items ≡ length b.blocks.items → AreStarts b.blocks.items b.starts.items → b.order ≡ None
    → b.differing ≡ None → IsOrderly a → IsOrderly b
orderly_flat a b schema count same placed starts none blank h = record {
  rising = subst IsRising (sym same) h.rising;
  settled = subst (λ es. AreSettled (known_entries es)) (sym same) h.settled;
  counted = count ∙ h.counted ∙ ap length (sym same);
  few = subst (λ n. n < 2 ^ 64) (sym count) h.few;
  read = subst (λ d. AllHeldBy d (flat b.blocks.items)) (sym schema) (subst (AllHeldBy a.schema) (sym same) h.read);
  placed = placed;
  starts = starts;
  ordered = subst (λ o. IfSome o (IsOrderOf (rows_in (flat b.blocks.items)))) (sym none) tt;
  noted = subst (λ o. IfSome o (IsNoteOf (rows_in (flat b.blocks.items)))) (sym blank) tt;
}

-- ---- counting the live names before each block

pub few_starts : (bs : List (List Entry)) (starts : List ℕ) → length starts ≡ 0 → AreStarts bs starts
few_starts bs starts none k lt = absurd (omega (arith, lt, none))

pub next_is : (bs : List (List Entry)) (starts : List ℕ) (k : ℕ) (block : List Entry) (n : ℕ) → suc k ≡ length starts
    → length starts ≤ length bs → AreStarts bs starts → block ≡ get_or bs k block → n ≡ length (kept_in block)
    → get_or starts k 0 + n ≡ lives_before bs (length starts)
next_is bs starts k block n end le h is count =
    let low : k < length starts = omega (arith, end) in
    let lt : k < length bs = omega (arith, low, le) in
    ap (λ m. m + n) (h k low)
    ∙ ap (λ m. lives_before bs k + m) (count ∙ ap (λ b. length (kept_in b)) is)
    ∙ sym (before_next bs k block lt)
    ∙ ap (lives_before bs) end

-- those of the starts that stay when something is put
pub kept_starts : (old new : List (List Entry)) (starts : List ℕ) (kept : ℕ) → length starts ≡ length old
    → kept ≤ length old → (0 < kept → IsGrown old new) → AreStarts old starts → (kept ≤ length new) × AreStarts new (take kept starts)
kept_starts old new starts zero placed le grown h =
    (omega arith, few_starts new (take zero starts) (omega (arith, length-take zero starts)))
kept_starts old new starts (suc k) placed le grown h =
    let g = grown (omega arith) in (
      omega (arith, g.more, le),
      starts_grown old new (take (suc k) starts) (omega (arith, length-take (suc k) starts, placed)) g (starts_front old starts (suc k) h),
    )

-- blocks with as many live names each
same_before : (old new : List (List Entry)) (k : ℕ) → lives_of new ≡ lives_of old → lives_before new k ≡ lives_before old k
same_before [] [] k same = refl
same_before [] (c ∷ new) k same = absurd (omega (arith, ap length same))
same_before (b ∷ old) [] k same = absurd (omega (arith, ap length same))
same_before (b ∷ old) (c ∷ new) zero same = refl
same_before (b ∷ old) (c ∷ new) (suc k) same =
    let here : length (kept_in c) ≡ length (kept_in b) = ap (λ l. get_or l 0 0) same in
    omega (
      arith,
      here,
      same_before old new k (ap (drop 1) same),
      length_kept b (flat (take k old)),
      length_kept c (flat (take k new)),
    )

pub same_placed : (old new : List (List Entry)) (starts : List ℕ) → lives_of new ≡ lives_of old → length starts ≡ length old
    → length starts ≡ length new
same_placed old new starts same placed = omega (
  arith,
  placed,
  ap length same,
  length-map old (λ b. length (kept_in b)),
  length-map new (λ b. length (kept_in b)),
)

pub same_starts : (old new : List (List Entry)) (starts : List ℕ) → lives_of new ≡ lives_of old → AreStarts old starts
    → AreStarts new starts
same_starts old new starts same h k lt = h k lt ∙ sym (same_before old new k same)

pub some_block : (bs : List (List Entry)) (i : ℕ) → i < length (kept_in (flat bs)) → 0 < length bs
some_block [] i lt = absurd (omega (arith, lt))
some_block (b ∷ bs) i lt = omega arith

pub none_before : (bs : List (List Entry)) → lives_before bs 0 ≡ 0
none_before [] = refl
none_before (b ∷ bs) = refl

module _ (bs : List (List Entry)) (starts : List ℕ) (i k : ℕ) (b es : List Entry) (placed : length starts ≡ length bs)
    (h : AreStarts bs starts) (home : IsLiveHome starts i k) (lt : i < length (kept_in (flat bs))) (is : b ≡ get_or bs k b)
    (same : es ≡ b) where
  pub found_within : i - get_or starts k 0 < length (kept_in es)
  found_within =
      let within = home_within bs starts i k b placed h home lt is in
      omega (arith, within, h k home.in_range, ap (λ x. length (kept_in x)) same)

  pub found_at : slice_get (kept_in (flat bs)) i ≡ slice_get (kept_in es) (i - get_or starts k 0)
  found_at =
      let inside : k < length bs = omega (arith, home.in_range, placed) in
      let low : lives_before bs k ≤ i = subst (λ n. n ≤ i) (h k home.in_range) home.before in
      home_found bs k i b inside is low (home_within bs starts i k b placed h home lt is)
      ∙ ap (λ x. slice_get (kept_in x) (i - lives_before bs k)) (sym same)
      ∙ ap (λ n. slice_get (kept_in es) (i - n)) (sym (h k home.in_range))
