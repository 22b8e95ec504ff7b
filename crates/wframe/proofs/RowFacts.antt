-- The rows of frames are rows of their partition, and rows with the same keys have the same frames.
use Rattle.std.proofs.Common.{◌≡◌, ℕ, zero, suc, ◌+◌, ◌<◌, ◌≤◌, Bool, true, false, cond}
use Rattle.std.proofs.Common.{List, [], ◌∷◌, length, filter, sym, ap, ◌∙◌, refl, arith}
use Rattle.std.specs.Prelude.{All}
use Rattle.std.specs.List.{AllByRecursion}
use Rattle.std.specs.Ordering.{is_eq}
use Rattle.std.proofs.lemmas.Cmp.{tied_itself}
use Rattle.std.proofs.lemmas.List.Elements.{All-from_recursion}
use Rattle.wvalues.specs.OrderLaws.{keys_total}
use Rattle.wvalues.specs.Order.{keys_cmp}
use Rattle.wframe.specs.declared.frame.Span.{Span}
use Rattle.wframe.specs.Places.{places_from, places, Tiles, span_at}
use Rattle.wframe.specs.Peers.{key_at, are_peers}
use Rattle.wframe.specs.Partition.{Partition}
use Rattle.wframe.specs.Frame.{frame_rows, is_kept}
use Rattle.wframe.specs.Ties.{holds_groups}
use Rattle.wframe.proofs.PlaceFacts.{tile_of}
use Rattle.wframe.proofs.TieFacts.{kept_alike}

filter_shorter : {X : Type 0} (p : X → Bool) (xs : List X) → length (filter p xs) ≤ length xs
filter_shorter p [] = omega arith
filter_shorter p (x ∷ xs) =
    let more : length (filter p xs) ≤ length xs = filter_shorter p xs in
    elim (p x) as (λ b. length (cond b (x ∷ filter p xs) (filter p xs)) ≤ suc (length xs)) [
      | true ↦ omega (arith, more)
      | false ↦ omega (arith, more)
    ]

filtered_below : (p : ℕ → Bool) (n : ℕ) (xs : List ℕ) → AllByRecursion (λ i. i < n) xs → AllByRecursion (λ i. i < n) (filter p xs)
filtered_below p n [] all = tt
filtered_below p n (x ∷ xs) all =
    elim (p x) as (λ b. AllByRecursion (λ i. i < n) (cond b (x ∷ filter p xs) (filter p xs))) [
      | true ↦
          (all.0, filtered_below p n xs all.1)
      | false ↦ filtered_below p n xs all.1
    ]

places_below : (a n high : ℕ) → a + n ≤ high → AllByRecursion (λ i. i < high) (places_from a n)
places_below a zero high h = tt
places_below a (suc n) high h = (omega arith, places_below (a + 1) n high (omega arith))

length-places : (a n : ℕ) → length (places_from a n) ≡ n
length-places a zero = refl
length-places a (suc n) = ap suc (length-places (a + 1) n)

pub rows_below : (p : Partition) (i : ℕ) → All (λ j. j < length p.keys) (frame_rows p i)
rows_below p i = All-from_recursion (λ j. j < length p.keys) (frame_rows p i) (filtered_below (is_kept p i) (length p.keys)
    (places (length p.keys)) (places_below 0 (length p.keys) (length p.keys) (omega arith)))

pub rows_shorter : (p : Partition) (i : ℕ) → length (frame_rows p i) ≤ length p.keys
rows_shorter p i = omega (arith, filter_shorter (is_kept p i) (places (length p.keys)), length-places 0 (length p.keys))

same_key_peers : (p : Partition) (i k : ℕ) → key_at p.keys i ≡ key_at p.keys k → are_peers (keys_cmp p.order) p.keys i k ≡ true
same_key_peers p i k e = ap (λ key. is_eq (keys_cmp p.order (key_at p.keys i) key)) (sym e)
    ∙ ap is_eq (tied_itself (keys_total p.order) (key_at p.keys i))

pub moved_alike : (p : Partition) (turn : ℕ → ℕ) (i j : ℕ) → holds_groups p.frame ≡ true
    → ((row : ℕ) → row < length p.keys → key_at p.keys (turn row) ≡ key_at p.keys row) → i < length p.keys
    → j < length p.keys → is_kept p (turn i) (turn j) ≡ is_kept p i j
moved_alike p turn i j groups same h k =
    kept_alike p (turn i) i (turn j) j groups (same_key_peers p (turn i) i (same i h)) (same_key_peers p (turn j) j (same j k))

-- a place has a span
pub some_span : (high : ℕ) (ss : List Span) (place : ℕ) → Tiles 0 ss high → place < high → (k : ℕ) × (k < length ss)
    × ((span_at ss k).from ≤ place) × (place < (span_at ss k).to)
some_span high ss place t h = tile_of 0 high ss place t (omega arith) h
