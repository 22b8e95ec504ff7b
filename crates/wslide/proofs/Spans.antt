-- The parts of a run of rows.
use Rattle.std.proofs.Common.{◌≡◌, ℕ, zero, suc, ◌+◌, ◌-◌, ◌<◌, ◌≤◌, List, [], ◌∷◌, ◌++◌, length, take}
use Rattle.std.proofs.Common.{drop, map, sym, ap, ◌∙◌, refl, arith, subst, length-append, append_assoc}
use Rattle.std.specs.Prelude.{slice_range, All}
use Rattle.std.specs.List.{fold}
use Rattle.std.proofs.Common.{get_or}
use Rattle.std.proofs.lemmas.List.{append-nil, map-append, take_more}
use Rattle.std.proofs.lemmas.List.Sums.{fold-append}
use Rattle.std.proofs.lemmas.List.Elements.{recursion_from_All, All-take, All-drop, All-nil, All-push, All-append}
use Rattle.wframe.specs.declared.frame.Span.{Span}
use Rattle.wframe.specs.Places.{places, places_from, span_places, spans_places, AreApart}
use Rattle.wslide.specs.Laws.{FoldLaws, total}
use Rattle.wslide.specs.Rows.{parts_from, span_parts, spans_parts, IsWithin}
use Rattle.wslide.proofs.Totals.{fold_from}

pub length-places_from : (row n : ℕ) → length (places_from row n) ≡ n
length-places_from row zero = refl
length-places_from row (suc n) = ap suc (length-places_from (row + 1) n)

pub places_from-push : (row n : ℕ) → places_from row (suc n) ≡ places_from row n ++ (row + n) ∷ []
places_from-push row zero = let e : row ≡ row + 0 = omega arith in ap (λ r. r ∷ []) e
places_from-push row (suc n) =
    let e : row + 1 + n ≡ row + suc n = omega arith in
    ap (λ ps. row ∷ ps) (places_from-push (row + 1) n ∙ ap (λ r. places_from (row + 1) n ++ r ∷ []) e)

-- one place more
pub places_next : (row : ℕ) → places (row + 1) ≡ places row ++ row ∷ []
places_next row =
    let e : row + 1 ≡ suc row = omega arith in
    let at : 0 + row ≡ row = omega arith in
    ap (places_from 0) e ∙ places_from-push 0 row ∙ ap (λ r. places row ++ r ∷ []) at

-- spans that lie apart lie within the rows
pub apart_within : (low rows : ℕ) (ss : List Span) → AreApart low ss rows → low ≤ rows
apart_within low rows [] h = h
apart_within low rows (s ∷ ss) h = let l = apart_within s.to rows ss h.2 in let a = h.0 in let b = h.1 in omega arith

pub apart_each : (low rows : ℕ) (ss : List Span) → AreApart low ss rows → All (IsWithin rows) ss
apart_each low rows [] h = All-nil (IsWithin rows)
apart_each low rows (s ∷ ss) h =
    let here : IsWithin rows s = record { ordered = h.1; to = apart_within s.to rows ss h.2 } in
    All-append (IsWithin rows) (s ∷ []) ss (All-push (IsWithin rows) [] s (All-nil (IsWithin rows)) here) (apart_each s.to rows ss h.2)

-- and have no more places than there are
pub apart_few : (low rows : ℕ) (ss : List Span) → AreApart low ss rows → low + length (spans_places ss) ≤ rows
apart_few low rows [] h = omega (arith, h)
apart_few low rows (s ∷ ss) h =
    let l = apart_few s.to rows ss h.2 in
    let a = h.0 in
    let b = h.1 in
    omega (arith, length-append (span_places s) (spans_places ss), length-places_from s.from (s.to - s.from))

module _ {P : Type 0} (part_at : ℕ → P) where
  pub length-parts_from : (row n : ℕ) → length (parts_from part_at row n) ≡ n
  length-parts_from row zero = refl
  length-parts_from row (suc n) = ap suc (length-parts_from (row + 1) n)

  -- one row more
  pub parts_from-push : (from row : ℕ) → from ≤ row → parts_from part_at from (row + 1 - from) ≡ parts_from part_at from
      (row - from) ++ part_at row ∷ []
  parts_from-push from row h =
      let e : row + 1 - from ≡ suc (row - from) = omega arith in
      let at : from + (row - from) ≡ row = omega arith in
      ap (parts_from part_at from) e
      ∙ ap (map part_at) (places_from-push from (row - from))
      ∙ map-append part_at (places_from from (row - from)) ((from + (row - from)) ∷ [])
      ∙ ap (λ r. parts_from part_at from (row - from) ++ part_at r ∷ []) at

  pub parts_from_next : (row : ℕ) → parts_from part_at 0 (row + 1) ≡ parts_from part_at 0 row ++ part_at row ∷ []
  parts_from_next row = ap (map part_at) (places_next row) ∙ map-append part_at (places row) (row ∷ [])

  -- a run of rows, and those behind it
  pub parts_from-split : (row n m all : ℕ) → all ≡ n + m → parts_from part_at row all ≡ parts_from part_at row n ++ parts_from part_at (row + n) m
  parts_from-split row zero m all is =
      let e : all ≡ m = omega (arith, is) in
      let f : row ≡ row + 0 = omega arith in
      ap (parts_from part_at row) e ∙ ap (λ r. parts_from part_at r m) f
  parts_from-split row (suc n) m all is =
      let e : all ≡ suc (n + m) = omega (arith, is) in
      let f : row + 1 + n ≡ row + suc n = omega arith in
      ap (parts_from part_at row) e ∙ ap (λ ps. part_at row ∷ ps) (parts_from-split (row + 1) n m (n + m) refl
      ∙ ap (λ r. parts_from part_at (row + 1) n ++ parts_from part_at r m) f)

  -- without its first row
  pub parts_from-drop : (from to : ℕ) → from < to → drop 1 (parts_from part_at from (to - from))
      ≡ parts_from part_at (from + 1) (to - (from + 1))
  parts_from-drop from to h =
      let e : to - from ≡ suc (to - (from + 1)) = omega arith in
      ap (λ n. drop 1 (parts_from part_at from n)) e

  parts_from-drop_more : (row n k : ℕ) → k ≤ n → drop k (parts_from part_at row n) ≡ parts_from part_at (row + k) (n - k)
  parts_from-drop_more row n zero h =
      let e : row ≡ row + 0 = omega arith in
      let f : n ≡ n - 0 = omega arith in
      ap (λ r. parts_from part_at r n) e ∙ ap (parts_from part_at (row + 0)) f
  parts_from-drop_more row zero (suc k) h = absurd (omega arith)
  parts_from-drop_more row (suc n) (suc k) h =
      let l : k ≤ n = omega arith in
      let e : row + 1 + k ≡ row + suc k = omega arith in
      let f : n - k ≡ suc n - suc k = omega arith in
      parts_from-drop_more (row + 1) n k l ∙ ap (λ r. parts_from part_at r (n - k)) e ∙ ap (parts_from part_at (row + suc k)) f

  parts_from-take : (row n k : ℕ) → k ≤ n → take k (parts_from part_at row n) ≡ parts_from part_at row k
  parts_from-take row n zero h = refl
  parts_from-take row zero (suc k) h = absurd (omega arith)
  parts_from-take row (suc n) (suc k) h = let l : k ≤ n = omega arith in ap (λ ps. part_at row ∷ ps) (parts_from-take (row + 1) n k l)

  -- a span of all rows' parts
  pub range_parts : (rows from to : ℕ) → from ≤ to → to ≤ rows → slice_range (parts_from part_at 0 rows) from to
      ≡ parts_from part_at from (to - from)
  range_parts rows from to h k =
      let l : from ≤ rows = omega arith in
      let n : to - from ≤ rows - from = omega arith in
      let e : 0 + from ≡ from = omega arith in
      ap (take (to - from)) (parts_from-drop_more 0 rows from l) ∙ parts_from-take (0 + from) (rows - from) (to - from) n
      ∙ ap (λ r. parts_from part_at r (to - from)) e

  -- one span more
  pub spans_parts-push : (ss : List Span) (s : Span) → spans_parts part_at (ss ++ s ∷ []) ≡ spans_parts part_at ss ++ span_parts part_at s
  spans_parts-push [] s = map-append part_at (span_places s) [] ∙ append-nil (span_parts part_at s)
  spans_parts-push (t ∷ ts) s =
      map-append part_at (span_places t) (spans_places (ts ++ s ∷ []))
      ∙ ap (λ ps. span_parts part_at t ++ ps) (spans_parts-push ts s)
      ∙ sym (ap (λ ps. ps ++ span_parts part_at s) (map-append part_at (span_places t) (spans_places ts))
      ∙ append_assoc (span_parts part_at t) (spans_parts part_at ts) (span_parts part_at s))

module _ {P : Type 0} {is_part : P → Type 0} {neutral : P} {joined : P → P → P} (laws : FoldLaws is_part neutral joined)
    (part_at : ℕ → P) where
  -- the fold of one span more
  pub spans_more : (rows : ℕ) (ss : List Span) (s : Span) (sum part : P) → All is_part (parts_from part_at 0 rows)
      → IsWithin rows s → is_part sum → sum ≡ total neutral joined (spans_parts part_at ss)
      → part ≡ total neutral joined (slice_range (parts_from part_at 0 rows) s.from s.to)
      → joined sum part ≡ total neutral joined (spans_parts part_at (ss ++ s ∷ []))
  spans_more rows ss s sum part hs within hsum e f =
      let ys = span_parts part_at s in
      let r = range_parts part_at rows s.from s.to within.ordered within.to in
      let hys = subst (All is_part) r (All-take is_part (s.to - s.from) (drop s.from (parts_from part_at 0 rows))
      (All-drop is_part s.from (parts_from part_at 0 rows) hs)) in
      ap (joined sum) (f ∙ ap (total neutral joined) r)
      ∙ sym (fold_from laws sum ys hsum (recursion_from_All is_part ys hys))
      ∙ ap (λ a. fold joined a ys) e
      ∙ sym (fold-append joined neutral (spans_parts part_at ss) ys)
      ∙ ap (total neutral joined) (sym (spans_parts-push part_at ss s))

-- one span more
pub spans_places-push : (ss : List Span) (s : Span) → spans_places (ss ++ s ∷ []) ≡ spans_places ss ++ span_places s
spans_places-push [] s = append-nil (span_places s)
spans_places-push (t ∷ ts) s = ap (λ ps. span_places t ++ ps) (spans_places-push ts s)
    ∙ sym (append_assoc (span_places t) (spans_places ts) (span_places s))

-- the first of several spans have no more places than all
pub spans_places-take : (k : ℕ) (ss : List Span) → length (spans_places (take k ss)) ≤ length (spans_places ss)
spans_places-take zero ss = omega arith
spans_places-take (suc k) [] = omega arith
spans_places-take (suc k) (s ∷ ss) =
    let l = spans_places-take k ss in
    omega (arith, length-append (span_places s) (spans_places (take k ss)), length-append (span_places s) (spans_places ss))

-- the places of one span more among the first of several
pub length-spans_more : (ss : List Span) (k : ℕ) (d : Span) → k < length ss → length (spans_places (take (k + 1) ss))
    ≡ length (spans_places (take k ss)) + ((get_or ss k d).to - (get_or ss k d).from)
length-spans_more ss k d h =
    let s = get_or ss k d in
    ap (λ ts. length (spans_places ts)) (take_more ss k d h)
    ∙ ap length (spans_places-push (take k ss) s)
    ∙ length-append (spans_places (take k ss)) (span_places s)
    ∙ ap (λ n. length (spans_places (take k ss)) + n) (length-places_from s.from (s.to - s.from))
