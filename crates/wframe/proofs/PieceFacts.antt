-- The places that are left of a span.
use Rattle.std.proofs.Common.{◌≡◌, ℕ, ◌+◌, ◌<◌, ◌≤◌, Bool, true, false, List, [], ◌∷◌, ◌++◌, sym, ap, ◌∙◌, refl, arith}
use Rattle.std.specs.Prelude.{filter, not, ◌&&◌, ◌||◌, ◌==◌, nat_le, nat_lt}
use Rattle.std.proofs.lemmas.Bool.Decides.{nat_tests}
use Rattle.std.proofs.lemmas.List.Elements.{filter_agree}
use Rattle.wframe.specs.declared.frame.Span.{Span}
use Rattle.wframe.specs.declared.frame.FrameExclusion.{FrameExclusion}
use Rattle.wframe.specs.declared.frame.FrameExclusion.TheVariants.{CurrentRow, Group, Ties, NoOthers}
use Rattle.wframe.specs.declared.exclusion.Gap.{Gap}
use Rattle.wframe.specs.Exclusion.{gap_of}
use Rattle.wframe.specs.Gaps.{nearest, before_gap, within_gap, behind_gap}
use Rattle.wframe.specs.Frame.{is_excluded}
use Rattle.wframe.specs.Places.{places, spans_places, is_in_span}
use Rattle.wframe.proofs.SpanFacts.{between, filter_spans}

-- r is the place of a span nearest to p
pub record IsClip (from to p r : ℕ) : Type 0 where
  pub low : from ≤ r
  pub high : r ≤ to
  pub before : p ≤ from → r ≡ from
  pub after : to ≤ p → r ≡ to
  pub inside : from ≤ p → p ≤ to → r ≡ p

abbrev pub is_left : ℕ → ℕ → ℕ → ℕ → ℕ → ℕ → ℕ → Bool
is_left f t a b c d j = (nat_le f j && nat_lt j t) && (nat_lt j a || (nat_le b j && nat_lt j c) || nat_le d j)

module _ (f t a b c d j : ℕ) where
  outside_low : j < f → is_left f t a b c d j ≡ false
  outside_low h = grind (arith, nat_tests)

  outside_high : t ≤ j → is_left f t a b c d j ≡ false
  outside_high h = grind (arith, nat_tests)

  inside_first : f ≤ j → j < t → j < a → is_left f t a b c d j ≡ true
  inside_first h k l = grind (arith, nat_tests)

  inside_second : f ≤ j → j < t → b ≤ j → j < c → is_left f t a b c d j ≡ true
  inside_second h k l m = grind (arith, nat_tests)

  inside_third : f ≤ j → j < t → d ≤ j → is_left f t a b c d j ≡ true
  inside_third h k l = grind (arith, nat_tests)

  outside_first : a ≤ j → j < b → j < d → is_left f t a b c d j ≡ false
  outside_first h k l = grind (arith, nat_tests)

  outside_second : a ≤ j → c ≤ j → j < d → is_left f t a b c d j ≡ false
  outside_second h k l = grind (arith, nat_tests)

-- for a place of the span, to lie below what is clipped is to lie below p
below_clip : (f t p r j : ℕ) → IsClip f t p r → f ≤ j → j < r → j < p
below_clip f t p r j q h k = grind arith

above_clip : (f t p r j : ℕ) → IsClip f t p r → j < t → r ≤ j → p ≤ j
above_clip f t p r j q h k = grind arith

clips_rise : (f t p q r s : ℕ) → IsClip f t p r → IsClip f t q s → p ≤ q → r ≤ s
clips_rise f t p q r s x y h = grind arith

pub pieces_rows : (f t a b c d a' b' c' d' n : ℕ) → f ≤ t → a ≤ b → b ≤ c → c ≤ d → IsClip f t a a' → IsClip f t b b'
    → IsClip f t c c' → IsClip f t d d' → t ≤ n → between f a' ++ (between b' c' ++ (between d' t ++ []))
    ≡ filter (is_left f t a b c d) (places n)
pieces_rows f t a b c d a' b' c' d' n ft ab bc cd ca cb cc' cd' tn =
    sym (filter_spans (is_left f t a b c d) f a' b' c' d' t n
    ca.low (clips_rise f t a b a' b' ca cb ab) (clips_rise f t b c b' c' cb cc' bc) (clips_rise f t c d c' d' cc' cd' cd) cd'.high tn
    (λ j h. outside_low f t a b c d j h)
    (λ j h k. let m : j < t = omega (arith, ca.high) in inside_first f t a b c d j h m (below_clip f t a a' j ca h k))
    (λ j h k.
    let m : j < t = omega (arith, cb.high) in
    let l : f ≤ j = omega (arith, ca.low) in
    let e = below_clip f t b b' j cb l k in
    outside_first f t a b c d j (above_clip f t a a' j ca m h) e (omega (arith, e)))
    (λ j h k.
    let m : j < t = omega (arith, cc'.high) in
    let l : f ≤ j = omega (arith, cb.low) in
    inside_second f t a b c d j l m (above_clip f t b b' j cb m h) (below_clip f t c c' j cc' l k))
    (λ j h k.
    let m : j < t = omega (arith, cd'.high) in
    let l : f ≤ j = omega (arith, cc'.low) in
    let e = above_clip f t c c' j cc' m h in
    outside_second f t a b c d j (omega (arith, e)) e (below_clip f t d d' j cd' l k))
    (λ j h k.
    let l : f ≤ j = omega (arith, cd'.low) in
    inside_third f t a b c d j l k (above_clip f t d d' j cd' k h))
    (λ j h. outside_high f t a b c d j h))

-- without its peers, but with the row
ties_at : (f t a b row j : ℕ) → a ≤ row → row < b → is_left f t a row (row + 1) b j
    ≡ ((nat_le f j && nat_lt j t) && not ((nat_le a j && nat_lt j b) && not (j == row)))
ties_at f t a b row j h k = grind (arith, nat_tests)

-- without its peers, and without the row
group_at : (f t a b row j : ℕ) → a ≤ row → row < b → is_left f t a b b b j ≡ ((nat_le f j && nat_lt j t) && not (nat_le a j && nat_lt j b))
group_at f t a b row j h k = grind (arith, nat_tests)

-- without the row
row_at : (f t row j : ℕ) → is_left f t row (row + 1) (row + 1) (row + 1) j ≡ ((nat_le f j && nat_lt j t) && not (j == row))
row_at f t row j = grind (arith, nat_tests)

-- with all
all_at : (f t j : ℕ) → is_left f t t t t t j ≡ ((nat_le f j && nat_lt j t) && true)
all_at f t j = grind (arith, nat_tests)

-- what lies in a span and not in its gap is what is not excluded
gap_at : (exclusion : FrameExclusion) (span peers : Span) (row j : ℕ) → peers.from ≤ row → row < peers.to →
    let g = gap_of exclusion span row peers in
    is_left span.from span.to g.from g.kept_from g.kept_to g.to j
    ≡ (is_in_span span j && not (is_excluded exclusion row j (is_in_span peers j)))
gap_at CurrentRow span peers row j h k = row_at span.from span.to row j
gap_at Group span peers row j h k = group_at span.from span.to peers.from peers.to row j h k
gap_at Ties span peers row j h k = ties_at span.from span.to peers.from peers.to row j h k
gap_at NoOthers span peers row j h k = all_at span.from span.to j

pub gap_rows : (exclusion : FrameExclusion) (span peers : Span) (row n : ℕ) (gap : Gap) (spans : List Span)
    → peers.from ≤ row → row < peers.to → gap ≡ gap_of exclusion span row peers →
    spans_places spans ≡ filter (is_left span.from span.to gap.from gap.kept_from gap.kept_to gap.to) (places n) →
    spans_places spans ≡ filter (λ j. is_in_span span j && not (is_excluded exclusion row j (is_in_span peers j))) (places n)
gap_rows exclusion span peers row n gap spans h k e r =
    let left = λ (g : Gap). is_left span.from span.to g.from g.kept_from g.kept_to g.to in
    r ∙ ap (λ g. filter (left g) (places n)) e
    ∙ filter_agree (left (gap_of exclusion span row peers)) (λ j. is_in_span span j
    && not (is_excluded exclusion row j (is_in_span peers j))) (λ j. gap_at exclusion span peers row j h k) (places n)

-- the spans around a gap and in it
abbrev pub pieces_of : Span → Gap → List Span
pieces_of s g = record { from = s.from; to = nearest s g.from } ∷ record {
  from = nearest s g.kept_from;
  to =
      nearest s g.kept_to;
} ∷ record { from = nearest s g.to; to = s.to } ∷ []

pub gap_list_of : (exclusion : FrameExclusion) (span peers : Span) (row : ℕ)
    → pieces_of span (gap_of exclusion span row peers) ≡ before_gap exclusion span row peers ∷ within_gap exclusion span row
    peers ∷ behind_gap exclusion span row peers ∷ []
gap_list_of CurrentRow span peers row = refl
gap_list_of Group span peers row = refl
gap_list_of Ties span peers row = refl
gap_list_of NoOthers span peers row = refl
