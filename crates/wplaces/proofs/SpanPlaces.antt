-- Places in spans.
use Rattle.std.proofs.Common.{◌≡◌, ℕ, zero, suc, ◌+◌, ◌-◌, ◌<◌, ◌≤◌, List, ◌∷◌, ◌++◌, Option}
use Rattle.std.proofs.Common.{Some, length, drop, get_or, sym, ap, ◌∙◌, arith}
use Rattle.std.proofs.lemmas.List.{at_drop_more}
use Rattle.std.specs.List.{slice_get, last_or}
use Rattle.wframe.specs.declared.frame.Span.{Span}
use Rattle.wframe.specs.Places.{places_from, spans_places}

at_places : (a n k : ℕ) (rest : List ℕ) → k < n → slice_get (places_from a n ++ rest) k ≡ Some (a + k)
at_places a zero k rest h = absurd (omega arith)
at_places a (suc n) zero rest h = ap (λ j. Some j) (omega arith)
at_places a (suc n) (suc k) rest h = at_places (a + 1) n k rest (omega arith) ∙ ap (λ j. Some j) (omega arith)

past_places : (a n k : ℕ) (rest : List ℕ) → n ≤ k → slice_get (places_from a n ++ rest) k ≡ slice_get rest (k - n)
past_places a zero k rest h = ap (slice_get rest) (omega arith)
past_places a (suc n) zero rest h = absurd (omega arith)
past_places a (suc n) (suc k) rest h = past_places (a + 1) n k rest (omega arith) ∙ ap (slice_get rest) (omega arith)

last_places : (o : Option ℕ) (a n : ℕ) (rest : List ℕ) → last_or o (places_from a (suc n) ++ rest) ≡ last_or (Some (a + n)) rest
last_places o a zero rest = ap (λ j. last_or (Some j) rest) (omega arith)
last_places o a (suc n) rest = last_places (Some a) (a + 1) n rest ∙ ap (λ j. last_or (Some j) rest) (omega arith)

-- a place in the first span
pub place_here : (s : Span) (ss : List Span) (k : ℕ) → k < s.to - s.from → slice_get (spans_places (s ∷ ss)) k ≡ Some (s.from + k)
place_here s ss k h = at_places s.from (s.to - s.from) k (spans_places ss) h

-- a place in a later span
pub place_later : (s : Span) (ss : List Span) (k : ℕ) → s.to - s.from ≤ k → slice_get (spans_places (s ∷ ss)) k
    ≡ slice_get (spans_places ss) (k - (s.to - s.from))
place_later s ss k h = past_places s.from (s.to - s.from) k (spans_places ss) h

-- the last place so far
pub last_here : (o : Option ℕ) (s : Span) (ss : List Span) → s.from < s.to → last_or o (spans_places (s ∷ ss))
    ≡ last_or (Some (s.to - 1)) (spans_places ss)
last_here o s ss h =
    let e : s.to - s.from ≡ suc (s.to - s.from - 1) = omega arith in
    let f : s.from + (s.to - s.from - 1) ≡ s.to - 1 = omega arith in
    ap (λ n. last_or o (places_from s.from n ++ spans_places ss)) e ∙ last_places o s.from (s.to - s.from - 1)
    (spans_places ss) ∙ ap (λ j. last_or (Some j) (spans_places ss)) f

pub last_before : (o : Option ℕ) (s : Span) (ss : List Span) → s.to ≤ s.from → last_or o (spans_places (s ∷ ss))
    ≡ last_or o (spans_places ss)
last_before o s ss h =
    let e : s.to - s.from ≡ 0 = omega arith in
    ap (λ n. last_or o (places_from s.from n ++ spans_places ss)) e

-- what a walk over the spans knows
pub found_here : (ss : List Span) (i k : ℕ) (d : Span) (found : Option ℕ) → i < length ss
    → k < (get_or ss i d).to - (get_or ss i d).from → slice_get (spans_places (drop i ss)) k ≡ found
    → Some ((get_or ss i d).from + k) ≡ found
found_here ss i k d found h l e = sym (place_here (get_or ss i d) (drop (i + 1) ss) k l)
    ∙ sym (at_drop_more (λ rest. slice_get (spans_places rest) k) ss i d h) ∙ e

pub found_later : (ss : List Span) (i k : ℕ) (d : Span) (found : Option ℕ) → i < length ss
    → (get_or ss i d).to - (get_or ss i d).from ≤ k → slice_get (spans_places (drop i ss)) k ≡ found
    → slice_get (spans_places (drop (i + 1) ss)) (k - ((get_or ss i d).to - (get_or ss i d).from)) ≡ found
found_later ss i k d found h l e = sym (place_later (get_or ss i d) (drop (i + 1) ss) k l)
    ∙ sym (at_drop_more (λ rest. slice_get (spans_places rest) k) ss i d h) ∙ e

pub last_here_at : (ss : List Span) (i : ℕ) (d : Span) (o last : Option ℕ) → i < length ss
    → (get_or ss i d).from < (get_or ss i d).to → last_or o (spans_places (drop i ss)) ≡ last
    → last_or (Some ((get_or ss i d).to - 1)) (spans_places (drop (i + 1) ss)) ≡ last
last_here_at ss i d o last h l e = sym (last_here o (get_or ss i d) (drop (i + 1) ss) l)
    ∙ sym (at_drop_more (λ rest. last_or o (spans_places rest)) ss i d h) ∙ e

pub last_before_at : (ss : List Span) (i : ℕ) (d : Span) (o last : Option ℕ) → i < length ss
    → (get_or ss i d).to ≤ (get_or ss i d).from → last_or o (spans_places (drop i ss)) ≡ last
    → last_or o (spans_places (drop (i + 1) ss)) ≡ last
last_before_at ss i d o last h l e = sym (last_before o (get_or ss i d) (drop (i + 1) ss) l)
    ∙ sym (at_drop_more (λ rest. last_or o (spans_places rest)) ss i d h) ∙ e
