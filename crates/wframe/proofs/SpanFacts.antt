-- Filters of places, span by span.
use Rattle.std.proofs.Common.{◌≡◌, ℕ, zero, suc, ◌+◌, ◌-◌, ◌<◌, ◌≤◌, Bool, true, false}
use Rattle.std.proofs.Common.{cond, List, [], ◌∷◌, ◌++◌, sym, ap, ◌∙◌, refl, arith}
use Rattle.std.specs.Prelude.{filter}
use Rattle.std.proofs.lemmas.List.Elements.{filter-append}
use Rattle.wframe.specs.Places.{places_from, places}

-- the places from a up to b
abbrev pub between : ℕ → ℕ → List ℕ
between a b = places_from a (b - a)

places_from-add : (a m k : ℕ) → places_from a (m + k) ≡ places_from a m ++ places_from (a + m) k
places_from-add a zero k =
    let e : 0 + k ≡ k = omega arith in
    let f : a + 0 ≡ a = omega arith in
    ap (places_from a) e ∙ ap (λ b. places_from b k) (sym f)
places_from-add a (suc m) k =
    let e : suc m + k ≡ suc (m + k) = omega arith in
    let f : a + 1 + m ≡ a + suc m = omega arith in
    ap (places_from a) e ∙ ap (λ ps. a ∷ ps) (places_from-add (a + 1) m k ∙ ap (λ b. places_from (a + 1) m ++ places_from b k) f)

pub between_split : (a b c : ℕ) → a ≤ b → b ≤ c → between a c ≡ between a b ++ between b c
between_split a b c h k =
    let e : c - a ≡ b - a + (c - b) = omega arith in
    let f : a + (b - a) ≡ b = omega arith in
    ap (places_from a) e ∙ places_from-add a (b - a) (c - b) ∙ ap (λ d. between a b ++ places_from d (c - b)) f

module _ (test : ℕ → Bool) where
  all_from : (a n : ℕ) → ((j : ℕ) → a ≤ j → j < a + n → test j ≡ true) → filter test (places_from a n) ≡ places_from a n
  all_from a zero h = refl
  all_from a (suc n) h =
      ap (λ b. cond b (a ∷ filter test (places_from (a + 1) n)) (filter test (places_from (a + 1) n))) (h a (omega arith) (omega arith))
      ∙ ap (λ ps. a ∷ ps) (all_from (a + 1) n (λ j l m. h j (omega arith) (omega arith)))

  none_from : (a n : ℕ) → ((j : ℕ) → a ≤ j → j < a + n → test j ≡ false) → filter test (places_from a n) ≡ []
  none_from a zero h = refl
  none_from a (suc n) h =
      ap (λ b. cond b (a ∷ filter test (places_from (a + 1) n)) (filter test (places_from (a + 1) n))) (h a (omega arith) (omega arith))
      ∙ none_from (a + 1) n (λ j l m. h j (omega arith) (omega arith))

  pub filter_all : (a b : ℕ) → ((j : ℕ) → a ≤ j → j < b → test j ≡ true) → filter test (between a b) ≡ between a b
  filter_all a b h = all_from a (b - a) (λ j l m. h j l (omega arith))

  pub filter_none : (a b : ℕ) → ((j : ℕ) → a ≤ j → j < b → test j ≡ false) → filter test (between a b) ≡ []
  filter_none a b h = none_from a (b - a) (λ j l m. h j l (omega arith))

  -- a span that passes, after places that do not
  pub filter_span : (low a b high : ℕ) (rest : List ℕ) → low ≤ a → a ≤ b → b ≤ high
      → ((j : ℕ) → low ≤ j → j < a → test j ≡ false) → ((j : ℕ) → a ≤ j → j < b → test j ≡ true)
      → filter test (between b high) ≡ rest → filter test (between low high) ≡ between a b ++ rest
  filter_span low a b high rest l h k out within e =
      let hi : a ≤ high = omega arith in
      ap (filter test) (between_split low a high l hi)
      ∙ filter-append test (between low a) (between a high)
      ∙ ap (λ ps. ps ++ filter test (between a high)) (filter_none low a out)
      ∙ ap (filter test) (between_split a b high h k)
      ∙ filter-append test (between a b) (between b high)
      ∙ ap (λ ps. ps ++ filter test (between b high)) (filter_all a b within)
      ∙ ap (λ ps. between a b ++ ps) e

  -- three spans that pass
  pub filter_spans : (a b c d e f n : ℕ) → a ≤ b → b ≤ c → c ≤ d → d ≤ e → e ≤ f → f ≤ n →
      ((j : ℕ) → j < a → test j ≡ false) → ((j : ℕ) → a ≤ j → j < b → test j ≡ true) →
      ((j : ℕ) → b ≤ j → j < c → test j ≡ false) → ((j : ℕ) → c ≤ j → j < d → test j ≡ true) →
      ((j : ℕ) → d ≤ j → j < e → test j ≡ false) → ((j : ℕ) → e ≤ j → j < f → test j ≡ true) →
      ((j : ℕ) → f ≤ j → test j ≡ false) →
      filter test (places n) ≡ between a b ++ (between c d ++ (between e f ++ []))
  filter_spans a b c d e f n ab bc cd de ef fn out_a in_a out_b in_b out_c in_c out_d =
      let z : 0 ≤ a = omega arith in
      let bn : b ≤ n = omega arith in
      let dn : d ≤ n = omega arith in
      let t : n - 0 ≡ n = omega arith in
      ap (λ m. filter test (places_from 0 m)) (sym t)
      ∙ filter_span 0 a b n (between c d ++ (between e f ++ [])) z ab bn (λ j l h. out_a j h) in_a
      (filter_span b c d n (between e f ++ []) bc cd dn out_b in_b
      (filter_span d e f n [] de ef fn out_c in_c (filter_none f n (λ j l h. out_d j l))))
