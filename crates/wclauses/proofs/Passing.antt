-- The way through the tokens, one token further.
use Rattle.std.proofs.Common.{◌≡◌, sym, ap, ◌∙◌, ℕ, ◌+◌, ◌<◌, List, [], ◌∷◌, ◌++◌, length, drop, arith, Option, Some}
use Rattle.std.proofs.Common.{get_or, slice_get, inl, inr}
use Rattle.std.proofs.lemmas.Grind.{common_steps}
use Rattle.std.proofs.lemmas.List.{append_assoc}
use Rattle.std.proofs.lemmas.Option.{slice_get_cases}
use Rattle.wlexer.specs.declared.token.Token.{Token}
use Rattle.wclauses.specs.declared.clauses.Standing.{Standing}
use Rattle.wclauses.specs.declared.pairs.Pair.{Pair}
use Rattle.wclauses.specs.Clauses.{Way, over, standings_from}

with_token : (pairs : List Pair) (ts : List Token) (n : ℕ) (t : Token) (done more all : List Standing) (way after : Way) → n < length ts
    → slice_get ts n ≡ Some t → get_or ts n t ≡ t → after ≡ over pairs ts n (slice_get ts n) way → more ≡ done ++ after.inner.standing ∷ []
    → done ++ standings_from pairs ts n (drop n ts) way ≡ all → more ++ standings_from pairs ts (n + 1) (drop (n + 1) ts) after ≡ all
with_token pairs ts n t done more all way after within found is step grown h =
    let here : drop n ts ≡ t ∷ drop (n + 1) ts = grind (arith, common_steps, is, within) in
    let rest : Way → List Standing = λ w. standings_from pairs ts (n + 1) (drop (n + 1) ts) w in
    let that : over pairs ts n (Some t) way ≡ after = ap (λ (o : Option Token). over pairs ts n o way) (sym found) ∙ sym step in
    ap (λ (xs : List Standing). xs ++ rest after) grown ∙ append_assoc done (after.inner.standing ∷ []) (rest after)
    ∙ sym (ap (λ (w : Way). done ++ (w.inner.standing ∷ rest w)) that)
    ∙ sym (ap (λ (us : List Token). done ++ standings_from pairs ts n us way) here) ∙ h

pub standing_more : (pairs : List Pair) (ts : List Token) (n : ℕ) (s : Standing) (done more all : List Standing) (way after : Way)
    → n < length ts → after ≡ over pairs ts n (slice_get ts n) way → s ≡ after.inner.standing → more ≡ done ++ s ∷ []
    → done ++ standings_from pairs ts n (drop n ts) way ≡ all → more ++ standings_from pairs ts (n + 1) (drop (n + 1) ts) after ≡ all
standing_more pairs ts n s done more all way after within step told grown h =
    elim (slice_get_cases ts n).1 [
      | inl (t, inside, found, is) ↦ with_token pairs ts n t done more all way after within found is step
          (grown ∙ ap (λ (x : Standing). done ++ x ∷ []) told) h
      | inr (past, none) ↦ absurd (omega (arith, past, within))
    ]
