-- A byte more behind an input.
use Rattle.std.proofs.Common.{◌≡◌, ◌⊎◌, inl, inr, ◌∙◌, ℕ, suc, ◌+◌, true, List, [], ◌∷◌, ◌++◌, length}
use Rattle.std.proofs.Common.{refl, sym, ap, ap₂, arith, append_assoc, append-nil, length-append}
use Rattle.std.specs.List.{flat_map, AllByRecursion}
use Rattle.std.proofs.lemmas.Grind.{flat_map-append}
use Rattle.std.proofs.lemmas.List.Sums.{fold-append}
use Rattle.wshell.specs.declared.mode.Mode.TheVariants as modes
use Rattle.wshell.specs.Splitting.{EndsNowhere, IsEnded, Splits, ended, may_end, mode_of, semicolon, step}

pub mode_push : (text : List ℕ) (b : ℕ) → step (mode_of text) b ≡ mode_of (text ++ b ∷ [])
mode_push text b = sym (fold-append step modes.Outside text (b ∷ []))

abbrev first_of : ℕ → List ℕ → ℕ
first_of d [] = d
first_of d (x ∷ xs) = x

abbrev others_of : List ℕ → List ℕ
others_of [] = []
others_of (x ∷ xs) = xs

-- where a byte stands in a text with one byte more
push_split : (text front more : List ℕ) (b s : ℕ) → text ++ b ∷ [] ≡ front ++ (s ∷ more) → ((text ≡ front) × (b ≡ s))
    ⊎ ((m : List ℕ) × (text ≡ front ++ (s ∷ m)))
push_split [] [] more b s e = inl (refl, ap (first_of b) e)
push_split [] (f ∷ fs) more b s e =
    let same : length (b ∷ []) ≡ suc (length fs + suc (length more)) = ap length e ∙ ap suc (length-append fs (s ∷ more)) in
    absurd (omega (arith, same))
push_split (t ∷ ts) [] more b s e = inr (ts, ap (λ x. x ∷ ts) (ap (first_of t) e))
push_split (t ∷ ts) (f ∷ fs) more b s e = by (push_split ts fs more b s (ap others_of e))
  where
    head : t ≡ f
    head = ap (first_of t) e

    by : ((ts ≡ fs) × (b ≡ s)) ⊎ ((m : List ℕ) × (ts ≡ fs ++ (s ∷ m))) → ((t ∷ ts ≡ f ∷ fs) × (b ≡ s))
        ⊎ ((m : List ℕ) × (t ∷ ts ≡ f ∷ (fs ++ (s ∷ m))))
    by (inl h) = inl (ap₂ (λ x xs. x ∷ xs) head h.0, h.1)
    by (inr h) = inr (h.0, ap₂ (λ x xs. x ∷ xs) head h.1)

pub ends_nowhere_nil : EndsNowhere []
ends_nowhere_nil front more h e =
    let same : 0 ≡ length front + suc (length more) = ap length e ∙ length-append front (semicolon ∷ more) in
    absurd (omega (arith, same))

-- a byte that ends no query
pub ends_nowhere_push : (text : List ℕ) (b : ℕ) → EndsNowhere text → (b ≡ semicolon → may_end (mode_of text) ≡ true → ⊥)
    → EndsNowhere (text ++ b ∷ [])
ends_nowhere_push text b nowhere other front more h e = by (push_split text front more b semicolon e)
  where
    by : ((text ≡ front) × (b ≡ semicolon)) ⊎ ((m : List ℕ) × (text ≡ front ++ (semicolon ∷ m))) → ⊥
    by (inl s) = other s.1 (ap (λ t. may_end (mode_of t)) s.0 ∙ h)
    by (inr s) = nowhere front s.0 h s.1

pub splits_nothing : Splits [] [] []
splits_nothing = record { whole = refl; each = tt; unended = ends_nowhere_nil }

pub splits_add : (input : List ℕ) (queries : List (List ℕ)) (rest : List ℕ) (b : ℕ) → Splits input queries rest
    → (b ≡ semicolon → may_end (mode_of rest) ≡ true → ⊥) → Splits (input ++ b ∷ []) queries (rest ++ b ∷ [])
splits_add input queries rest b s other = record {
  whole = ap (λ l. l ++ b ∷ []) s.whole ∙ append_assoc (flat_map ended queries) rest (b ∷ []);
  each = s.each;
  unended = ends_nowhere_push rest b s.unended other;
}

each_push : (queries : List (List ℕ)) (query : List ℕ) → AllByRecursion IsEnded queries → IsEnded query
    → AllByRecursion IsEnded (queries ++ query ∷ [])
each_push [] query each is = (is, tt)
each_push (q ∷ qs) query each is = (each.0, each_push qs query each.1 is)

pub splits_end : (input : List ℕ) (queries : List (List ℕ)) (rest : List ℕ) (b : ℕ) → Splits input queries rest
    → b ≡ semicolon → may_end (mode_of rest) ≡ true → Splits (input ++ b ∷ []) (queries ++ rest ∷ []) []
splits_end input queries rest b s e may = record {
  whole =
      ap₂ (λ l c. l ++ c ∷ []) s.whole e
      ∙ append_assoc (flat_map ended queries) rest (semicolon ∷ [])
      ∙ ap (λ l. flat_map ended queries ++ l) (sym (append-nil (ended rest)))
      ∙ sym (flat_map-append ended queries (rest ∷ []))
      ∙ sym (append-nil (flat_map ended (queries ++ rest ∷ [])));
  each = each_push queries rest s.each (may, s.unended);
  unended = ends_nowhere_nil;
}
