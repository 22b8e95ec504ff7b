-- Where a byte first stands, and what is left behind a place.
use Rattle.std.proofs.Common.{◌≡◌, ◌≢◌, ℕ, zero, suc, ◌+◌, ◌-◌, ◌<◌, List, [], ◌∷◌, ◌++◌, length, take, drop, get_or}
use Rattle.std.proofs.Common.{refl, sym, ap, ◌∙◌, arith, add-one, drop-cons, length-drop, take-append-drop}
use Rattle.std.proofs.lemmas.List.{take_all}
use Rattle.wlines.specs.Words.{Lacks}

pub Lacks-more : (c : ℕ) (xs : List ℕ) (i : ℕ) → i < length xs → Lacks c (take i xs) → get_or xs i 0 ≢ c → Lacks c (take (i + 1) xs)
Lacks-more c xs i h l n = rw add-one (by xs i h l n)
  where
    by : (xs : List ℕ) (i : ℕ) → i < length xs → Lacks c (take i xs) → get_or xs i 0 ≢ c → Lacks c (take (suc i) xs)
    by [] i h l n = absurd (omega arith)
    by (x ∷ xs) zero h l n = (n, tt)
    by (x ∷ xs) (suc i) h l n = (l.0, by xs i (omega arith) l.1 n)

-- there is one way to cut at the first such byte
pub cut_once : (c : ℕ) (a a' b b' : List ℕ) → Lacks c a → Lacks c a' → a ++ (c ∷ b) ≡ a' ++ (c ∷ b') → (a ≡ a') × (b ≡ b')
cut_once c [] [] b b' l l' e = (refl, cc)
cut_once c [] (y ∷ ys) b b' l l' e = absurd (l'.0 cc)
cut_once c (x ∷ xs) [] b b' l l' e = absurd (l.0 cc)
cut_once c (x ∷ xs) (y ∷ ys) b b' l l' e =
    let rest = cut_once c xs ys b b' l.1 l'.1 cc in
    (cc, rest.1)

-- where no byte is the one that is sought, there is no cut
pub no_cut : (c : ℕ) (xs a b : List ℕ) → Lacks c xs → xs ≡ a ++ (c ∷ b) → ⊥
no_cut c [] [] b l e = cc
no_cut c [] (y ∷ ys) b l e = cc
no_cut c (x ∷ xs) [] b l e = l.0 cc
no_cut c (x ∷ xs) (y ∷ ys) b l e = no_cut c xs ys b l.1 cc

pub cut_at : (c : ℕ) (xs : List ℕ) (i : ℕ) → i < length xs → get_or xs i 0 ≡ c → xs ≡ take i xs ++ (c ∷ drop (i + 1) xs)
cut_at c xs i h e =
    let rest : drop i xs ≡ c ∷ drop (i + 1) xs = rw add-one (drop-cons xs i 0 h ∙ ap (λ x. x ∷ drop (suc i) xs) e) in
    sym (take-append-drop i xs) ∙ ap (λ l. take i xs ++ l) rest

pub take_rest : (xs : List ℕ) (i : ℕ) → take (length xs - i) (drop i xs) ≡ drop i xs
take_rest xs i = take_all (length xs - i) (drop i xs) (omega (arith, length-drop i xs))
