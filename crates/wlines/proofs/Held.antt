-- Lemmas on what a source holds.
use Rattle.std.proofs.Common.{◌≡◌, ◌≢◌, ℕ, suc, ◌+◌, ◌-◌, ◌<◌, ◌≤◌, List, [], ◌∷◌, ◌++◌, length, take}
use Rattle.std.proofs.Common.{drop, get_or, Option, None, Some, refl, sym, ap, ◌∙◌, subst, arith, add-one}
use Rattle.std.proofs.Common.{drop-cons, length-take, length-drop, append_assoc, take-append-drop}
use Rattle.std.proofs.lemmas.List.{drop-take, drop-drop}
use Rattle.std.proofs.KnownBytes.{Consumes-trans}
use Rattle.std.specs.Io.KnownBytes.{Keeps, Consumes, prepend_known}

-- a byte that is held first is the next to come
pub first_held : (a b : Option (List ℕ)) (x : ℕ) (old new : List ℕ) → Keeps a (prepend_known old b) → old ≡ x ∷ new
    → Consumes a (prepend_known new b) (x ∷ [])
first_held None b x old new k e = tt
first_held (Some xs) None x old new k e = absurd k
first_held (Some xs) (Some ys) x old new k e = sym k ∙ ap (λ l. l ++ ys) e

pub window_first : (xs : List ℕ) (i j : ℕ) → i < j → j ≤ length xs
    → take (j - i) (drop i xs) ≡ get_or xs i 0 ∷ take (j - (i + 1)) (drop (i + 1) xs)
window_first xs i j h l =
    let size : j - i ≡ suc (j - (i + 1)) = omega arith in
    let short : i < length xs = omega arith in
    rw (drop-cons xs i 0, size, add-one) refl

pub window_none : (xs : List ℕ) (i j : ℕ) → i ≤ j → j ≤ length xs → take (j - i) (drop i xs) ≡ [] → i ≡ j
window_none xs i j h l e = omega (arith, ap length e, length-take (j - i) (drop i xs), length-drop i xs)

-- what is left of a window behind its first bytes
pub window_drop : (xs : List ℕ) (i j n : ℕ) → i ≤ j → j ≤ length xs → n ≤ length (take (j - i) (drop i xs))
    → take (j - (i + n)) (drop (i + n) xs) ≡ drop n (take (j - i) (drop i xs))
window_drop xs i j n h l w =
    let size : j - i ≡ n + (j - (i + n)) = omega (arith, length-take (j - i) (drop i xs), length-drop i xs) in
    sym (ap (λ k. drop n (take k (drop i xs))) size ∙ drop-take n (j - (i + n)) (drop i xs) ∙ ap (take (j - (i + n))) (drop-drop n i xs))

-- what is held first is the next to come
pub front_held : (a b : Option (List ℕ)) (n : ℕ) (old new : List ℕ) → Keeps a (prepend_known old b) → new ≡ drop n old
    → Consumes a (prepend_known new b) (take n old)
front_held None b n old new k e = tt
front_held (Some xs) None n old new k e = absurd k
front_held (Some xs) (Some ys) n old new k e =
    sym k ∙ ap (λ l. l ++ ys) (sym (take-append-drop n old)) ∙ append_assoc (take n old) (drop n old) ys
    ∙ ap (λ l. take n old ++ (l ++ ys)) (sym e)

-- what was taken so far, and then a front of what is held
pub piece_taken : (a b c d : Option (List ℕ)) (taken : List ℕ) (n : ℕ) (old new : List ℕ) → Consumes a b taken
    → Keeps b (prepend_known old d) → c ≡ prepend_known new d → new ≡ drop n old → Consumes a c (taken ++ take n old)
piece_taken a b c d taken n old new k kept is e = subst (λ x. Consumes a x (taken ++ take n old)) (sym is)
    (Consumes-trans a b (prepend_known new d) taken (take n old) k (front_held b d n old new kept e))

pub some_held : (xs : List ℕ) → xs ≢ [] → 0 < length xs
some_held [] some = absurd (some refl)
some_held (x ∷ xs) some = omega arith
