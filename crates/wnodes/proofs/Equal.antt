-- What the arguments of calls say, and lists that end.
use Rattle.std.proofs.Common.{◌≡◌, ℕ, ◌-◌, leb, ◌≤◌, Bool, true, false, List, [], ◌∷◌, refl, ◌∙◌, sym, drop, length, arith, length-drop}
use Rattle.std.proofs.lemmas.Bool.{le-leb, lt-leb}
pub use Rattle.wquery.proofs.Says.{listed_says as view_of_listed, columns_says as view_of_columns}

-- lists that end

ended : {A : Type 0} (same : List A → List A → Bool) → same [] [] ≡ true
    → ((y : A) (ys : List A) → same [] (y ∷ ys) ≡ false) → (us vs : List A) (n p : ℕ) → length us ≡ 0 → length vs ≡ n - p
    → leb n p ≡ same us vs
ended same none more [] [] n p h k = le-leb n p (omega arith) ∙ sym none
ended same none more [] (v ∷ vs) n p h k = lt-leb n p (omega arith) ∙ sym (more v vs)
ended same none more (u ∷ us) vs n p h k = absurd (omega arith)

-- the first list has ended: they are the same where the second one has, too
pub ends : {A : Type 0} (same : List A → List A → Bool) → same [] [] ≡ true
    → ((y : A) (ys : List A) → same [] (y ∷ ys) ≡ false) → (xs ys : List A) (i p : ℕ) → length xs ≤ i → p ≡ i
    → leb (length ys) p ≡ same (drop i xs) (drop i ys)
ends same none more xs ys i p h e = ended same none more (drop i xs) (drop i ys) (length ys) p
    (simp length-drop (omega arith)) (simp length-drop (rw e refl))
