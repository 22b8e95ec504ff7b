-- A call among the calls of a set.
use Rattle.std.proofs.Common.{◌≡◌, ℕ, ◌+◌, Bool, true, false, not, cond, ◌||◌, ◌≤◌, suc, subst, List, [], ◌∷◌, ◌++◌}
use Rattle.std.proofs.Common.{length, map, Option, Some, None, Result, Ok, Err, OnErr, refl, sym, ap, ◌∙◌, arith}
use Rattle.std.specs.Prelude.{if◌then◌else◌, nat_lt, unwrap_or}
use Rattle.std.specs.List.{list_any, position, position_or_len}
use Rattle.std.proofs.lemmas.List.{map-append}
use Rattle.std.proofs.lemmas.Option.{cond_some}
use Rattle.std.proofs.lemmas.Bool.Decides.{nat_tests}
use Rattle.wquery.specs.Tree.{Tree}
use Rattle.wnodes.specs.Sameness.{is_same}
use Rattle.wdistinct.specs.Calls.{with_new}
use Rattle.wdistinct.specs.Places.{place_of_same}
use Rattle.wnodes.specs.Plain.{same_equiv}

-- what follows holds of an error
pub on_err : {T E P Q : Type 0} (r : Result T E) → (P → Q) → OnErr r P → OnErr r Q
on_err (Ok v) f h = tt
on_err (Err e) f h = f h

module _ {K : Type 0} (says : K → Tree) where
  any_turned : (t : Tree) (ks : List K) → list_any (λ (u : Tree). is_same u t) (map says ks) ≡ list_any (λ k. is_same t (says k)) ks
  any_turned t [] = refl
  any_turned t (k ∷ ks) = λ i. same_equiv.symm (says k) t i || any_turned t ks i

  -- a call more
  pub added : (ks : List K) (k : K) → map says (if list_any (λ x. is_same (says k) (says x)) ks then ks else ks ++ (k ∷ []))
      ≡ with_new (map says ks) (says k ∷ [])
  added ks k = by (list_any (λ x. is_same (says k) (says x)) ks)
      ∙ ap (λ b. if b then map says ks else map says ks ++ (says k ∷ [])) (sym (any_turned (says k) ks))
    where
      by : (b : Bool) → map says (if b then ks else ks ++ (k ∷ [])) ≡ (if b then map says ks else map says ks ++ (says k ∷ []))
      by true = refl
      by false = map-append says ks (k ∷ [])

  -- a call to which none is equal
  pub absent : (ks : List K) (k : K) → list_any (λ x. is_same (says k) (says x)) ks ≡ false
      → list_any (λ (u : Tree). is_same u (says k)) (map says ks) ≡ false
  absent ks k none = any_turned (says k) ks ∙ none

  turned : (b : Bool) (m n : ℕ) → m ≡ n → cond (not b) (1 + m) 0 ≡ (if b then 0 else suc n)
  turned true m n e = refl
  turned false m n e = omega arith

  placed : (t : Tree) (ks : List K) → position_or_len (λ k. is_same t (says k)) ks ≡ place_of_same (map says ks) t
  placed t [] = refl
  placed t (k ∷ ks) = turned (is_same t (says k)) _ _ (placed t ks)
      ∙ ap (λ b. if b then 0 else suc (place_of_same (map says ks) t)) (same_equiv.symm t (says k))

  pub within : (t : Tree) (ks : List K) → place_of_same (map says ks) t ≤ length ks
  within t [] = omega arith
  within t (k ∷ ks) = by (is_same (says k) t) (within t ks)
    where
      by : (b : Bool) → place_of_same (map says ks) t ≤ length ks → (if b then 0 else suc (place_of_same (map says ks) t)) ≤ suc (length ks)
      by true h = omega arith
      by false h = omega arith

  -- the place that was found
  place_found : (t : Tree) (ks : List K) (o : Option ℕ) (i : ℕ) → o ≡ position (λ k. is_same t (says k)) ks → o ≡ Some i
      → i ≡ place_of_same (map says ks) t
  place_found t ks o i is some =
      sym (cond_some (nat_lt (position_or_len (λ k. is_same t (says k)) ks) (length ks))
      (position_or_len (λ k. is_same t (says k)) ks) i (sym is ∙ some)).1 ∙ placed t ks

  -- where none was found, the length
  none_found : (t : Tree) (ks : List K) (o : Option ℕ) → o ≡ position (λ k. is_same t (says k)) ks → o ≡ None
      → length ks ≡ place_of_same (map says ks) t
  none_found t ks o is none = by (nat_lt (position_or_len (λ k. is_same t (says k)) ks) (length ks)) refl (sym is ∙ none) ∙ placed t ks
    where
      by : (b : Bool) → nat_lt (position_or_len (λ k. is_same t (says k)) ks) (length ks) ≡ b
          → cond b (Some (position_or_len (λ k. is_same t (says k)) ks)) None ≡ None
          → length ks ≡ position_or_len (λ k. is_same t (says k)) ks
      by true e h = cc
      by false e h =
          let below : position_or_len (λ k. is_same t (says k)) ks ≤ length ks =
          subst (λ n. n ≤ length ks) (sym (placed t ks)) (within t ks) in
          grind (arith, nat_tests)

  -- the place that was found, or the length
  pub place_or_length : (t : Tree) (ks : List K) (o : Option ℕ) (n : ℕ) → o ≡ position (λ k. is_same t (says k)) ks
      → n ≡ length ks → unwrap_or o n ≡ place_of_same (map says ks) t
  place_or_length t ks None n is count = count ∙ none_found t ks None is refl
  place_or_length t ks (Some i) n is count = place_found t ks (Some i) i is refl
