-- Tests of what elements are seen as.
use Rattle.std.proofs.Common.{◌≡◌, ◌∙◌, ◌||◌, ◌<◌, Bool, not, ℕ, zero, suc, List, [], ◌∷◌, Some}
use Rattle.std.proofs.Common.{None, drop, drop-cons, get_or, length, map, refl, sym, ap, arith}
use Rattle.std.proofs.lemmas.List.{length-map}
use Rattle.std.specs.List.{list_any, position, prefix_len}
use Rattle.csv.specs.Records.{field_at}

pub list_any-map : {A B : Type 0} (p : B → Bool) (f : A → B) (xs : List A) → list_any p (map f xs) ≡ list_any (λ x. p (f x)) xs
list_any-map p f [] = refl
list_any-map p f (x ∷ xs) = ap (λ r. p (f x) || r) (list_any-map p f xs)

prefix-map : {A B : Type 0} (p : B → Bool) (f : A → B) (xs : List A) → prefix_len p (map f xs) ≡ prefix_len (λ x. p (f x)) xs
prefix-map p f [] = refl
prefix-map p f (x ∷ xs) = rw (prefix-map p f xs) refl

pub position-map : {A B : Type 0} (p : B → Bool) (f : A → B) (xs : List A) → position p (map f xs) ≡ position (λ x. p (f x)) xs
position-map p f xs = rw (prefix-map (λ x. not (p x)) f xs, length-map xs f) refl

-- the field at a place
pub field-found : (fields : List (List ℕ)) (i : ℕ) → i < length fields → field_at fields i ≡ None → ⊥
unfolding field_at
field-found [] i lt e = absurd (omega arith)
field-found (f ∷ fs) zero lt e = cc e
field-found (f ∷ fs) (suc i) lt e = field-found fs i (omega arith) e

pub field-drop : (fields : List (List ℕ)) (i : ℕ) (f : List ℕ) → field_at fields i ≡ Some f → drop i fields ≡ f ∷ drop (suc i) fields
unfolding field_at
field-drop [] i f e = cc e
field-drop (g ∷ fs) zero f e = cc e
field-drop (g ∷ fs) (suc i) f e = field-drop fs i f e

-- the item at a place, in front of those behind it
pub item-drop : {A : Type 0} (xs : List A) (i : ℕ) (x : A) → i < length xs → x ≡ get_or xs i x → drop i xs ≡ x ∷ drop (suc i) xs
item-drop xs i x lt is = drop-cons xs i x lt ∙ ap (λ y. y ∷ drop (suc i) xs) (sym is)
