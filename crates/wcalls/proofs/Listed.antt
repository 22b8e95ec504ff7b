-- Lists that are made element by element.
use Rattle.std.proofs.Common.{◌&&◌, Bool, true}
use Rattle.std.proofs.Common.{◌≡◌, ℕ, ◌+◌, ◌<◌, ◌≤◌, List, [], ◌∷◌, ◌++◌, length, map, take, take_all, get_or, sym, ap, ◌∙◌}
use Rattle.std.specs.List.{list_all}
use Rattle.std.proofs.lemmas.List.{length-map, map-append, take_more}
use Rattle.std.proofs.lemmas.List.Folds.{list_all-append}

module _ {X Y Z : Type 0} (f : X → Y) (g : Y → Z) (xs : List X) where
  pub listed_more : (i : ℕ) (x : X) (made more : List Z) → i < length xs → x ≡ get_or xs i x
      → made ≡ map g (map f (take i xs)) → more ≡ made ++ g (f x) ∷ [] → more ≡ map g (map f (take (i + 1) xs))
  listed_more i x made more h e so_far is =
      is ∙ ap (λ l. l ++ g (f x) ∷ []) so_far
      ∙ sym (ap (map g) (map-append f (take i xs) (x ∷ [])) ∙ map-append g (map f (take i xs)) (f x ∷ []))
      ∙ ap (λ y. map g (map f (take i xs ++ y ∷ []))) e
      ∙ ap (λ l. map g (map f l)) (sym (take_more xs i x h))

  pub listed_all : (i : ℕ) (made : List Z) → length xs ≤ i → made ≡ map g (map f (take i xs)) → made ≡ map g (map f xs)
  listed_all i made h so_far = so_far ∙ ap (λ l. map g (map f l)) (take_all i xs h)

  pub listed_long : (made : List Z) → made ≡ map g (map f xs) → length made ≡ length xs
  listed_long made e = ap length e ∙ length-map (map f xs) g ∙ length-map xs f

-- the same of one function
pub mapped_more : {X Y : Type 0} (f : X → Y) (xs : List X) (i : ℕ) (x : X) (made more : List Y) → i < length xs → x ≡ get_or xs i x
    → made ≡ map f (take i xs) → more ≡ made ++ f x ∷ [] → more ≡ map f (take (i + 1) xs)
mapped_more f xs i x made more h e so_far is =
    is ∙ ap (λ l. l ++ f x ∷ []) so_far ∙ sym (map-append f (take i xs) (x ∷ [])) ∙ ap (λ y. map f (take i xs ++ y ∷ [])) e
    ∙ ap (map f) (sym (take_more xs i x h))

-- a test of all that are made, which is one of what they are made of
module _ {X Y : Type 0} (q : X → Bool) (p : Y → Bool) (xs : List X) where
  pub tested_more : (i : ℕ) (x : X) (y : Y) (made more : List Y) → i < length xs → x ≡ get_or xs i x → p y ≡ q x
      → list_all p made ≡ list_all q (take i xs) → more ≡ made ++ y ∷ [] → list_all p more ≡ list_all q (take (i + 1) xs)
  tested_more i x y made more h e alike so_far is =
      ap (list_all p) is ∙ list_all-append p made (y ∷ []) ∙ ap (λ b. b && list_all p (y ∷ [])) so_far
      ∙ ap (λ b. list_all q (take i xs) && (b && true)) alike ∙ sym (list_all-append q (take i xs) (x ∷ []))
      ∙ ap (λ z. list_all q (take i xs ++ z ∷ [])) e ∙ ap (list_all q) (sym (take_more xs i x h))

  pub tested_all : (i : ℕ) (made : List Y) → length xs ≤ i → list_all p made ≡ list_all q (take i xs) → list_all p made ≡ list_all q xs
  tested_all i made h so_far = so_far ∙ ap (list_all q) (take_all i xs h)
