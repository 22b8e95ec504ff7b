-- What holds of all elements of lists, and of what is answered where nothing is at fault.
use Rattle.std.proofs.Common.{◌≡◌, ◌+◌, ◌<◌, Bool, true, false, cond, ℕ, zero, suc, List, [], ◌∷◌, ◌++◌, map, length, take}
use Rattle.std.proofs.Common.{drop, get_or, Some, None, Result, Ok, Err, IfOk, refl, ◌∙◌, arith, Ordering, is_gt}
use Rattle.std.specs.Prelude.{if◌then◌else◌}
use Rattle.std.specs.List.{AllByRecursion, filter, flat_map, list_all}
use Rattle.std.proofs.lemmas.Bool.{and_parts, and_from}
use Rattle.std.proofs.lemmas.List.Folds.{list_all-append}
use Rattle.wframe.specs.Places.{places, places_from}
use Rattle.wframe.specs.Sorting.{inserted, sorted}
use Rattle.wrows.specs.declared.fault.AnswerFault.{AnswerFault}
use Rattle.wrows.specs.Outcomes.{◌>>=◌, unless}

-- options

pub none_some : {X : Type 0} (x : X) → None ≡ Some x → ⊥
none_some x e = cc

pub some_is : {X : Type 0} (x y : X) → Some x ≡ Some y → x ≡ y
some_is x y e = cc

-- lists

pub filtered_all : {X : Type 0} (p test : X → Bool) (xs : List X) → list_all p xs ≡ true → list_all p (filter test xs) ≡ true
filtered_all p test [] a = refl
filtered_all p test (x ∷ xs) a =
    let h = and_parts _ _ a in go (test x) h.0 (filtered_all p test xs h.1)
  where
    go : (b : Bool) → p x ≡ true → list_all p (filter test xs) ≡ true → list_all p (cond b (x ∷ filter test xs) (filter test xs)) ≡ true
    go true first rest = and_from _ _ first rest
    go false first rest = rest

pub taken_all : {X : Type 0} (p : X → Bool) (n : ℕ) (xs : List X) → list_all p xs ≡ true → list_all p (take n xs) ≡ true
taken_all p zero xs a = refl
taken_all p (suc n) [] a = refl
taken_all p (suc n) (x ∷ xs) a =
    let h = and_parts _ _ a in and_from _ _ h.0 (taken_all p n xs h.1)

pub dropped_all : {X : Type 0} (p : X → Bool) (n : ℕ) (xs : List X) → list_all p xs ≡ true → list_all p (drop n xs) ≡ true
dropped_all p zero xs a = a
dropped_all p (suc n) [] a = refl
dropped_all p (suc n) (x ∷ xs) a = dropped_all p n xs (and_parts _ _ a).1

inserted_all : {X : Type 0} (p : X → Bool) (cmp : X → X → Ordering) (x : X) (ys : List X) → p x ≡ true → list_all p ys ≡ true
    → list_all p (inserted cmp x ys) ≡ true
inserted_all p cmp x [] first a = and_from _ _ first refl
inserted_all p cmp x (y ∷ ys) first a =
    let h = and_parts _ _ a in go (is_gt (cmp x y)) h.0 (inserted_all p cmp x ys first h.1)
  where
    go : (b : Bool) → p y ≡ true → list_all p (inserted cmp x ys) ≡ true
        → list_all p (if b then y ∷ inserted cmp x ys else x ∷ y ∷ ys) ≡ true
    go true second rest = and_from _ _ second rest
    go false second rest = and_from _ _ first a

pub sorted_all : {X : Type 0} (p : X → Bool) (cmp : X → X → Ordering) (xs : List X) → list_all p xs ≡ true
    → list_all p (sorted cmp xs) ≡ true
sorted_all p cmp [] a = refl
sorted_all p cmp (x ∷ xs) a =
    let h = and_parts _ _ a in inserted_all p cmp x (sorted cmp xs) h.0 (sorted_all p cmp xs h.1)

pub mapped_all : {X Y : Type 0} (p : X → Bool) (q : Y → Bool) (f : X → Y) (xs : List X) → ((x : X) → p x ≡ true → q (f x) ≡ true)
    → list_all p xs ≡ true → list_all q (map f xs) ≡ true
mapped_all p q f [] step a = refl
mapped_all p q f (x ∷ xs) step a =
    let h = and_parts _ _ a in
    and_from _ _ (step x h.0) (mapped_all p q f xs step h.1)

pub each_mapped : {X Y : Type 0} (q : Y → Bool) (f : X → Y) (xs : List X) → ((x : X) → q (f x) ≡ true) → list_all q (map f xs) ≡ true
each_mapped q f [] step = refl
each_mapped q f (x ∷ xs) step = and_from _ _ (step x) (each_mapped q f xs step)

pub each_flat : {X Y : Type 0} (q : Y → Bool) (f : X → List Y) (xs : List X) → ((x : X) → list_all q (f x) ≡ true)
    → list_all q (flat_map f xs) ≡ true
each_flat q f [] step = refl
each_flat q f (x ∷ xs) step =
    list_all-append q (f x) (flat_map f xs) ∙ and_from _ _ (step x) (each_flat q f xs step)

-- the element at a place, or what stands for it
pub at_or : {X : Type 0} (p : X → Bool) (xs : List X) (i : ℕ) (d : X) → list_all p xs ≡ true → p d ≡ true → p (get_or xs i d) ≡ true
at_or p [] i d a e = e
at_or p (x ∷ xs) zero d a e = (and_parts _ _ a).0
at_or p (x ∷ xs) (suc i) d a e = at_or p xs i d (and_parts _ _ a).1 e

pub at_below : {X : Type 0} (p : X → Bool) (xs : List X) (i : ℕ) (d : X) → list_all p xs ≡ true → i < length xs
    → p (get_or xs i d) ≡ true
at_below p [] i d a l = absurd (omega (arith, l))
at_below p (x ∷ xs) zero d a l = (and_parts _ _ a).0
at_below p (x ∷ xs) (suc i) d a l = at_below p xs i d (and_parts _ _ a).1 (omega (arith, l))

-- places

below_all : (p : ℕ → Bool) (a n : ℕ) → ((i : ℕ) → i < a + n → p i ≡ true) → list_all p (places_from a n) ≡ true
below_all p a zero h = refl
below_all p a (suc n) h =
    and_from _ _ (h a (omega arith)) (below_all p (a + 1) n (λ i l. h i (omega (arith, l))))

pub places_all : (p : ℕ → Bool) (n : ℕ) → ((i : ℕ) → i < n → p i ≡ true) → list_all p (places n) ≡ true
places_all p n h = below_all p 0 n (λ i l. h i (omega (arith, l)))

-- properties of each

pub mapped_each : {X Y : Type 0} (P : Y → Type 0) (p : X → Bool) (f : X → Y) (xs : List X) → ((x : X) → p x ≡ true → P (f x))
    → list_all p xs ≡ true → AllByRecursion P (map f xs)
mapped_each P p f [] step a = tt
mapped_each P p f (x ∷ xs) step a =
    let h = and_parts _ _ a in (step x h.0, mapped_each P p f xs step h.1)

pub behind_each : {Y : Type 0} (P : Y → Type 0) (xs ys : List Y) → AllByRecursion P xs → AllByRecursion P ys → AllByRecursion P (xs ++ ys)
behind_each P [] ys a b = b
behind_each P (x ∷ xs) ys a b = (a.0, behind_each P xs ys a.1 b)

pub flat_each : {X Y : Type 0} (P : Y → Type 0) (p : X → Bool) (f : X → List Y) (xs : List X)
    → ((x : X) → p x ≡ true → AllByRecursion P (f x)) → list_all p xs ≡ true → AllByRecursion P (flat_map f xs)
flat_each P p f [] step a = tt
flat_each P p f (x ∷ xs) step a =
    let h = and_parts _ _ a in
    behind_each P (f x) (flat_map f xs) (step x h.0) (flat_each P p f xs step h.1)

-- where nothing is at fault

pub then_ok : {A B : Type 0} (r : Result A AnswerFault) (f : A → Result B AnswerFault) (P : A → Type 0) (Q : B → Type 0)
    → IfOk r P → ((x : A) → P x → IfOk (f x) Q) → IfOk (r >>= f) Q
then_ok (Ok x) f P Q h step = step x h
then_ok (Err fault) f P Q h step = tt

pub then_any : {A B : Type 0} (r : Result A AnswerFault) (f : A → Result B AnswerFault) (Q : B → Type 0) → ((x : A) → IfOk (f x) Q)
    → IfOk (r >>= f) Q
then_any (Ok x) f Q step = step x
then_any (Err fault) f Q step = tt

pub unless_ok : {A : Type 0} (b : Bool) (fault : AnswerFault) (x : A) (P : A → Type 0) → P x → IfOk (unless b fault x) P
unless_ok true fault x P h = tt
unless_ok false fault x P h = h
