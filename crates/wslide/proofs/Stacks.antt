-- The folds along a stack.
use Rattle.std.proofs.Common.{◌≡◌, ℕ, zero, suc, ◌-◌, List, [], ◌∷◌, ◌++◌, length, take}
use Rattle.std.proofs.Common.{Some, None, sym, ap, ◌∙◌, refl, arith, append_assoc}
use Rattle.std.specs.Prelude.{reverse, All, slice_get}
use Rattle.std.specs.List.{AllByRecursion}
use Rattle.std.proofs.lemmas.List.Sums.{fold-append}
use Rattle.std.proofs.lemmas.List.{reverse-append}
use Rattle.std.proofs.lemmas.List.Elements.{recursion_from_All, All-nil, All-same, All-push}
use Rattle.wslide.specs.Laws.{FoldLaws, total}
use Rattle.wslide.specs.Stacks.{gathered, running}
use Rattle.wslide.proofs.Totals.{total_is}

module _ {P : Type 0} (joined : P → P → P) where
  pub running-push : (below : P) (xs : List P) (x : P) → running joined below (xs ++ x ∷ []) ≡ running joined below xs
      ++ joined x (gathered joined below xs) ∷ []
  running-push below [] x = refl
  running-push below (y ∷ ys) x = ap (λ zs. joined y below ∷ zs) (running-push (joined y below) ys x)

  pub length-running : (below : P) (xs : List P) → length (running joined below xs) ≡ length xs
  length-running below [] = refl
  length-running below (y ∷ ys) = ap suc (length-running (joined y below) ys)

  pub running-take : (k : ℕ) (below : P) (xs : List P) → running joined below (take k xs) ≡ take k (running joined below xs)
  running-take zero below xs = refl
  running-take (suc k) below [] = refl
  running-take (suc k) below (y ∷ ys) = ap (λ zs. joined y below ∷ zs) (running-take k (joined y below) ys)

  pub gathered-push : (below : P) (xs : List P) (x : P) → gathered joined below (xs ++ x ∷ []) ≡ joined x (gathered joined below xs)
  gathered-push below xs x = fold-append (λ a y. joined y a) below xs (x ∷ [])

  last_running : (below : P) (y : P) (ys : List P) → slice_get (running joined below (y ∷ ys)) (length ys)
      ≡ Some (gathered joined below (y ∷ ys))
  last_running below y [] = refl
  last_running below y (z ∷ zs) = last_running (joined y below) z zs

  -- the top of the folds is the fold of all
  pub top_running : (below : P) (xs zs : List P) (x : P) → zs ≡ running joined below xs
      → Some x ≡ slice_get zs (length zs - 1) → x ≡ gathered joined below xs
  top_running below [] zs x e h = let n : Some x ≡ None = h ∙ ap (λ l. slice_get l (length l - 1)) e in cc
  top_running below (y ∷ ys) zs x e h =
      let n : length (running joined below (y ∷ ys)) - 1 ≡ length ys = omega (arith, length-running below (y ∷ ys)) in
      let r : Some x ≡ Some (gathered joined below (y ∷ ys)) = h ∙ ap (λ l. slice_get l (length l - 1)) e
      ∙ ap (slice_get (running joined below (y ∷ ys))) n ∙ last_running below y ys in
      cc

reverse-cons : {P : Type 0} (x : P) (xs : List P) → reverse (x ∷ xs) ≡ reverse xs ++ x ∷ []
reverse-cons x xs = reverse-append (x ∷ []) xs

pub All-reverse : {P : Type 0} (is_part : P → Type 0) (xs : List P) → AllByRecursion is_part xs → All is_part (reverse xs)
All-reverse is_part [] hs = All-nil is_part
All-reverse is_part (x ∷ xs) hs = All-same is_part (reverse (x ∷ xs)) (reverse xs ++ x ∷ []) (reverse-cons x xs)
    (All-push is_part (reverse xs) x (All-reverse is_part xs hs.1) hs.0)

pub All-reversed : {P : Type 0} (is_part : P → Type 0) (xs : List P) → All is_part xs → All is_part (reverse xs)
All-reversed is_part xs hs = All-reverse is_part xs (recursion_from_All is_part xs hs)

-- a part that goes from the one stack to the other
moved_more : {P : Type 0} (back back' moved olds : List P) (part : P) → back ≡ back' ++ part ∷ []
    → back ++ reverse moved ≡ olds → back' ++ reverse (moved ++ part ∷ []) ≡ olds
moved_more back back' moved olds part b e =
    ap (λ xs. back' ++ xs) (reverse-append moved (part ∷ []))
    ∙ sym (append_assoc back' (part ∷ []) (reverse moved)) ∙ ap (λ xs. xs ++ reverse moved) (sym b) ∙ e

-- the older parts of a stack were moved to the folds of another one, the newest first
pub record IsTurned {P : Type 0} (is_part : P → Type 0) (neutral : P) (joined : P → P → P) (olds back front : List P)
    (below : P) : Type 0 where
  pub moved : List P
  pub split : back ++ reverse moved ≡ olds
  pub parts : All is_part moved
  pub folds : front ≡ running joined neutral moved
  pub gathers : below ≡ gathered joined neutral moved

pub turned_more : {P : Type 0} (is_part : P → Type 0) (neutral : P) (joined : P → P
    → P) (olds back back' front front' : List P) (part below below' : P)
    → back ≡ back' ++ part ∷ [] → front' ≡ front ++ below' ∷ [] → below' ≡ joined part below → is_part part
    → IsTurned is_part neutral joined olds back front below → IsTurned is_part neutral joined olds back' front' below'
turned_more is_part neutral joined olds back back' front front' part below below' b f j p t =
    let fold : below' ≡ joined part (gathered joined neutral t.moved) = j ∙ ap (joined part) t.gathers in
    record {
      moved = t.moved ++ part ∷ [];
      split = moved_more back back' t.moved olds part b t.split;
      parts = All-push is_part t.moved part t.parts p;
      folds = f ∙ ap (λ xs. xs ++ below' ∷ []) t.folds ∙ ap (λ x. running joined neutral t.moved ++ x ∷ []) fold
          ∙ sym (running-push joined neutral t.moved part);
      gathers = fold ∙ sym (gathered-push joined neutral t.moved part);
    }

module _ {P : Type 0} {is_part : P → Type 0} {neutral : P} {joined : P → P → P} (laws : FoldLaws is_part neutral joined) where
  gathered_from : (below : P) (xs : List P) → is_part below → AllByRecursion is_part xs
      → gathered joined below xs ≡ joined (total neutral joined (reverse xs)) below
  gathered_from below [] hb hs = sym (laws.left_neutral below hb)
  gathered_from below (x ∷ xs) hb hs =
      gathered_from (joined x below) xs (laws.closed x below hs.0 hb) hs.1
      ∙ sym (laws.assoc (total neutral joined (reverse xs)) x below (total_is laws (reverse xs) (All-reverse is_part xs hs.1)) hs.0 hb)
      ∙ ap (λ t. joined t below) (sym (ap (total neutral joined) (reverse-cons x xs) ∙ fold-append joined neutral (reverse xs) (x ∷ [])))

  -- what is gathered from the bottom of a stack up is the fold of its parts, the top one first
  pub gathered_is_total : (xs : List P) → All is_part xs → gathered joined neutral xs ≡ total neutral joined (reverse xs)
  gathered_is_total xs hs =
      gathered_from neutral xs laws.neutral_is (recursion_from_All is_part xs hs)
      ∙ laws.right_neutral (total neutral joined (reverse xs))
      (total_is laws (reverse xs) (All-reverse is_part xs (recursion_from_All is_part xs hs)))

  pub gathered_is : (xs : List P) → All is_part xs → is_part (gathered joined neutral xs)
  gathered_is xs hs = rw (gathered_is_total xs hs) (total_is laws (reverse xs) (All-reverse is_part xs (recursion_from_All is_part xs hs)))
